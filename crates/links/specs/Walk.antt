-- The same, computed: a walk of at most m steps from the link v. It goes on while there is a link.
-- Assumes nothing.
use Rattle.std.specs.Prelude.{ℕ, zero, suc, Bool, false, cond, not, ◌&&◌, ◌||◌, List, [], ◌∷◌, length, Some, None, Option, ◌==◌, nat_lt}
use Rattle.links.specs.Links.{END, at}
use Rattle.links.specs.declared.walks.Surveyed.{Surveyed}

-- where it stops
abbrev pub stop : ℕ → List ℕ → ℕ → ℕ
stop zero L v = v
stop (suc m) L v = cond (nat_lt v (length L)) (stop m L (at L v)) v

-- the places that it meets
abbrev pub trace : ℕ → List ℕ → ℕ → List ℕ
trace zero L v = []
trace (suc m) L v = cond (nat_lt v (length L)) (v ∷ trace m L (at L v)) []

-- the last of a list, and d where it has none
abbrev pub last_or : ℕ → List ℕ → ℕ
last_or d [] = d
last_or d (x ∷ xs) = last_or x xs

-- what stands at a rank of a list, and the last of it where it is shorter
abbrev pub reach : ℕ → List ℕ → ℕ → ℕ
reach d [] r = d
reach d (x ∷ xs) zero = x
reach d (x ∷ xs) (suc r) = reach x xs r

-- p stands in the list
abbrev pub holds : ℕ → List ℕ → Bool
holds p [] = false
holds p (x ∷ xs) = x == p || holds p xs

-- p is a head: below the count, pointed to by no place, and a walk as long as the table ends at END
abbrev pub headed : List ℕ → ℕ → Bool
headed L p = (nat_lt p (length L) && stop (length L) L p == END) && not (holds p L)

-- the chain of a head, and nothing where p is none
abbrev pub chain_of : List ℕ → ℕ → Option (List ℕ)
chain_of L p = cond (headed L p) (Some (trace (length L) L p)) None

-- how many units a chain has, and its place at a rank, or its last place where it is shorter
abbrev pub surveyed : Option (List ℕ) → ℕ → Option Surveyed
surveyed None rank = None
surveyed (Some ps) rank = Some (record { units = length ps; place = reach 0 ps rank })
