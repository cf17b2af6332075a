-- The check of a table: which fault a place has, and which place is the lowest that has one.
-- Assumes nothing.
use Rattle.std.specs.Prelude.{◌≡◌, ℕ, zero, suc, ◌<◌, cond, List, ◌++◌, length, codes, decimal, take, Some, None, Ok, Err, Option, Result, ◌==◌, nat_lt}
use Rattle.std.specs.Option.{option_or}
use Rattle.links.specs.declared.checks.LinkFault.{LinkFault}
use Rattle.links.specs.declared.checks.LinkFault.TheVariants.{Dangling, Shared}
use Rattle.links.specs.Links.{FREE, POINTERS, at}
use Rattle.links.specs.Walk.{holds}

-- the refusal's number
abbrev pub number_of : LinkFault → ℕ
number_of (Dangling p) = 6
number_of (Shared p) = 7

-- the place that it tells
abbrev pub place_of : LinkFault → ℕ
place_of (Dangling p) = p
place_of (Shared p) = p

-- why it is refused, in words
abbrev pub reason : LinkFault → List ℕ
reason (Dangling p) = codes "its pointer is past the table's end or leads to a FREE link"
reason (Shared p) = codes "a lower place has the same pointer"

-- what is printed of it
abbrev pub fault_text : LinkFault → List ℕ
fault_text f = codes "refused " ++ decimal (number_of f) ++ codes " place " ++ decimal (place_of f) ++ codes ": " ++ reason f

-- a pointer v at the place p: 6 where it is not below the count or leads to a FREE link, else 7 where it was met before p
abbrev pub pointer_fault : List ℕ → ℕ → ℕ → Option LinkFault
pointer_fault L p v = cond (at L v == FREE) (Some (Dangling p)) (cond (holds v (take p L)) (Some (Shared p)) None)

-- the fault of the place p; a link that is no pointer has none
abbrev pub fault_at : List ℕ → ℕ → Option LinkFault
fault_at L p = cond (nat_lt (at L p) POINTERS) (pointer_fault L p (at L p)) None

-- the first that f finds at the n places from p on, rising
abbrev pub first_of : {F : Type 0} → (ℕ → Option F) → ℕ → ℕ → Option F
first_of f zero p = None
first_of f (suc n) p = option_or (f p) (first_of f n (suc p))

-- refused by what was found, or v
abbrev pub settled : {A F : Type 0} → Option F → A → Result A F
settled None v = Ok v
settled (Some f) v = Err f

-- the first fault of the n places from p on, rising
abbrev pub first_fault : List ℕ → ℕ → ℕ → Option LinkFault
first_fault L = first_of (fault_at L)

-- what the check answers
abbrev pub verdict : List ℕ → Result Unit LinkFault
verdict L = settled (first_fault L (length L) 0) tt

-- the same said without a search: accepted where no place has a fault, and else refused with that of the lowest place
abbrev pub Lowest : List ℕ → Result Unit LinkFault → Type 0
Lowest L (Ok _) = (p : ℕ) → p < length L → fault_at L p ≡ None
Lowest L (Err f) = (place_of f < length L) × (fault_at L (place_of f) ≡ Some f) × ((p : ℕ) → p < place_of f → fault_at L p ≡ None)
