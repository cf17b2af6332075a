-- Units that note their head and their rank: N has what each unit notes, nothing where it is on no chain.
-- Assumes nothing.
use Rattle.std.specs.Prelude.{◌≡◌, ℕ, zero, suc, ◌+◌, Bool, true, false, ◌&&◌, ◌||◌, List, [], ◌∷◌, length, is_some, is_none, Some, None, Option, ◌==◌, nat_lt, position, take_while, slice_index_or}
use Rattle.std.specs.List.{range_with_len}
use Rattle.cells.specs.declared.Note.{Note}

-- what a unit notes; past the units nothing does
abbrev pub note_at : List (Option Note) → ℕ → Option Note
note_at N u = slice_index_or N u None

-- this notes the head h and the rank r
abbrev pub notes : ℕ → ℕ → Option Note → Bool
notes h r None = false
notes h r (Some n) = n.head == h && n.rank == r

-- the unit that notes the head h and the rank r
abbrev pub unit_at : List (Option Note) → ℕ → ℕ → Option ℕ
unit_at N h r = position (notes h r) N

-- how many ranks of the head h are noted, from 0 on
abbrev pub ranks : List (Option Note) → ℕ → ℕ
ranks N h = length (take_while (λ r. is_some (unit_at N h r)) (range_with_len 0 64))

-- the lowest unit on no chain
abbrev pub lowest_free : List (Option Note) → Option ℕ
lowest_free N = position is_none N

-- a unit with those behind it, as long as there is one
abbrev pub followed : Option ℕ → List ℕ → List ℕ
followed None us = []
followed (Some u) us = u ∷ us

-- the units of the ranks r, r + 1, .. of the head h, as long as there is one
unfoldable pub run : ℕ → List (Option Note) → ℕ → ℕ → List ℕ
run zero N h r = []
run (suc n) N h r = followed (unit_at N h r) (run n N h (suc r))

-- the units of a head's chain, in the order of their ranks
unfoldable pub path : List (Option Note) → ℕ → List ℕ
path N h = run (length N) N h 0

-- how many units a chain has, and nothing where there is none
abbrev pub counted : List ℕ → Option ℕ
counted [] = None
counted (u ∷ us) = Some (length (u ∷ us))

-- no two units note the same
abbrev pub Unique : List (Option Note) → Type 0
Unique N = (u v : ℕ) (n : Note) → note_at N u ≡ Some n → note_at N v ≡ Some n → u ≡ v

-- no rank is left out
abbrev pub Down : List (Option Note) → Type 0
Down N = (u h r : ℕ) → note_at N u ≡ Some (record { head = h; rank = r + 1 }) → is_some (unit_at N h r) ≡ true

-- the first unit of a chain names its head
abbrev pub Named : List (Option Note) → Type 0
Named N = (u h : ℕ) → note_at N u ≡ Some (record { head = h; rank = 0 }) → h ≡ u

-- a free unit u can go to the end of the chain of h: h is a head, or will be, named by u
abbrev pub joins : List (Option Note) → ℕ → ℕ → Bool
joins N u h = (nat_lt u (length N) && is_none (note_at N u)) && (nat_lt 0 (length (path N h)) || u == h)
