-- A table with the stack of its FREE places: the last laid is taken first. L is the table and S the stack.
-- Assumes nothing.
use Rattle.std.specs.Prelude.{◌≡◌, ℕ, ◌-◌, ◌<◌, Bool, true, not, ◌&&◌, ◌||◌, List, [], ◌∷◌, ◌++◌, length, take, filter, ◌==◌, nat_lt, slice_set}
use Rattle.std.specs.List.{range_with_len, suffix_len}
use Rattle.links.specs.Links as links
use Rattle.links.specs.Links.{FREE, END, POINTERS, at, In, Apart}
use Rattle.links.specs.Walk.{last_or, holds}

-- S holds each FREE place of L once, and nothing else
pub record Stacks (L S : List ℕ) : Type 0 where
  pub apart : Apart S
  pub free : (p : ℕ) → In p S → (p < length L) × (at L p ≡ FREE)
  pub all : (p : ℕ) → p < length L → at L p ≡ FREE → In p S

-- the same, computed, as a value that holds both can state it: no element twice
abbrev pub single : List ℕ → Bool
single [] = true
single (x ∷ S) = not (holds x S) && single S

-- and p stands in the stack exactly if this is true
abbrev pub vacant : List ℕ → ℕ → Bool
vacant L p = nat_lt p (length L) && links.free (at L p)

-- whether a place can be taken: a FREE one, or one more behind the last
abbrev pub has_room : List ℕ → List ℕ → Bool
has_room L [] = nat_lt (length L) 4096
has_room L (x ∷ S) = true

-- the place that is taken
abbrev pub place_after : List ℕ → List ℕ → ℕ
place_after L S = last_or (length L) S

-- the table after it was taken: it is linked END
abbrev pub links_taken : List ℕ → List ℕ → List ℕ
links_taken L [] = L ++ END ∷ []
links_taken L (x ∷ S) = slice_set L (last_or x S) END

-- the stack after it was taken
abbrev pub stack_taken : List ℕ → List ℕ
stack_taken S = take (length S - 1) S

-- whether a place can be put behind the place e: that must be the last of its chain
abbrev pub joinable : List ℕ → List ℕ → ℕ → Bool
joinable L S e = at L e == END && has_room L S

-- a link that a chain can be cut off behind
abbrev pub onward : ℕ → Bool
onward x = nat_lt x POINTERS || x == END

-- how many links stay where the trailing FREE ones go
abbrev pub trimmed : List ℕ → ℕ
trimmed L = length L - suffix_len links.free L

-- the FREE places, rising
abbrev pub free_places : List ℕ → List ℕ
free_places L = filter (λ p. links.free (at L p)) (range_with_len 0 (length L))
