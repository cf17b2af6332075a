-- Link tables: a place holds FREE, END, or a pointer, the number of the next place; or one of the three numbers that are
-- neither. Nearly everything is stated over the look-up function a = at L of a table L.
-- Assumes nothing.
use Rattle.std.specs.Prelude.{◌≡◌, ℕ, ◌<◌, Bool, not, ◌≢◌, ◌⊎◌, List, [], ◌∷◌, length, Some, None, Option, ◌==◌, slice_index_or}

-- the place is on no chain
abbrev pub FREE : ℕ
FREE = 0xffffffff

-- the place is the last of its chain
abbrev pub END : ℕ
END = 0xfffffffe

-- the numbers below this are the pointers
abbrev pub POINTERS : ℕ
POINTERS = 0xfffffffb

abbrev pub free : ℕ → Bool
free x = x == FREE

abbrev pub live : ℕ → Bool
live x = not (x == FREE)

-- the link at a place; past the end of the table there is none, and this says FREE
abbrev pub at : List ℕ → ℕ → ℕ
at L p = slice_index_or L p FREE

-- x stands in the list
abbrev pub In : ℕ → List ℕ → Type 0
In x [] = ⊥
In x (y ∷ ys) = (x ≡ y) ⊎ In x ys

-- no element twice
abbrev pub Apart : List ℕ → Type 0
Apart [] = Unit {0}
Apart (x ∷ xs) = (In x xs → ⊥) × Apart xs

-- ps are the places that are met from the link v on, until the link w
abbrev pub Seg : (ℕ → ℕ) → ℕ → List ℕ → ℕ → Type 0
Seg a v [] w = v ≡ w
Seg a v (p ∷ ps) w = (p ≡ v) × (v < POINTERS) × Seg a (a v) ps w

-- ps are the places from v on until the pointers lead to END
abbrev pub Path : (ℕ → ℕ) → ℕ → List ℕ → Type 0
Path a v ps = Seg a v ps END

-- p is a head and ps is its chain: p is a place, no pointer points to it, and the pointers lead from it to END
-- (its link is then not FREE)
pub record Head (a : ℕ → ℕ) (p : ℕ) (ps : List ℕ) : Type 0 where
  pub place : p < POINTERS
  pub first : (q : ℕ) → a q ≢ p
  pub path : Path a p ps

abbrev pub IsHead : (ℕ → ℕ) → ℕ → Type 0
IsHead a p = (ps : List ℕ) × Head a p ps

-- p stands on the chain of a head
abbrev pub OnChain : (ℕ → ℕ) → ℕ → Type 0
OnChain a p = (h : ℕ) × (ps : List ℕ) × Head a h ps × In p ps

-- how many places the chain of p has, and nothing where p is no head
abbrev pub Units : (ℕ → ℕ) → ℕ → Option ℕ → Type 0
Units a p None = IsHead a p → ⊥
Units a p (Some n) = (ps : List ℕ) × Head a p ps × (length ps ≡ n)

-- what the check asks of a table: a pointer leads to a link that is there and not FREE, and no two pointers are equal
pub record Checked (a : ℕ → ℕ) : Type 0 where
  pub leads : (p : ℕ) → a p < POINTERS → a (a p) ≢ FREE
  pub apart : (p q : ℕ) → a p < POINTERS → a p ≡ a q → p ≡ q
