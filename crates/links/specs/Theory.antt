-- What is true of every table and of every change of one: the theorems that the layers above rest on.
-- Assumes nothing.
use Rattle.std.specs.Prelude.{◌≡◌, ℕ, ◌+◌, ◌<◌, ◌≤◌, ◌≢◌, ◌↔◌, List, [], ◌∷◌, ◌++◌, length, take, Some, Ok, sum_by, count_by, slice_set}
use Rattle.links.specs.Links.{FREE, END, POINTERS, free, at, In, Apart, Path, Checked, Head}
use Rattle.links.specs.Chains.{Wrote, Wiped, Wiping, Taken, Appended, Parted, Freed, FreedWhole, Extended, Shortened}
use Rattle.links.specs.Check.{verdict}
use Rattle.links.specs.Walk.{chain_of}

-- the path from a place to END is unique
abbrev pub Unique : Type 0
Unique = (a : ℕ → ℕ) (v : ℕ) (ps qs : List ℕ) → Path a v ps → Path a v qs → ps ≡ qs

-- a change of links off a path leaves the path
abbrev pub Framed : Type 0
Framed = (a b : ℕ → ℕ) (v : ℕ) (ps : List ℕ) → ((k : ℕ) → In k ps → b k ≡ a k) → Path a v ps → Path b v ps

-- a path holds no place twice, only places of the table that are not FREE, and no more of them than the table has
pub record Sound (L ps : List ℕ) : Type 0 where
  pub apart : Apart ps
  pub used : (x : ℕ) → In x ps → (x < length L) × (at L x ≢ FREE)
  pub short : length ps ≤ length L

abbrev pub Sounds : Type 0
Sounds = (L : List ℕ) (v : ℕ) (ps : List ℕ) → Path (at L) v ps → Sound L ps

-- on a checked table two heads share no place
abbrev pub Disjoint : Type 0
Disjoint = (a : ℕ → ℕ) (h k x : ℕ) (ps qs : List ℕ) → Checked a → Head a h ps → Head a k qs → In x ps → In x qs → h ≡ k

-- the sizes of the chains of any heads, and the free links, are together at most the count
abbrev pub Within : Type 0
Within = (L : List ℕ) (chain : ℕ → List ℕ) (hs : List ℕ) → Checked (at L) → Apart hs
    → ((h : ℕ) → In h hs → Head (at L) h (chain h)) → sum_by (λ h. length (chain h)) hs + count_by free L ≤ length L

-- a table is accepted by the check exactly if it is checked
abbrev pub Decides : Type 0
Decides = (L : List ℕ) → (verdict L ≡ Ok tt) ↔ Checked (at L)

-- a chain as it is computed is that of a head as it is defined
abbrev pub Heads : Type 0
Heads = (L : List ℕ) (p : ℕ) (ps : List ℕ) → length L ≤ 4096 → (chain_of L p ≡ Some ps) ↔ Head (at L) p ps

-- taking a free place
abbrev pub Takes : Type 0
Takes = (L : List ℕ) (f : ℕ) → Checked (at L) → f < length L → f < POINTERS → at L f ≡ FREE → Taken (at L) (at (slice_set L f END)) f

-- growing by one place
abbrev pub Grows : Type 0
Grows = (L : List ℕ) → Checked (at L) → length L < POINTERS → Taken (at L) (at (L ++ END ∷ [])) (length L)

-- putting one chain behind another
abbrev pub Appends : Type 0
Appends = (L : List ℕ) (h f : ℕ) (es : List ℕ) (e : ℕ) (fs : List ℕ)
    → Checked (at L) → Head (at L) h (es ++ e ∷ []) → Head (at L) f fs → f ≢ h → Appended (at L) (at (slice_set L e f)) h f es e fs

-- putting a free place behind a chain: it is linked END first, and joined last
abbrev pub Extends : Type 0
Extends = (a b c : ℕ → ℕ) (h f : ℕ) (es : List ℕ) (e : ℕ) → Checked a → Head a h (es ++ e ∷ []) → f < POINTERS → a f ≡ FREE
    → Wrote a b f END → Wrote b c e f → Extended a c h f (es ++ e ∷ [])

-- cutting a chain off behind a place
abbrev pub Cuts : Type 0
Cuts = (L : List ℕ) (h : ℕ) (es : List ℕ) (e q : ℕ) (qs : List ℕ)
    → Checked (at L) → Head (at L) h (es ++ e ∷ q ∷ qs) → Parted (at L) (at (slice_set L e END)) h es e q qs

-- cutting a chain off behind a place and freeing what followed
abbrev pub Shortens : Type 0
Shortens = (a b c : ℕ → ℕ) (h : ℕ) (es : List ℕ) (e q : ℕ) (qs : List ℕ) → Checked a → Head a h (es ++ e ∷ q ∷ qs)
    → Wrote a b e END → Wiped b c (q ∷ qs) → Shortened a c h q (es ++ e ∷ [])

-- freeing the first place of a chain
abbrev pub Frees : Type 0
Frees = (L : List ℕ) (p : ℕ) (qs : List ℕ) → Checked (at L) → Head (at L) p (p ∷ qs) → Freed (at L) (at (slice_set L p FREE)) p qs

-- freeing a whole chain
abbrev pub Wipes : Type 0
Wipes = (a b : ℕ → ℕ) (p : ℕ) (ps : List ℕ) → Checked a → Head a p ps → Wiped a b ps → FreedWhole a b p

-- freeing a chain place by place from its head on: the place that is come to is not freed yet, and at the end all are
abbrev pub Steps : Type 0
Steps = (a b c : ℕ → ℕ) (h v : ℕ) (ps : List ℕ) → Path a h ps → Wiping a b h v
    → (v < POINTERS → (b v ≡ a v) × (a v ≢ FREE) × (Wrote b c v FREE → Wiping a c h (b v))) × (POINTERS ≤ v → Wiped a b ps)

-- trimming trailing FREE links changes no look-up, so no head and no chain
abbrev pub Trims : Type 0
Trims = (L : List ℕ) (m : ℕ) → ((k : ℕ) → m ≤ k → at L k ≡ FREE) → at (take m L) ≡ at L
