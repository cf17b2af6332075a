-- How many places chains have together.
-- Assumes nothing.
use Rattle.std.proofs.Common.{◌≡◌, ℕ, suc, ◌+◌, ◌<◌, ◌≤◌, Bool, true, false, cond, not, ◌≢◌, List, [], ◌∷◌, length, set, sum_by, count_by, sym, refl, ap, ◌∙◌, inl, inr, ⊎_elim, arith}
use Rattle.std.specs.List.{flat_map}
use Rattle.std.proofs.lemmas.List.{get_or-set_same, get_or-set_other, get_or_past, length-set, set_past}
use Rattle.std.proofs.lemmas.List.Sums.{sum_by-set, sum_by-cons, count_by-le-length}
use Rattle.std.proofs.lemmas.Bool.{cases_lt, ne_eqb, eq-eqb, false≢true}
use Rattle.links.specs.Links.{FREE, free, live, at, In, Apart, Path, Checked, Head}
use Rattle.links.proofs.Members.{apart_append, in_joined, length-joined}
use Rattle.links.proofs.Paths.{used, same_head, no_repeat}

-- a place whose link is not FREE is below the count
pub inside : (L : List ℕ) (p : ℕ) → at L p ≢ FREE → p < length L
inside L p n = ⊎_elim (λ l. l) (λ l. absurd (n (get_or_past L p FREE l))) (cases_lt p (length L))

-- distinct places whose links are not FREE: each is counted once, by making it FREE and going on with the rest
pub live_count : (L ps : List ℕ) → Apart ps → ((x : ℕ) → In x ps → at L x ≢ FREE) → length ps ≤ count_by live L
live_count L [] h u = omega arith
live_count L (p ∷ ps) h u =
    let r = live_count (set L p FREE) ps h.1 (λ x i. rw (get_or-set_other L p x FREE FREE (λ e. h.0 (rw e at i))) (u x (inr i))) in
    let s = sum_by-set (λ x. cond (live x) 1 0) L p FREE FREE (inside L p (u p (inl refl))) in
    let t = rw (ne_eqb (at L p) FREE (u p (inl refl))) at s in
    omega arith

-- none of whose links is not FREE
none_live : (L : List ℕ) → ((x : ℕ) → at L x ≢ FREE → ⊥) → count_by live L ≡ 0
none_live [] n = refl
none_live (y ∷ L) n = rw (sum_by-cons (λ x. cond (live x) 1 0) y L, none_live L (λ x m. n (suc x) m)) (go (free y) refl)
  where
    go : (t : Bool) → free y ≡ t → cond (not t) 1 0 + 0 ≡ 0
    go true e = refl
    go false e = absurd (n 0 (λ f. false≢true (sym e ∙ eq-eqb y FREE f)))

-- a place that is not FREE once the link at p is made FREE is another one
not_wiped : (L : List ℕ) (p x : ℕ) → at (set L p FREE) x ≢ FREE → x ≢ p
not_wiped L p x m e = m (rw e (⊎_elim
    (λ l. get_or-set_same L p FREE FREE l)
    (λ l. get_or_past (set L p FREE) p FREE (omega (arith, length-set L p FREE)))
    (cases_lt p (length L))))

among_rest : (p x : ℕ) (ps : List ℕ) → In x (p ∷ ps) → x ≢ p → In x ps
among_rest p x ps (inl e) n = absurd (n e)
among_rest p x ps (inr i) n = i

at_most_one : (t : Bool) → cond t 1 0 ≤ 1
at_most_one true = omega arith
at_most_one false = omega arith

-- places that have all whose links are not FREE among them are as many at least
pub live_among : (L ps : List ℕ) → ((x : ℕ) → at L x ≢ FREE → In x ps) → count_by live L ≤ length ps
live_among L [] h = omega (arith, none_live L (λ x m. h x m))
live_among L (p ∷ ps) h =
    let rest = live_among (set L p FREE) ps (λ x m.
    let o = not_wiped L p x m in
    among_rest p x ps (h x (λ e. m (get_or-set_other L p x FREE FREE o ∙ e))) o) in
    ⊎_elim
    (λ l. omega (arith, sum_by-set (λ x. cond (live x) 1 0) L p FREE FREE l, rest, at_most_one (live (at L p))))
    (λ l. omega (arith, rest, ap (count_by live) (set_past L p FREE l)))
    (cases_lt p (length L))

free-live : (L : List ℕ) → count_by live L + count_by free L ≡ length L
free-live [] = refl
free-live (x ∷ L) = rw (sum_by-cons (λ x. cond (live x) 1 0) x L, sum_by-cons (λ x. cond (free x) 1 0) x L) (go (free-live L) (free x))
  where
    go : count_by live L + count_by free L ≡ length L → (t : Bool) → (cond (not t) 1 0 + count_by live L) + (cond t 1 0 + count_by free L) ≡ suc (length L)
    go r true = omega arith
    go r false = omega arith

-- a path is no longer than the table
pub path_short : (L : List ℕ) (v : ℕ) (ps : List ℕ) → Path (at L) v ps → length ps ≤ length L
path_short L v ps h =
    omega (arith, live_count L ps (no_repeat (at L) v ps h) (λ x i. (used (at L) v x ps h i).0), count_by-le-length live L)

-- the lists of places of some heads, each without repetition, no two sharing a place, and no place FREE
pub record Parted (L : List ℕ) (f : ℕ → List ℕ) (hs : List ℕ) : Type 0 where
  pub single : (h : ℕ) → In h hs → Apart (f h)
  pub taken : (h x : ℕ) → In h hs → In x (f h) → at L x ≢ FREE
  pub owner : (h k x : ℕ) → In h hs → In k hs → In x (f h) → In x (f k) → h ≡ k

joined_apart : (L : List ℕ) (f : ℕ → List ℕ) (hs : List ℕ) → Parted L f hs → Apart hs → Apart (flat_map f hs)
joined_apart L f [] p d = tt
joined_apart L f (h ∷ hs) p d =
    apart_append (f h) (flat_map f hs) (p.single h (inl refl)) (joined_apart L f hs rest d.1)
    (λ x i j. let r = in_joined x f hs j in d.0 (rw (p.owner h r.0 x (inl refl) (inr r.1) i r.2) r.1))
  where
    rest : Parted L f hs
    rest = record { single = λ k i. p.single k (inr i); taken = λ k x i. p.taken k x (inr i); owner = λ k m x i j. p.owner k m x (inr i) (inr j) }

-- together they and the FREE links are at most the count
pub parted_within : (L : List ℕ) (f : ℕ → List ℕ) (hs : List ℕ) → Parted L f hs → Apart hs → sum_by (λ h. length (f h)) hs + count_by free L ≤ length L
parted_within L f hs p d =
    let r = live_count L (flat_map f hs) (joined_apart L f hs p d) (λ x i. let t = in_joined x f hs i in p.taken t.0 x t.1 t.2) in
    omega (arith, length-joined f hs, free-live L)

-- so are the chains of heads on a checked table
pub within : (L : List ℕ) (f : ℕ → List ℕ) (hs : List ℕ) → Checked (at L) → Apart hs → ((h : ℕ) → In h hs → Head (at L) h (f h))
    → sum_by (λ h. length (f h)) hs + count_by free L ≤ length L
within L f hs c d p = parted_within L f hs
    (record {
      single = λ h i. no_repeat (at L) h (f h) (p h i).path;
      taken = λ h x i j. (used (at L) h x (f h) (p h i).path j).0;
      owner = λ h k x i j m n. same_head (at L) h k x (f h) (f k) c (p h i) (p k j) m n;
    }) d
