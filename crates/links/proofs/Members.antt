-- What stands in a list that is put together of others.
-- Assumes nothing.
use Rattle.std.proofs.Common.{◌≡◌, ℕ, ◌+◌, ◌<◌, ◌⊎◌, List, [], ◌∷◌, ◌++◌, length, sum_by, sym, refl, ap, ◌∙◌, inl, inr, ⊎_elim, length-append, arith}
use Rattle.std.specs.List.{flat_map}
use Rattle.std.proofs.lemmas.List.Sums.{sum_by-cons}
use Rattle.std.proofs.lemmas.Bool.{cases_eq}
use Rattle.links.specs.Links.{In, Apart}
use Rattle.links.specs.Walk.{last_or}

pub cases_in : (x : ℕ) (ps : List ℕ) → In x ps ⊎ (In x ps → ⊥)
cases_in x [] = inr (λ i. i)
cases_in x (p ∷ ps) = go (cases_eq x p) (cases_in x ps)
  where
    go : (x ≡ p) ⊎ (x ≡ p → ⊥) → In x ps ⊎ (In x ps → ⊥) → In x (p ∷ ps) ⊎ (In x (p ∷ ps) → ⊥)
    go (inl e) r = inl (inl e)
    go (inr n) (inl i) = inl (inr i)
    go (inr n) (inr m) = inr (⊎_elim n m)

pub in_left : (x : ℕ) (ps qs : List ℕ) → In x ps → In x (ps ++ qs)
in_left x [] qs i = absurd i
in_left x (p ∷ ps) qs (inl e) = inl e
in_left x (p ∷ ps) qs (inr i) = inr (in_left x ps qs i)

pub in_right : (x : ℕ) (ps qs : List ℕ) → In x qs → In x (ps ++ qs)
in_right x [] qs i = i
in_right x (p ∷ ps) qs i = inr (in_right x ps qs i)

pub in_mid : (e : ℕ) (es fs : List ℕ) → In e (es ++ e ∷ fs)
in_mid e es fs = in_right e es (e ∷ fs) (inl refl)

-- the last
pub last_in : (d : ℕ) (ps : List ℕ) → 0 < length ps → In (last_or d ps) ps
last_in d [] l = absurd (omega arith)
last_in d (x ∷ []) l = inl refl
last_in d (x ∷ y ∷ ps) l = inr (last_in x (y ∷ ps) (omega arith))

pub in_append : (x : ℕ) (ps qs : List ℕ) → In x (ps ++ qs) → In x ps ⊎ In x qs
in_append x [] qs i = inr i
in_append x (p ∷ ps) qs (inl e) = inl (inl e)
in_append x (p ∷ ps) qs (inr i) = ⊎_elim (λ j. inl (inr j)) (λ j. inr j) (in_append x ps qs i)

-- in a list with no element twice, what stands at e stands neither before nor after
pub mid_apart : (e : ℕ) (es fs : List ℕ) → Apart (es ++ e ∷ fs) → (In e es → ⊥) × (In e fs → ⊥)
mid_apart e [] fs h = (λ i. i, h.0)
mid_apart e (x ∷ es) fs h =
    let r = mid_apart e es fs h.1 in (elim [ inl s ↦ h.0 (rw (← s) (in_mid e es fs)) | inr i ↦ r.0 i ], r.1)

pub apart_append : (ps qs : List ℕ) → Apart ps → Apart qs → ((x : ℕ) → In x ps → In x qs → ⊥) → Apart (ps ++ qs)
apart_append [] qs h k d = k
apart_append (p ∷ ps) qs h k d = (
  λ i. ⊎_elim h.0 (d p (inl refl)) (in_append p ps qs i),
  apart_append ps qs h.1 k (λ x i. d x (inr i)),
)

pub in_joined : (x : ℕ) (f : ℕ → List ℕ) (hs : List ℕ) → In x (flat_map f hs) → (h : ℕ) × In h hs × In x (f h)
in_joined x f [] i = absurd i
in_joined x f (h ∷ hs) i =
    ⊎_elim (λ j. (h, inl refl, j)) (λ j. let r = in_joined x f hs j in (r.0, inr r.1, r.2)) (in_append x (f h) (flat_map f hs) i)

pub length-joined : (f : ℕ → List ℕ) (hs : List ℕ) → length (flat_map f hs) ≡ sum_by (λ h. length (f h)) hs
length-joined f [] = refl
length-joined f (h ∷ hs) = length-append (f h) (flat_map f hs) ∙ ap (λ n. length (f h) + n) (length-joined f hs) ∙ sym (sum_by-cons (λ h. length (f h)) h hs)
