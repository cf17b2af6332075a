-- What a filter keeps.
-- Assumes nothing.
use Rattle.std.proofs.Common.{◌≡◌, ℕ, Bool, true, false, ◌⊎◌, List, [], ◌∷◌, filter, sym, ap, ◌∙◌, inl, inr, ⊎_elim}
use Rattle.std.proofs.lemmas.Bool.{cases_Bool, cond_both}
use Rattle.links.specs.Links.{In, Apart}

-- a filter keeps what passes, once where it was there once
module _ (p : ℕ → Bool) where
  pub in_kept : (x : ℕ) (S : List ℕ) → In x (filter p S) → In x S × (p x ≡ true)
  in_kept x [] i = absurd i
  in_kept x (y ∷ S) i = ⊎_elim (yes (in_kept x S)) (no (in_kept x S)) (cases_Bool (p y))
    where
      yes : (In x (filter p S) → In x S × (p x ≡ true)) → p y ≡ true → In x (y ∷ S) × (p x ≡ true)
      yes h t = let j : (x ≡ y) ⊎ In x (filter p S) = rw t at i in ⊎_elim (λ e. (inl e, ap p e ∙ t)) (λ j. let r = h j in (inr r.0, r.1)) j

      no : (In x (filter p S) → In x S × (p x ≡ true)) → p y ≡ false → In x (y ∷ S) × (p x ≡ true)
      no h t = let r = h (rw t at i) in (inr r.0, r.1)

  pub kept_in : (x : ℕ) (S : List ℕ) → In x S → p x ≡ true → In x (filter p S)
  kept_in x [] i t = absurd i
  kept_in x (y ∷ S) (inl e) t = rw (ap p (sym e) ∙ t) (inl e)
  kept_in x (y ∷ S) (inr i) t = cond_both (p y) (y ∷ filter p S) (filter p S) (In x) (λ _. inr (kept_in x S i t)) (λ _. kept_in x S i t)

  pub apart_kept : (S : List ℕ) → Apart S → Apart (filter p S)
  apart_kept [] h = tt
  apart_kept (y ∷ S) h =
      cond_both (p y) (y ∷ filter p S) (filter p S) Apart (λ _. (λ i. h.0 (in_kept y S i).0, apart_kept S h.1)) (λ _. apart_kept S h.1)
