-- The search for the first that is found.
-- Assumes nothing.
use Rattle.std.proofs.Common.{◌≡◌, ℕ, zero, suc, ◌+◌, ◌<◌, ◌≤◌, Some, None, Ok, Err, Option, refl, ap, ◌∙◌, ⊎_elim, arith}
use Rattle.std.specs.Option.{option_or}
use Rattle.std.proofs.lemmas.Bool.{cases_eq}
use Rattle.links.specs.Check.{first_of, settled}

-- of two searches none finds anything
pub neither : {F : Type 0} (o p : Option F) → option_or o p ≡ None → (o ≡ None) × (p ≡ None)
neither None p e = (refl, e)
neither (Some f) p e = cc

module _ {F : Type 0} (f : ℕ → Option F) where
  -- where the search finds nothing, there is nothing
  pub none_first : (n p : ℕ) → first_of f n p ≡ None → (k : ℕ) → p ≤ k → k < p + n → f k ≡ None
  none_first zero p e k l m = absurd (omega arith)
  none_first (suc n) p e k l m =
      let t = neither (f p) (first_of f n (suc p)) e in
      ⊎_elim (λ (q : k ≡ p). ap f q ∙ t.0) (λ q. none_first n (suc p) t.1 k (omega arith) (omega arith)) (cases_eq k p)

  pub first_none : (n p : ℕ) → ((k : ℕ) → k < p + n → f k ≡ None) → first_of f n p ≡ None
  first_none zero p h = refl
  first_none (suc n) p h = rw (h p (omega arith)) (first_none n (suc p) (λ k l. h k (omega arith)))

  pub first_some : (n p q : ℕ) (x : F) → p ≤ q → q < p + n → f q ≡ Some x → ((k : ℕ) → k < q → f k ≡ None) → first_of f n p ≡ Some x
  first_some zero p q x l m e h = absurd (omega arith)
  first_some (suc n) p q x l m e h = ⊎_elim (λ (s : p ≡ q). let d : f p ≡ Some x = ap f s ∙ e in rw d)
      (λ s. let i : p < q = omega arith in rw (h p i) (first_some n (suc p) q x i (omega arith) e h)) (cases_eq p q)

-- what is told is what was found
pub none_settled : {A F : Type 0} (o : Option F) (v w : A) → settled o v ≡ Ok w → (o ≡ None) × (v ≡ w)
none_settled None v w e = (refl, cc)
none_settled (Some f) v w e = cc

pub some_settled : {A F : Type 0} (o : Option F) (v : A) (x : F) → settled o v ≡ Err x → o ≡ Some x
some_settled None v x e = cc
some_settled (Some f) v x e = cc
