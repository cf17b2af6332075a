-- Sectors of a chain are filled one after the other.
-- Assumes nothing.
use Rattle.std.proofs.Common.{◌≡◌, ℕ, suc, ◌+◌, ◌-◌, ◌*◌, ◌<◌, List, length, replicate, Some, None, Option, refl, ap, ◌∙◌, arith}
use Rattle.store.specs.Refusals.{Refused, unless}
use Rattle.store.specs.Meaning.{Store, bytes_of, laid, with_chain, due_copy, wrote}
use Rattle.mini.specs.Adding.{filled}

pub wrote_unit : (s : Store) (layer h at : ℕ) (ys : List ℕ) → (wrote s layer h at ys).unit ≡ s.unit
wrote_unit s layer h at ys = go (due_copy s layer h (at + length ys))
  where
    go : (o : Option Refused) → (unless o s (with_chain s h (Some (laid (bytes_of s h) at ys)) s.room)).unit ≡ s.unit
    go None = refl
    go (Some f) = refl

module _ (layer h from n : ℕ) (x s after : Store) (i : ℕ) (inv : filled (n - i) s layer h (from + i) ≡ x) where
  pub filling_more : (at u : ℕ) (ys : List ℕ) → i < n → u ≡ s.unit → at ≡ (from + i) * u → ys ≡ replicate u 255 → after ≡ wrote s layer h at ys
      → filled (n - (i + 1)) after layer h (from + (i + 1)) ≡ x
  filling_more at u ys l eu ea ey e =
      let k : n - i ≡ suc (n - (i + 1)) = omega arith in
      let j : from + (i + 1) ≡ from + i + 1 = omega arith in
      let a : at ≡ (from + i) * s.unit = ea ∙ ap (λ v. (from + i) * v) eu in
      let y : ys ≡ replicate s.unit 255 = ey ∙ ap (λ v. replicate v 255) eu in
      (λ t. filled (n - (i + 1)) (e t) layer h (j t)) ∙ (λ t. filled (n - (i + 1)) (wrote s layer h (a t) (y t)) layer h (from + i + 1))
      ∙ (rw k at inv)
