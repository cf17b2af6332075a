-- Tables as lists: what one more link and a trim say of the look-up function.
-- Assumes nothing.
use Rattle.std.proofs.Common.{◌≡◌, ℕ, ◌<◌, ◌≤◌, List, [], ◌∷◌, ◌++◌, length, take, sym, refl, ◌∙◌, ⊎_elim, arith}
use mathlib.Core.Path.{fun_ext}
use Rattle.std.proofs.lemmas.Bool.{cases_lt}
use Rattle.std.proofs.lemmas.List.{get_or_append_left, get_or_past, get_or_push, length_push, get_or-take, length-take}
use Rattle.links.specs.Links.{FREE, END, POINTERS, at, Checked}
use Rattle.links.specs.Chains.{Wrote, Taken}
use Rattle.links.proofs.Effects.{take-one}

pub wrote_push : (L : List ℕ) (v : ℕ) → Wrote (at L) (at (L ++ v ∷ [])) (length L) v
wrote_push L v = record {
  here = get_or_push L v FREE (length L) refl;
  rest = λ k n. ⊎_elim (get_or_append_left L (v ∷ []) FREE k)
      (λ l. get_or_past (L ++ v ∷ []) k FREE (omega (arith, length_push L v)) ∙ sym (get_or_past L k FREE l)) (cases_lt k (length L));
}

-- to grow is to take the place behind the last
pub grow : (L : List ℕ) → Checked (at L) → length L < POINTERS → Taken (at L) (at (L ++ END ∷ [])) (length L)
grow L c s = take-one (at L) (at (L ++ END ∷ [])) (length L) c s (get_or_past L (length L) FREE (omega arith)) (wrote_push L END)

pub trim : (L : List ℕ) (m : ℕ) → ((k : ℕ) → m ≤ k → at L k ≡ FREE) → at (take m L) ≡ at L
trim L m f = fun_ext λ k. ⊎_elim (get_or-take m L k FREE)
    (λ l. get_or_past (take m L) k FREE (omega (arith, length-take m L)) ∙ sym (f k l)) (cases_lt k m)
