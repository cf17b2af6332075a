-- The first n numbers of a longer list, as a table of their own.
-- Assumes nothing.
use Rattle.std.proofs.Common.{◌≡◌, ℕ, ◌<◌, ◌≤◌, List, length, get_or, take, set, Some, None, sym, ap, ◌∙◌, arith}
use Rattle.std.specs.List.{slice_get}
use Rattle.std.proofs.lemmas.List.{same_lists, length-take-le, length-set, get_or-take, get_or-set_same, get_or-set_other, set_past}
use Rattle.std.proofs.lemmas.Option.{slice_get-get_or, slice_get_past}
use Rattle.std.proofs.lemmas.Bool.{cases_eq}

module _ (xs : List ℕ) (n : ℕ) (few : n ≤ length xs) where
  pub held_some : (p : ℕ) → p < n → Some (get_or xs p 0) ≡ slice_get (take n xs) p
  held_some p l =
      let k = length-take-le n xs few in
      ap Some (sym (get_or-take n xs p 0 l)) ∙ sym (slice_get-get_or (take n xs) p 0 (omega arith))

  pub held_none : (p : ℕ) → n ≤ p → None ≡ slice_get (take n xs) p
  held_none p l = let k = length-take-le n xs few in sym (slice_get_past (take n xs) p (omega arith))

  pub held_set : (p v : ℕ) → p < n → take n (set xs p v) ≡ set (take n xs) p v
  held_set p v l =
      let k = length-take-le n xs few in
      let m = length-take-le n (set xs p v) (rw length-set few) in
      same_lists _ _ (m ∙ sym (length-set (take n xs) p v ∙ k))
      (λ q d h. grind (arith, cases_eq q p, get_or-take, get_or-set_same, get_or-set_other))

  pub held_past : (p v : ℕ) → n ≤ p → take n xs ≡ set (take n xs) p v
  held_past p v l = let k = length-take-le n xs few in sym (set_past (take n xs) p v (omega arith))
