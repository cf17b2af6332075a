-- A store whose chain of one head is set, set again, and lengthened by zeros.
-- Assumes nothing.
use Rattle.std.proofs.Common.{◌≡◌, ℕ, suc, ◌+◌, ◌*◌, eqb, List, [], ◌++◌, replicate, Some, Option, unwrap_or, sym, ap, ◌∙◌, ⊎_elim, append_assoc, append-nil, add-mul, zero-mul, arith}
use mathlib.Core.Path.{fun_ext}
use Rattle.std.specs.Map.{update}
use Rattle.std.proofs.lemmas.List.{replicate-append-replicate}
use Rattle.std.proofs.lemmas.Map.{update_here, update_apart, update-update}
use Rattle.std.proofs.lemmas.Bool.{cases_eq}
use Rattle.store.specs.Meaning.{Store, bytes_of, zeros, with_chain}

-- the chain of h set to what it is, and set twice
pub chain_same : (m : Store) (h : ℕ) (w : Option (List ℕ)) → m.chain h ≡ w → with_chain m h w m.room ≡ m
chain_same m h w e = rw (fun_ext each)
  where
    each : (k : ℕ) → update eqb m.chain h w k ≡ m.chain k
    each k = ⊎_elim (λ (q : k ≡ h). rw q (update_here m.chain h w ∙ sym e)) (update_apart m.chain h w k) (cases_eq k h)

pub chain_twice : (m : Store) (h : ℕ) (v w : Option (List ℕ)) (r s : ℕ) → with_chain (with_chain m h v r) h w s ≡ with_chain m h w s
chain_twice m h v w r s = rw (fun_ext (update-update eqb m.chain h v w))

-- no unit of zeros more
pub no_zeros : (m : Store) (h : ℕ) (xs : List ℕ) → m.chain h ≡ Some xs → with_chain m h (Some (xs ++ zeros m 0)) m.room ≡ m
no_zeros m h xs e =
    let y : 0 * m.unit ≡ 0 = zero-mul m.unit in
    rw (y, append-nil xs) (chain_same m h (Some xs) e)

pub zeros_sum : (m : Store) (j k : ℕ) → zeros m j ++ zeros m k ≡ zeros m (j + k)
zeros_sum m j k = replicate-append-replicate (j * m.unit) (k * m.unit) 0 ∙ ap (λ n. replicate n 0) (sym (add-mul j k m.unit))

-- one unit of zeros more behind n of them
pub more-zeros : (m : Store) (h : ℕ) (xs : List ℕ) (n r s : ℕ)
    → with_chain (with_chain m h (Some (xs ++ zeros m n)) r) h (Some (bytes_of (with_chain m h (Some (xs ++ zeros m n)) r) h ++ zeros m 1)) s
    ≡ with_chain m h (Some (xs ++ zeros m (suc n))) s
more-zeros m h xs n r s =
    let here = update_here m.chain h (Some (xs ++ zeros m n)) in
    let more : (xs ++ zeros m n) ++ zeros m 1 ≡ xs ++ zeros m (suc n) =
    append_assoc xs (zeros m n) (zeros m 1) ∙ ap (λ ys. xs ++ ys) (zeros_sum m n 1 ∙ ap (zeros m) (omega arith)) in
    let bytes : bytes_of (with_chain m h (Some (xs ++ zeros m n)) r) h ≡ xs ++ zeros m n = ap (λ o. unwrap_or o []) here in
    chain_twice m h (Some (xs ++ zeros m n)) (Some (bytes_of (with_chain m h (Some (xs ++ zeros m n)) r) h ++ zeros m 1)) r s
    ∙ ap (λ ys. with_chain m h (Some (ys ++ zeros m 1)) s) bytes ∙ rw more
