-- The sectors of a chain, as a host tells them.
-- Assumes nothing.
use Rattle.std.proofs.Common.{◌≡◌, ℕ, ◌*◌, ◌<◌, ◌≤◌, Bool, ◌≢◌, length, take, None, Ok, Err, Result, sym, ap, ◌∙◌, ⊎_elim, mul_assoc, mul-le-mul, zero-mul, MatchResult, arith}
use Rattle.std.proofs.Math.Nat.{mul-pos}
use Rattle.std.proofs.lemmas.List.{take_all}
use Rattle.std.proofs.lemmas.Bool.{cases_eq, le-ltb, eq-eqb, ne_eqb, cond-true, cond-false}
use Rattle.store.specs.declared.faults.Fault.{Fault}
use Rattle.store.specs.declared.faults.StoreFault.{StoreFault}
use Rattle.store.specs.Refusals.{told}
use Rattle.store.specs.Meaning.{Store, Lawful, bytes_of, units_of, due_copy}
use Rattle.mini.specs.Mini.{sectors_of}
use Rattle.mini.proofs.Figures.{sectors_counted, whole_units, units_few, count_lies}
use Rattle.mini.proofs.States.{some_chain}
use Rattle.minifat.specs.Gathered.{due_blocks}

-- an answer whose refusal would have been another fault is the store's
pub mapped_told : {A : Type 0} (r : Result A StoreFault) (x : A) → MatchResult r (λ y. ◌≡◌ {A = Result A Fault} (Ok x) (Ok y)) (λ f. ⊥) → told r ≡ Ok x
mapped_told (Ok y) x e = cc
mapped_told (Err f) x e = absurd e

-- n sectors are told of the chain of h
module _ (most : ℕ) (s : Store) (ok : Lawful most s) (layer h : ℕ) where
  pub record Lies (n : ℕ) : Type 0 where
    pub few : n ≤ 4096
    pub whole : n * s.unit ≡ length (bytes_of s h)
    pub copied : 0 < n → due_copy s layer h (n * s.unit) ≡ None

  pub sectors_lie : (none : Bool) (n : ℕ) → Ok n ≡ sectors_of s layer h none → Lies n
  sectors_lie none n e =
      let w : n * s.unit ≡ length (bytes_of s h) = ap (λ m. m * s.unit) units ∙ whole_units most s ok h in
      record {
        few = omega (arith, units, units_few most s ok h);
        whole = w;
        copied = λ l. rw (some_chain s h (omega (arith, w, mul-pos l ok.unit))) (cond-false _ _ _ (le-ltb (length (bytes_of s h)) (n * s.unit) (omega (arith, w))));
      }
    where
      units : n ≡ units_of s h
      units = (count_lies most s ok h none n (sectors_counted s layer h none n (sym e))).units

  -- a length within them
  pub length_few : (none : Bool) (n : ℕ) → Ok n ≡ sectors_of s layer h none → (u m v long : ℕ) → u ≡ s.unit → m ≡ n → v ≡ u → long ≤ m * v → long ≤ 16777216
  length_few none n e u m v long a b c l =
      let t : m * v ≤ 4096 * 4096 = mul-le-mul {n₂ = 4096} {m₂ = 4096} (omega (arith, (sectors_lie none n e).few)) (omega (arith, ok.small)) in omega arith

  -- they are so many blocks
  module _ (n q blocks : ℕ) (l : Lies n) (u : q * 512 ≡ s.unit) (b : blocks ≡ n * q) where
    long : blocks * 512 ≡ n * s.unit
    long = ap (λ m. m * 512) b ∙ mul_assoc n q 512 ∙ ap (λ m. n * m) u

    pub blocks_due : due_blocks s layer h blocks ≡ None
    blocks_due = ⊎_elim
        (λ z. cond-true _ _ _ (eq-eqb blocks 0 z))
        (λ z. cond-false _ _ _ (ne_eqb blocks 0 z) ∙ ap (due_copy s layer h) long ∙ l.copied (some z)) (cases_eq blocks 0)
      where
        some : blocks ≢ 0 → 0 < n
        some z = ⊎_elim (λ (d : n ≡ 0). absurd (z (b ∙ ap (λ m. m * q) d ∙ zero-mul q))) (λ d. omega arith) (cases_eq n 0)

    pub blocks_bytes : take (blocks * 512) (bytes_of s h) ≡ bytes_of s h
    blocks_bytes = take_all _ _ (omega (arith, long, l.whole))
