-- What giving and taking back one unit at a time come to.
-- Assumes nothing.
use Rattle.std.proofs.Common.{◌≡◌, ℕ, zero, suc, ◌+◌, ◌-◌, ◌*◌, ◌<◌, ◌≤◌, cond, eqb, ltb, List, ◌++◌, length, take, Some, None, Option, sym, refl, ap, ◌∙◌, ⊎_elim, arith}
use Rattle.std.specs.Map.{update}
use Rattle.std.proofs.lemmas.List.{take-take, take_all, length-take-le}
use Rattle.std.proofs.lemmas.Map.{update_here}
use Rattle.std.proofs.lemmas.Bool.{cases_lt, lt-ltb, le-ltb, cond-true}
use Rattle.store.specs.Meaning.{Store, zeros, with_chain, extended}
use Rattle.chain.proofs.Zeros.{chain_same, chain_twice, no_zeros, more-zeros}
use Rattle.cells.specs.Stored.{taken_back, but_last}
use Rattle.drawer.specs.Drawn.{times}

-- one step more
pub times_more : (n : ℕ) (f : Store → Store) (m a b : Store) → a ≡ times n f m → b ≡ f a → b ≡ times (n + 1) f m
times_more n f m a b e g = let k : n + 1 ≡ suc n = omega arith in rw k (g ∙ ap f e)

pub times_all : (n k : ℕ) (f : Store → Store) (m a : Store) → n ≤ k → k ≤ n → a ≡ times n f m → a ≡ times k f m
times_all n k f m a i j e = let q : n ≡ k = omega arith in rw q at e

pub times-extended : (m : Store) (h : ℕ) (xs : List ℕ) (n : ℕ) → m.chain h ≡ Some xs → n ≤ m.room
    → times n (λ s. extended s 2 h 1) m ≡ with_chain m h (Some (xs ++ zeros m n)) (m.room - n)
times-extended m h xs zero e l = let z : m.room - 0 ≡ m.room = omega arith in sym (rw z (no_zeros m h xs e))
times-extended m h xs (suc n) e l =
    ap (λ s. extended s 2 h 1) (times-extended m h xs n e (omega arith)) ∙ step
  where
    step : extended (with_chain m h (Some (xs ++ zeros m n)) (m.room - n)) 2 h 1 ≡ with_chain m h (Some (xs ++ zeros m (suc n))) (m.room - suc n)
    step =
        let here = update_here m.chain h (Some (xs ++ zeros m n)) in
        let room = le-ltb (m.room - n) 1 (omega arith) in
        let less : m.room - n - 1 ≡ m.room - suc n = omega arith in
        rw (here, room) (rw here at (more-zeros m h xs n (m.room - n) (m.room - n - 1)) ∙ ap (λ r. with_chain m h (Some (xs ++ zeros m (suc n))) r) less)

-- what n units less leave of a chain of k
abbrev left : List ℕ → ℕ → ℕ → Option (List ℕ)
left xs k n = cond (ltb n k) (Some (take ((k - n) * 512) xs)) None

pub times_taken : (m : Store) (h : ℕ) (xs : List ℕ) (k n : ℕ) → m.chain h ≡ Some xs → length xs ≡ k * 512 → 0 < k → n ≤ k
    → times n (λ s. taken_back s h) m ≡ with_chain m h (left xs k n) (m.room + n)
times_taken m h xs k zero e l some few =
    let z : m.room + 0 ≡ m.room = omega arith in
    sym (rw (z, lt-ltb 0 k some, take_all ((k - 0) * 512) xs (omega arith)) (chain_same m h (Some xs) e))
times_taken m h xs k (suc n) e l some few =
    ap (λ s. taken_back s h) (times_taken m h xs k n e l some (omega arith)) ∙ step
  where
    ys : List ℕ
    ys = take ((k - n) * 512) xs

    long : length ys ≡ (k - n) * 512
    long = length-take-le ((k - n) * 512) xs (omega arith)

    last : but_last ys ≡ left xs k (suc n)
    last = ⊎_elim
        (λ i. rw (lt-ltb 512 (length ys) (omega (arith, long)), lt-ltb (suc n) k i)
        (ap Some (ap (λ j. take j ys) (omega (arith, long)) ∙ take-take ((k - suc n) * 512) ((k - n) * 512) xs (omega arith))))
        (λ i. rw (le-ltb 512 (length ys) (omega (arith, long)), le-ltb (suc n) k i) refl) (cases_lt (suc n) k)

    step : taken_back (with_chain m h (left xs k n) (m.room + n)) h ≡ with_chain m h (left xs k (suc n)) (m.room + suc n)
    step =
        let here : update eqb m.chain h (left xs k n) h ≡ Some ys = update_here m.chain h (left xs k n) ∙ cond-true _ _ _ (lt-ltb n k (omega arith)) in
        let more : m.room + n + 1 ≡ m.room + suc n = omega arith in
        rw here (chain_twice m h (left xs k n) (but_last ys) (m.room + n) (m.room + n + 1) ∙ rw (last, more))
