-- What is due at each call, and what the call leaves, once the units of the head are counted.
-- Assumes nothing.
use Rattle.std.proofs.Common.{◌≡◌, ℕ, zero, suc, ◌+◌, ◌-◌, ◌*◌, ◌/◌, ◌<◌, ◌≤◌, ◌≢◌, List, [], ◌++◌, length, take, replicate, is_ok, Some, None, Ok, Err, Option, Result, unwrap_or, sym, refl, ap, ◌∙◌, add-mul, arith}
use Rattle.std.specs.Option.{ok_or}
use Rattle.std.specs.Result.{MatchResult, IsErrAnd}
use Rattle.std.proofs.lemmas.List.{replicate-append-replicate}
use Rattle.std.proofs.lemmas.Map.{update_here}
use Rattle.std.proofs.lemmas.Bool.{false≢true, lt-ltb, le-ltb, ne_eqb, or_from, cond-false}
use Rattle.store.specs.declared.faults.Refusal.{Refusal}
use Rattle.store.specs.declared.faults.Refusal.TheVariants.{NotHead}
use Rattle.store.specs.declared.faults.StoreFault.{StoreFault}
use Rattle.store.specs.Refusals.{Refused, told, answer, unless}
use Rattle.store.specs.Meaning.{Store, Lawful, bytes_of, units_of, zeros, with_chain, headed, due_head, due_copy, due_extend, due_cut, extended, cut_to, freed, Begins}
use Rattle.cells.specs.Meant.{Starts, told_by, due_bytes}
use Rattle.cells.specs.Noted.{path, counted}
use Rattle.cells.specs.Stored.{taken_back}
use Rattle.cells.proofs.Gives.{absent, here, some_counts}
use Rattle.cells.proofs.Paths.{sound_of}
use Rattle.cells.proofs.Stores.{lawful, units_path}
use Rattle.drawer.specs.declared.Drawer.{Drawer}
use Rattle.drawer.specs.Drawn.{noted, drawn, times}
use Rattle.chain.proofs.Zeros.{chain_twice}
use Rattle.drawer.proofs.Times.{times-extended, times_taken}

-- what was counted is that of a head
head_of : (o : Option (List ℕ)) (h k v : ℕ) → ◌≡◌ {A = Result ℕ Refused} (Ok k) (answer (headed o 2 h None) v) → (xs : List ℕ) × (o ≡ Some xs) × (k ≡ v)
head_of None h k v e = absurd (false≢true (sym (ap is_ok e)))
head_of (Some xs) h k v e = (xs, refl, cc)

module _ (m : Store) (law : Lawful 64 m) (unit : m.unit ≡ 512) (h k : ℕ) (known : ◌≡◌ {A = Result ℕ Refused} (Ok k) (answer (due_head m 2 h) (units_of m h))) where
  xs : List ℕ
  xs = (head_of (m.chain h) h k (units_of m h) known).0

  chain_here : m.chain h ≡ Some xs
  unfolding xs
  chain_here = (head_of (m.chain h) h k (units_of m h) known).1

  units : k ≡ units_of m h
  units = (head_of (m.chain h) h k (units_of m h) known).2

  bytes_here : bytes_of m h ≡ xs
  bytes_here = ap (λ o. unwrap_or o []) chain_here

  long : length xs ≡ k * 512
  long =
      let c = law.chains h xs chain_here in
      let u : k ≡ length xs / m.unit = units ∙ ap (λ ys. length ys / m.unit) bytes_here in
      sym c.whole ∙ ap (λ q. q * m.unit) (sym u) ∙ ap (λ q. k * q) unit

  some : 0 < k
  some = omega (arith, long, (law.chains h xs chain_here).some)

  headed_here : (due : Option Refused) → headed (m.chain h) 2 h due ≡ due
  headed_here due = rw chain_here

  pub extend_left : (n : ℕ) → n ≤ m.room → times n (λ s. extended s 2 h 1) m ≡ extended m 2 h n
  extend_left n l =
      let none : due_extend m 2 h n ≡ None = headed_here _ ∙ cond-false _ _ _ (le-ltb m.room n l) in
      times-extended m h xs n chain_here l ∙ ap (λ ys. with_chain m h (Some (ys ++ zeros m n)) (m.room - n)) (sym bytes_here)
      ∙ sym (ap (λ x. unless x m (with_chain m h (Some (bytes_of m h ++ zeros m n)) (m.room - n))) none)

  pub free_left : times k (λ s. taken_back s h) m ≡ freed m 2 h
  free_left =
      times_taken m h xs k k chain_here long some (omega arith) ∙ rw (le-ltb k k (omega arith), units)
      (sym (ap (λ x. unless x m (with_chain m h None (m.room + units_of m h))) (headed_here None)))

  pub cut_left : (n : ℕ) → n ≢ 0 → n ≤ k → times (k - n) (λ s. taken_back s h) m ≡ cut_to m 2 h n
  cut_left n z l =
      let none : due_cut m 2 h n ≡ None = headed_here _ ∙ cond-false _ _ _ (or_from _ _ (ne_eqb n 0 z) (le-ltb (units_of m h) n (omega (arith, units)))) in
      let q : k - (k - n) ≡ n = omega arith in
      let r : m.room + (k - n) ≡ m.room + (units_of m h - n) = omega (arith, units) in
      let u : n * 512 ≡ n * m.unit = ap (λ x. n * x) (sym unit) in
      times_taken m h xs k (k - n) chain_here long some (omega arith) ∙ rw (lt-ltb (k - n) k (omega arith), q, r, u)
      (ap (λ ys. with_chain m h (Some (take (n * m.unit) ys)) (m.room + (units_of m h - n))) (sym bytes_here)
      ∙ sym (ap (λ x. unless x m (with_chain m h (Some (take (n * m.unit) (bytes_of m h))) (m.room + (units_of m h - n)))) none))

-- what is due for a copy is the same for no bytes, where there is a head
pub same_due : (m : Store) (h k end : ℕ) → ◌≡◌ {A = Result ℕ Refused} (Ok k) (answer (due_head m 2 h) (units_of m h)) → due_bytes m 2 h end ≡ due_copy m 2 h end
same_due m h k zero e =
    let t = head_of (m.chain h) h k (units_of m h) e in rw t.1 (sym (cond-false _ _ _ (le-ltb (length t.0) 0 (omega arith))))
same_due m h k (suc n) e = cond-false _ _ _ (ne_eqb (suc n) 0 (λ p. omega (arith, p)))

-- beginning n units
module _ (m one : Store) (h n : ℕ) (some : n ≢ 0) (room : n ≤ m.room) where
  pub begin_none : Starts None m one → ⊥
  begin_none s = omega (arith, s.0)

  pub begin_some : Starts (Some h) m one → Begins m 2 n (Ok h) (times (n - 1) (λ s. extended s 2 h 1) one)
  begin_some s = (
    cond-false _ _ _ (ne_eqb n 0 some) ∙ cond-false _ _ _ (le-ltb m.room n room),
    s.2,
    omega (arith, s.1),
    rw s.3 (times-extended (with_chain m h (Some (zeros m 1)) (m.room - 1)) h (zeros m 1) (n - 1) (update_here m.chain h (Some (zeros m 1))) (omega arith)
        ∙ chain_twice m h (Some (zeros m 1)) (Some (zeros m 1 ++ zeros m (n - 1))) (m.room - 1) (m.room - 1 - (n - 1))
        ∙ rw (all, less)),
  )
    where
      sum : 1 * m.unit + (n - 1) * m.unit ≡ n * m.unit
      sum = let q : 1 + (n - 1) ≡ n = omega arith in sym (add-mul 1 (n - 1) m.unit) ∙ ap (λ x. x * m.unit) q

      all : zeros m 1 ++ zeros m (n - 1) ≡ zeros m n
      all = replicate-append-replicate (1 * m.unit) ((n - 1) * m.unit) 0 ∙ ap (λ x. replicate x 0) sum

      less : m.room - 1 - (n - 1) ≡ m.room - n
      less = omega arith

-- what the number of a head's units tells
pub count_told : (d : Drawer) (h : ℕ) (o : Option ℕ) (f : StoreFault) → o ≡ counted (path d.cells.notes h) → f ≡ record { refusal = NotHead; layer = 2; place = h }
    → told (ok_or o f) ≡ answer (due_head (drawn d) 2 h) (units_of (drawn d) h)
count_told d h None f e g = rw (absent d.cells (noted d) h e, g) refl
count_told d h (Some k) f e g =
    let t = here d.cells (noted d) h k e in
    rw t (ap Ok ((some_counts _ k e).0 ∙ sym (rw t at (units_path d.cells.notes (sound_of d.cells) d.cells.bytes d.cells.filled (noted d) h))))

-- a refusal told as the drawer's
pub told_mapped : (h : ℕ) (r : Result (Unit {0}) Refusal) (s : Result (Unit {0}) StoreFault) (post : Refusal → StoreFault → Type 0)
    → MatchResult r (λ x. s ≡ Ok x) (λ e. IsErrAnd s (post e)) → ((e : Refusal) (f : StoreFault) → post e f → f ≡ record { refusal = e; layer = 2; place = h })
    → told s ≡ told_by 2 h r
told_mapped h (Ok x) s post m p = rw m refl
told_mapped h (Err e) (Ok x) post m p = absurd m
told_mapped h (Err e) (Err f) post m p = rw (p e f m) refl

pub lawfully : (d : Drawer) → Lawful 64 (drawn d)
lawfully d = lawful d.cells.notes (sound_of d.cells) d.cells.bytes d.cells.filled (noted d)
