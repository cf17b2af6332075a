-- Which refusal is due at a call of a store, of any layer, and what is told and left then.
-- Assumes nothing.
use Rattle.std.proofs.Common.{◌≡◌, ℕ, ◌+◌, ◌-◌, ◌*◌, ◌<◌, ◌≤◌, eqb, ◌≢◌, ◌⊎◌, List, ◌++◌, length, take, drop, Some, None, Ok, Err, Option, Result, refl, ap, ◌∙◌, ⊎_elim}
use Rattle.std.proofs.lemmas.Bool.{lt-ltb, le-ltb, eq-eqb, ne_eqb, or_left, or_right, or_from, cond-true, cond-false}
use Rattle.store.specs.declared.faults.StoreFault.{StoreFault}
use Rattle.store.specs.Refusals.{Refused, refused_by, answer, unless}
use Rattle.store.specs.Meaning.{Store, MAX_HEAD, Begins, bytes_of, units_of, zeros, laid, with_chain, headed, refuse, due_head, due_copy, due_begin, due_extend, due_cut, read_into, wrote, extended, cut_to, freed}

-- a call that nothing is due at tells its answer, and leaves what is new
pub told_yes : {A : Type 0} (due : Option Refused) (v : A) → due ≡ None → ◌≡◌ {A = Result A Refused} (Ok v) (answer due v)
told_yes due v e = rw e refl

pub left_yes : {A : Type 0} (due : Option Refused) (old new after : A) → due ≡ None → after ≡ new → after ≡ unless due old new
left_yes due old new after e n = rw e n

-- a refusal that is due is the one told, and changes nothing
pub told_no : {A : Type 0} (f g : StoreFault) (due : Option Refused) (v : A) → f ≡ g → due ≡ Some (refused_by g) → ◌≡◌ {A = Result A Refused} (Err (refused_by f)) (answer due v)
told_no f g due v e q = rw (e, q) refl

pub left_no : {A : Type 0} (due : Option Refused) (r : Refused) (old new after : A) → due ≡ Some r → after ≡ old → after ≡ unless due old new
left_no due r old new after e n = rw e n

module _ (m : Store) (layer h : ℕ) where
  -- of a head what else is due
  module _ (xs : List ℕ) (some : m.chain h ≡ Some xs) where
    pub some_due : (due : Option Refused) → headed (m.chain h) layer h due ≡ due
    some_due due = ap (λ o. headed o layer h due) some

    pub copy_yes : (end : ℕ) → end ≤ length (bytes_of m h) → due_copy m layer h end ≡ None
    copy_yes end l = some_due _ ∙ cond-false _ _ _ (le-ltb (length (bytes_of m h)) end l)

    pub copy_no : (end : ℕ) → length (bytes_of m h) < end → due_copy m layer h end ≡ refuse 15 layer h
    copy_no end l = some_due _ ∙ cond-true _ _ _ (lt-ltb (length (bytes_of m h)) end l)

    pub extend_yes : (n : ℕ) → n ≤ m.room → due_extend m layer h n ≡ None
    extend_yes n l = some_due _ ∙ cond-false _ _ _ (le-ltb m.room n l)

    pub extend_no : (n : ℕ) → m.room < n → due_extend m layer h n ≡ refuse 5 layer h
    extend_no n l = some_due _ ∙ cond-true _ _ _ (lt-ltb m.room n l)

    pub cut_yes : (k : ℕ) → k ≢ 0 → k ≤ units_of m h → due_cut m layer h k ≡ None
    cut_yes k z l = some_due _ ∙ cond-false _ _ _ (or_from _ _ (ne_eqb k 0 z) (le-ltb (units_of m h) k l))

    pub cut_no : (k : ℕ) → (k ≡ 0) ⊎ (units_of m h < k) → due_cut m layer h k ≡ refuse 16 layer h
    cut_no k e = some_due _ ∙ cond-true _ _ _ (⊎_elim (λ z. or_left _ _ (eq-eqb k 0 z)) (λ l. or_right (eqb k 0) _ (lt-ltb (units_of m h) k l)) e)

module _ (m : Store) (layer n : ℕ) where
  pub begin_yes : n ≢ 0 → n ≤ m.room → due_begin m layer n ≡ None
  begin_yes z l = cond-false _ _ _ (ne_eqb n 0 z) ∙ cond-false _ _ _ (le-ltb m.room n l)

  pub begin_none : n ≡ 0 → due_begin m layer n ≡ refuse 16 layer 0
  begin_none z = cond-true _ _ _ (eq-eqb n 0 z)

  pub begin_no : n ≢ 0 → m.room < n → due_begin m layer n ≡ refuse 5 layer 0
  begin_no z l = cond-false _ _ _ (ne_eqb n 0 z) ∙ cond-true _ _ _ (lt-ltb m.room n l)

-- what a call that was accepted leaves, said of a store n that means the same
module _ (m n after : Store) (layer : ℕ) (e : m ≡ n) where
  pub begun_done : (k r : ℕ) → k ≢ 0 → k ≤ n.room → n.chain r ≡ None → r ≤ MAX_HEAD → after ≡ with_chain n r (Some (zeros n k)) (n.room - k) → Begins m layer k (Ok r) after
  begun_done k r z l none small is = rw e (begin_yes n layer k z l, none, small, is)

  module _ (h : ℕ) (xs : List ℕ) (some : n.chain h ≡ Some xs) where
    pub extended_done : (k : ℕ) → k ≤ n.room → after ≡ with_chain n h (Some (bytes_of n h ++ zeros n k)) (n.room - k)
        → ◌≡◌ {A = Result (Unit {0}) Refused} (Ok tt) (answer (due_extend m layer h k) tt) × (after ≡ extended m layer h k)
    extended_done k l is = let due = extend_yes n layer h xs some k l in rw e (told_yes _ tt due, left_yes _ n _ after due is)

    pub cut_done : (k : ℕ) → k ≢ 0 → k ≤ units_of n h → after ≡ with_chain n h (Some (take (k * n.unit) (bytes_of n h))) (n.room + (units_of n h - k))
        → ◌≡◌ {A = Result (Unit {0}) Refused} (Ok tt) (answer (due_cut m layer h k) tt) × (after ≡ cut_to m layer h k)
    cut_done k z l is = let due = cut_yes n layer h xs some k z l in rw e (told_yes _ tt due, left_yes _ n _ after due is)

    pub freed_done : after ≡ with_chain n h None (n.room + units_of n h)
        → ◌≡◌ {A = Result (Unit {0}) Refused} (Ok tt) (answer (due_head m layer h) tt) × (after ≡ freed m layer h)
    freed_done is = let due = some_due n layer h xs some None in rw e (told_yes _ tt due, left_yes _ n _ after due is)

    pub wrote_done : (i : ℕ) (ys : List ℕ) → i + length ys ≤ length (bytes_of n h) → after ≡ with_chain n h (Some (laid (bytes_of n h) i ys)) n.room
        → ◌≡◌ {A = Result (Unit {0}) Refused} (Ok tt) (answer (due_copy m layer h (i + length ys)) tt) × (after ≡ wrote m layer h i ys)
    wrote_done i ys l is = let due = copy_yes n layer h xs some (i + length ys) l in rw e (told_yes _ tt due, left_yes _ n _ after due is)

    pub read_done : (i : ℕ) (out got : List ℕ) → i + length out ≤ length (bytes_of n h) → got ≡ take (length out) (drop i (bytes_of n h))
        → ◌≡◌ {A = Result (Unit {0}) Refused} (Ok tt) (answer (due_copy m layer h (i + length out)) tt) × (got ≡ read_into m layer h i out)
    read_done i out got l is = let due = copy_yes n layer h xs some (i + length out) l in rw e (told_yes _ tt due, left_yes _ out _ got due is)
