-- What a search for a unit finds.
-- Assumes nothing.
use Rattle.std.proofs.Common.{◌≡◌, ℕ, ◌<◌, Bool, true, eqb, List, length, get_or, is_none, Some, None, Option, sym, refl, ap, ◌∙◌, ⊎_elim, arith}
use Rattle.std.specs.List.{position, position_or_len}
use Rattle.std.proofs.lemmas.List.{get_or_past}
use Rattle.std.proofs.lemmas.Option.{none-some}
use Rattle.std.proofs.lemmas.List.Quantifiers.{position-Some}
use Rattle.std.proofs.lemmas.List.Sums.{fails_before_first}
use Rattle.std.proofs.lemmas.Bool.{cases_lt, eqb-true, eq-eqb, and_parts, and_from, false≢true, lt-ltb, cond-true}
use Rattle.cells.specs.declared.Note.{Note}
use Rattle.cells.specs.Noted.{note_at, notes, unit_at, Unique}

-- the note of a head and a rank
abbrev pub note : ℕ → ℕ → Note
note h r = record { head = h; rank = r }

-- a unit that notes something is one
pub inside : (N : List (Option Note)) (u : ℕ) (n : Note) → note_at N u ≡ Some n → u < length N
inside N u n e = ⊎_elim (λ l. l) (λ l. absurd (none-some n (sym (get_or_past N u None l) ∙ e))) (cases_lt u (length N))

notes_same : (h r : ℕ) (o : Option Note) → notes h r o ≡ true → o ≡ Some (note h r)
notes_same h r None e = absurd (false≢true e)
notes_same h r (Some n) e = let p = and_parts (eqb n.head h) (eqb n.rank r) e in rw (sym (eqb-true n.head h p.0), sym (eqb-true n.rank r p.1)) refl

pub notes_yes : (h r : ℕ) → notes h r (Some (note h r)) ≡ true
notes_yes h r = and_from _ _ (eq-eqb h h refl) (eq-eqb r r refl)

-- a unit that notes nothing is a free one
pub is_free : (N : List (Option Note)) (u : ℕ) → note_at N u ≡ None → is_none (note_at N u) ≡ true
is_free N u e = ap is_none e

-- what passes at some place is found
pub position_some : {X : Type 0} (p : X → Bool) (xs : List X) (i : ℕ) (d : X) → i < length xs → p (get_or xs i d) ≡ true → (k : ℕ) × (position p xs ≡ Some k)
position_some p xs i d l e = (
  position_or_len p xs,
  cond-true _ _ _ (lt-ltb (position_or_len p xs) (length xs) (⊎_elim (λ m. m)
      (λ m. absurd (false≢true (sym (fails_before_first p xs i d (omega arith)) ∙ e))) (cases_lt (position_or_len p xs) (length xs)))),
)

-- the unit of a head and a rank
module _ (N : List (Option Note)) (h r u : ℕ) where
  pub unit_found : unit_at N h r ≡ Some u → note_at N u ≡ Some (note h r)
  unit_found e = notes_same h r (note_at N u) (position-Some (notes h r) N u None e).1

  -- a unit that notes them is there, so one is found
  pub unit_there : note_at N u ≡ Some (note h r) → (v : ℕ) × (unit_at N h r ≡ Some v)
  unit_there e = position_some (notes h r) N u None (inside N u (note h r) e) (ap (notes h r) e ∙ notes_yes h r)

pub unit_is : (N : List (Option Note)) (h r u : ℕ) → Unique N → note_at N u ≡ Some (note h r) → unit_at N h r ≡ Some u
unit_is N h r u once e = let v = unit_there N h r u e in v.1 ∙ ap Some (once v.0 u (note h r) (unit_found N h r v.0 v.1) e)
