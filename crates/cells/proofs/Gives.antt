-- The calls that begin a chain, lengthen it by a unit and shorten it by one.
-- Assumes nothing.
use Rattle.std.proofs.Common.{◌≡◌, ℕ, suc, ◌+◌, ◌-◌, ◌<◌, ◌≤◌, Bool, true, false, cond, eqb, ltb, ◌||◌, List, [], ◌∷◌, ◌++◌, length, get_or, take, set, is_none, Some, None, Option, count_by, unwrap_or, sym, refl, ap, ◌∙◌, ⊎_elim, arith}
use Rattle.std.proofs.lemmas.Option.{same_Some, none-some}
use Rattle.std.proofs.lemmas.List.{take_more, take_all}
use Rattle.std.proofs.lemmas.List.Quantifiers.{position-Some}
use Rattle.std.proofs.lemmas.List.Sums.{sum_by-cons}
use Rattle.std.proofs.lemmas.Bool.{cases_lt, lt-ltb, le-ltb, eq-eqb, and_from, or_left, or_right, cond-true, cond-false, false≢true}
use Rattle.store.specs.Meaning.{Notes, Store, zeros, with_chain, refuse, due_extend, extended}
use Rattle.chain.specs.Units.{content}
use Rattle.cells.specs.declared.Cells.{Cells}
use Rattle.cells.specs.declared.Note.{Note}
use Rattle.cells.specs.Meant.{meant, Starts}
use Rattle.cells.specs.Noted.{note_at, unit_at, lowest_free, path, counted, joins}
use Rattle.cells.specs.Stored.{viewed, stored, joined_to, taken_back}
use Rattle.cells.proofs.Changes.{part_sound}
use Rattle.cells.proofs.Paths.{Sound, sound_of, path_is}
use Rattle.cells.proofs.Seeks.{note, position_some, unit_is}
use Rattle.cells.proofs.Stores.{path_first, chain_some, chain_none, part_stored, one_free}

-- what the number of a head's units tells
pub none_counted : (us : List ℕ) → None ≡ counted us → length us ≤ 0
none_counted [] e = omega arith
none_counted (u ∷ us) e = absurd (none-some _ e)

pub some_counts : (us : List ℕ) (k : ℕ) → Some k ≡ counted us → (k ≡ length us) × (0 < length us)
some_counts [] k e = absurd (none-some k (sym e))
some_counts (u ∷ us) k e = (same_Some k _ e, omega arith)

-- a free unit is none that notes anything
pub is_free : (o : Option Note) → is_none o ≡ true → o ≡ None
is_free None e = refl
is_free (Some n) e = absurd (false≢true e)

free_some : (N : List (Option Note)) (u : ℕ) → Some u ≡ lowest_free N → (u < length N) × (note_at N u ≡ None)
free_some N u e = let t = position-Some is_none N u None (sym e) in (t.0, is_free _ t.1)

all_used : (N : List (Option Note)) → None ≡ lowest_free N → count_by is_none N ≡ 0
all_used N e = go N (λ i l f. let t = position_some is_none N i None l (ap is_none f) in none-some t.0 (e ∙ t.1))
  where
    go : (N : List (Option Note)) → ((i : ℕ) → i < length N → note_at N i ≡ None → ⊥) → count_by is_none N ≡ 0
    go [] h = refl
    go (None ∷ N) h = absurd (h 0 (omega arith) refl)
    go (Some o ∷ N) h = sum_by-cons (λ x. cond (is_none x) 1 0) (Some o) N ∙ omega (arith, go N (λ i l f. h (suc i) (omega arith) f))

-- the last unit of a chain of k
module _ (c : Cells) (h k u : ℕ) (units : Some k ≡ counted (path c.notes h)) where
  noted_last : note_at c.notes (get_or (path c.notes h) (k - 1) 0) ≡ Some (note h (k - 1))
  noted_last = let t = some_counts _ k units in (path_is c.notes h).ranked (k - 1) (omega (arith, t.0, t.1))

  pub part_none : None ≡ unit_at c.notes h (k - 1) → ⊥
  part_none e = none-some _ (e ∙ unit_is c.notes h (k - 1) _ c.unique noted_last)

  module _ (e : Some u ≡ unit_at c.notes h (k - 1)) where
    front : List ℕ
    front = take (k - 1) (path c.notes h)

    last : path c.notes h ≡ front ++ u ∷ []
    unfolding front
    last =
        let us = path c.notes h in
        let t = some_counts us k units in
        let w = same_Some _ _ (e ∙ unit_is c.notes h (k - 1) (get_or us (k - 1) 0) c.unique noted_last) in
        let z : k - 1 + 1 ≡ k = omega (arith, t.0, t.1) in
        sym (take_all k us (omega (arith, t.0))) ∙ ap (λ i. take i us) (sym z) ∙ take_more us (k - 1) 0 (omega (arith, t.0, t.1))
        ∙ ap (λ x. take (k - 1) us ++ x ∷ []) (sym w)

    pub rest_sound : Sound (set c.notes u None)
    rest_sound = part_sound c.notes (sound_of c) h u front last

    pub part_left : (n : Notes) → stored (set c.notes u None) c.bytes n ≡ taken_back (meant c n) h
    part_left n = part_stored c.notes c.bytes (sound_of c) c.filled n h u front last

module _ (c : Cells) (n : Notes) (h : ℕ) where
  pub absent : None ≡ counted (path c.notes h) → (meant c n).chain h ≡ None
  absent e = chain_none c.notes (sound_of c) c.bytes c.filled n h (none_counted _ e)

  pub here : (k : ℕ) → Some k ≡ counted (path c.notes h) → (meant c n).chain h ≡ Some (content (viewed c.notes c.bytes) h)
  here k e = chain_some c.notes (sound_of c) c.bytes c.filled n h (some_counts _ k e).1

-- a free unit goes to the end of a chain, or begins one
module _ (N : List (Option Note)) (u : ℕ) (e : Some u ≡ lowest_free N) where
  free_joins : (h : ℕ) → (ltb 0 (length (path N h)) || eqb u h) ≡ true → joins N u h ≡ true
  free_joins h o = let t = free_some N u e in and_from _ _ (and_from _ _ (lt-ltb u (length N) t.0) (ap is_none t.1)) o

  joins_itself : joins N u u ≡ true
  joins_itself = free_joins u (or_right (ltb 0 (length (path N u))) _ (eq-eqb u u refl))

  joins_chain : (h k : ℕ) → Some k ≡ counted (path N h) → joins N u h ≡ true
  joins_chain h k f = free_joins h (or_left _ _ (lt-ltb 0 _ (some_counts _ k f).1))

  joined_not : (t : Bool) → t ≡ true → ◌≡◌ {A = Option ℕ} None (cond t (Some u) None) → ⊥
  joined_not true a f = none-some u f
  joined_not false a f = false≢true a

  pub start_joins : None ≡ cond (joins N u u) (Some u) None → ⊥
  start_joins = joined_not (joins N u u) joins_itself

  pub give_joins : (h k : ℕ) → Some k ≡ counted (path N h) → None ≡ cond (joins N u h) (Some u) None → ⊥
  give_joins h k f = joined_not (joins N u h) (joins_chain h k f)

module _ (c : Cells) (n : Notes) where
  pub start_none : None ≡ lowest_free c.notes → Starts None (meant c n) (meant c n)
  start_none e = (all_used c.notes e, refl)

  module _ (u : ℕ) (e : Some u ≡ lowest_free c.notes) where
    room : 0 < count_by is_none c.notes
    room = let t = free_some c.notes u e in one_free c.notes u t.0 t.1

    pub start_some : (after : Store) → after ≡ cond (joins c.notes u u) (joined_to (meant c n) u) (meant c n) → Starts (Some u) (meant c n) after
    start_some after a =
        let t = free_some c.notes u e in
        let empty : length (path c.notes u) ≤ 0 = ⊎_elim
        (λ l. absurd (none-some _ (sym t.1 ∙ ap (note_at c.notes) (sym (path_first c.notes u (sound_of c) l)) ∙ (path_is c.notes u).ranked 0 l)))
        (λ l. l) (cases_lt 0 (length (path c.notes u))) in
        let none = chain_none c.notes (sound_of c) c.bytes c.filled n u empty in (
          room,
          omega (arith, t.0, c.counted),
          none,
          a ∙ cond-true (joins c.notes u u) _ _ (joins_itself c.notes u e) ∙ ap (λ xs. with_chain (meant c n) u (Some (xs ++ zeros (meant c n) 1)) ((meant c n).room - 1)) (ap (λ o. unwrap_or o []) none),
        )

    module _ (h k : ℕ) (f : Some k ≡ counted (path c.notes h)) where
      pub give_due : (layer : ℕ) → due_extend (meant c n) layer h 1 ≡ None
      give_due layer = rw (here c n h k f) (cond-false _ _ _ (le-ltb (meant c n).room 1 (omega (arith, room))))

      pub give_left : (layer : ℕ) (after : Store) → after ≡ cond (joins c.notes u h) (joined_to (meant c n) h) (meant c n) → after ≡ extended (meant c n) layer h 1
      give_left layer after a = rw (give_due layer) (a ∙ cond-true (joins c.notes u h) _ _ (joins_chain c.notes u e h k f))

  pub give_full : (h k layer : ℕ) → Some k ≡ counted (path c.notes h) → None ≡ lowest_free c.notes → due_extend (meant c n) layer h 1 ≡ refuse 5 layer h
  give_full h k layer f e = rw (here c n h k f) (cond-true _ _ _ (lt-ltb (meant c n).room 1 (omega (arith, all_used c.notes e))))
