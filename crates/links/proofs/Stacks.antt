-- A checked table and the stack of its FREE places: as it is meant, as the ghost fields have it, and over a change of a link.
-- Assumes nothing.
use Rattle.std.proofs.Common.{◌≡◌, ℕ, ◌<◌, ◌≤◌, Bool, true, cond, not, eqb, ltb, ◌≢◌, List, [], ◌∷◌, ◌++◌, length, set, replicate, is_ok, Ok, Err, Result, sym, refl, ap, ◌∙◌, inl, inr, ⊎_elim, arith}
use Rattle.std.proofs.lemmas.List.{length-set, length-take, length_push, get_or-set_same, get_or-set_other, get_or_push, get_or_append_left, get_or-replicate, length-replicate}
use Rattle.std.proofs.lemmas.List.Sums.{count_by-le-length}
use Rattle.std.proofs.lemmas.Bool.{cases_eq, cases_lt, cases_Bool, both_ways, false≢true, lt-ltb, ltb-true, eqb-true, eq-eqb, and_parts, and_from, or_left, or_right, or_cases, not-true, not_from_false}
use Rattle.links.specs.Links.{FREE, END, live, at, In, Apart, Checked}
use Rattle.links.specs.declared.checks.LinkFault.{LinkFault}
use Rattle.links.specs.declared.held.Links.{Links}
use Rattle.links.specs.declared.stacked.Stacked.{Stacked}
use Rattle.links.specs.Check.{verdict}
use Rattle.links.specs.Walk.{holds}
use Rattle.links.specs.Held.{links_of}
use Rattle.links.specs.Stack.{Stacks, single, vacant}
use Rattle.links.proofs.Effects.{wrote-set, checked_wrote}
use Rattle.links.proofs.Members.{in_left, in_right, in_append, in_mid, mid_apart, apart_append}
use Rattle.links.proofs.Counts.{inside, live_count}
use Rattle.links.proofs.Verdicts.{decides}

apart_left : (S T : List ℕ) → Apart (S ++ T) → Apart S
apart_left [] T h = tt
apart_left (x ∷ S) T h = (λ i. h.0 (in_left x S T i), apart_left S T h.1)

-- the last of the stack is taken
pub stacks_taken : (L T : List ℕ) (p : ℕ) → Stacks L (T ++ p ∷ []) → Stacks (set L p END) T
stacks_taken L T p s = record {
  apart = apart_left T (p ∷ []) s.apart;
  free = λ q i.
      let f = s.free q (in_left q T (p ∷ []) i) in
      (rw length-set f.0, get_or-set_other L p q END FREE (λ e. (mid_apart p T [] s.apart).0 (rw e at i)) ∙ f.1);
  all = λ q l e. ⊎_elim
      (λ m. absurd (omega (arith, e, get_or-set_same L p END FREE (s.free p (in_mid p T [])).0, ap (at (set L p END)) m)))
      (λ m. ⊎_elim (λ i. i) (⊎_elim (λ h. absurd (m h)) absurd)
      (in_append q T (p ∷ []) (s.all q (rw length-set at l) (sym (get_or-set_other L p q END FREE m) ∙ e))))
      (cases_eq q p);
}

-- one more link, which is not FREE, behind the last
pub stacks_grown : (L S : List ℕ) (v : ℕ) → v ≢ FREE → Stacks L S → Stacks (L ++ v ∷ []) S
stacks_grown L S v n s = record {
  apart = s.apart;
  free = λ q i. let f = s.free q i in (omega (arith, f.0, length_push L v), get_or_append_left L (v ∷ []) FREE q f.0 ∙ f.1);
  all = λ q l e. ⊎_elim
      (λ k. s.all q k (sym (get_or_append_left L (v ∷ []) FREE q k) ∙ e))
      (λ k. absurd (n (sym (get_or_push L v FREE q (omega (arith, length_push L v))) ∙ e)))
      (cases_lt q (length L));
}

-- a link that is not FREE, over one that is not
pub stacks_relinked : (L S : List ℕ) (p v : ℕ) → at L p ≢ FREE → v ≢ FREE → Stacks L S → Stacks (set L p v) S
stacks_relinked L S p v m n s = record {
  apart = s.apart;
  free = λ q i.
      let f = s.free q i in
      (rw length-set f.0, get_or-set_other L p q v FREE (λ e. m (ap (at L) (sym e) ∙ f.1)) ∙ f.1);
  all = λ q l e.
      let k : q < length L = rw length-set at l in
      ⊎_elim
      (λ h. absurd (n (sym (get_or-set_same L p v FREE (rw h at k)) ∙ ap (at (set L p v)) (sym h) ∙ e)))
      (λ h. s.all q k (sym (get_or-set_other L p q v FREE h) ∙ e)) (cases_eq q p);
}

-- a place is made FREE and laid on the stack
stacks_given : (L S : List ℕ) (p : ℕ) → p < length L → at L p ≢ FREE → Stacks L S → Stacks (set L p FREE) (S ++ p ∷ [])
stacks_given L S p l m s = record {
  apart = apart_append S (p ∷ []) s.apart (absurd, tt) (λ x i j. m (s.free p (rw (⊎_elim (λ e. e) absurd j) at i)).1);
  free = λ q i. ⊎_elim
      (λ j. let f = s.free q j in (rw length-set f.0, get_or-set_other L p q FREE FREE (λ e. m (ap (at L) (sym e) ∙ f.1)) ∙ f.1))
      (⊎_elim (λ e. (rw length-set (rw (← e) at l), ap (at (set L p FREE)) e ∙ get_or-set_same L p FREE FREE l)) absurd)
      (in_append q S (p ∷ []) i);
  all = λ q k e. ⊎_elim
      (λ h. in_right q S (p ∷ []) (inl h))
      (λ h. in_left q S (p ∷ []) (s.all q (rw length-set at k) (sym (get_or-set_other L p q FREE FREE h) ∙ e))) (cases_eq q p);
}

in_holds : (x : ℕ) (S : List ℕ) → In x S → holds x S ≡ true
in_holds x [] i = absurd i
in_holds x (y ∷ S) (inl e) = or_left (eqb y x) _ (eq-eqb y x (sym e))
in_holds x (y ∷ S) (inr i) = or_right (eqb y x) _ (in_holds x S i)

holds_in : (x : ℕ) (S : List ℕ) → holds x S ≡ true → In x S
holds_in x [] h = absurd (false≢true h)
holds_in x (y ∷ S) h = ⊎_elim (λ e. inl (sym (eqb-true y x e))) (λ e. inr (holds_in x S e)) (or_cases (eqb y x) _ h)

single_apart : (S : List ℕ) → single S ≡ true → Apart S
single_apart [] h = tt
single_apart (x ∷ S) h =
    let r = and_parts (not (holds x S)) _ h in
    (λ i. both_ways (holds x S) (not-true _ r.0) (in_holds x S i), single_apart S r.1)

apart_single : (S : List ℕ) → Apart S → single S ≡ true
apart_single [] h = refl
apart_single (x ∷ S) h = and_from _ _
    (not_from_false _ (⊎_elim (λ t. absurd (h.0 (holds_in x S t))) (λ f. f) (cases_Bool (holds x S)))) (apart_single S h.1)

-- a table that is checked, with its stack
pub record Kept (L S : List ℕ) : Type 0 where
  pub checked : Checked (at L)
  pub stacks : Stacks L S

-- the same, computed, as the ghost fields have it
abbrev pub Told : List ℕ → List ℕ → Type 0
Told L S = record { checked : is_ok (verdict L) ≡ true; once : single S ≡ true; stacked : (p : ℕ) → holds p S ≡ vacant L p }

accepted : (r : Result Unit LinkFault) → is_ok r ≡ true → r ≡ Ok tt
accepted (Ok tt) e = refl
accepted (Err f) e = absurd (false≢true e)

pub kept_told : (L S : List ℕ) → is_ok (verdict L) ≡ true → single S ≡ true → ((p : ℕ) → holds p S ≡ vacant L p) → Kept L S
kept_told L S checked once stacked = record {
  checked = (decides L).0 (accepted (verdict L) checked);
  stacks = record {
    apart = single_apart S once;
    free = λ p i.
        let r = and_parts (ltb p (length L)) _ (sym (stacked p) ∙ in_holds p S i) in
        (ltb-true p (length L) r.0, eqb-true (at L p) FREE r.1);
    all = λ p l e. holds_in p S (stacked p ∙ and_from _ _ (lt-ltb p (length L) l) (eq-eqb (at L p) FREE e));
  };
}

pub told_kept : (L S : List ℕ) → Kept L S → Told L S
told_kept L S k = record { checked = ap is_ok ((decides L).1 k.checked); once = apart_single S k.stacks.apart; stacked = stacked }
  where
    here : (p : ℕ) → holds p S ≡ true → vacant L p ≡ true
    here p t =
        let f = k.stacks.free p (holds_in p S t) in
        and_from _ _ (lt-ltb p (length L) f.0) (eq-eqb (at L p) FREE f.1)

    back : (p : ℕ) → vacant L p ≡ true → holds p S ≡ true
    back p v =
        let r = and_parts (ltb p (length L)) _ v in
        in_holds p S (k.stacks.all p (ltb-true p (length L) r.0) (eqb-true (at L p) FREE r.1))

    stacked : (p : ℕ) → holds p S ≡ vacant L p
    stacked p = ⊎_elim (λ t. t ∙ sym (here p t))
        (λ t. ⊎_elim (λ v. absurd (both_ways _ t (back p v))) (λ v. t ∙ sym v) (cases_Bool (vacant L p))) (cases_Bool (holds p S))

pub kept_of : (s : Stacked) → Kept (links_of s.links) (links_of s.stack)
kept_of s = kept_told _ _ s.checked s.once s.stacked

pub few_of : (t : Links) → length (links_of t) ≤ 4096
few_of t = omega (arith, length-take t.count t.links, t.few)

-- a chain is cut off
pub kept_cut : (L S L' : List ℕ) (p v : ℕ) → Kept L S → v ≡ at L p → v ≢ FREE → L' ≡ set L p END → Kept L' S
kept_cut L S L' p v k e m after =
    let n : at L p ≢ FREE = omega arith in
    rw after (record {
      checked = checked_wrote _ _ p END k.checked (wrote-set L p END (inside L p n)) (omega arith) (omega arith) (omega arith);
      stacks = stacks_relinked L S p END n (omega arith) k.stacks;
    })

-- a place that no link points to is given back
kept_given : (L S : List ℕ) (p : ℕ) → Kept L S → at L p ≢ FREE → ((q : ℕ) → at L q ≢ p) → Kept (set L p FREE) (S ++ p ∷ [])
kept_given L S p k n first = record {
  checked = checked_wrote _ _ p FREE k.checked (wrote-set L p FREE (inside L p n)) (omega arith) (omega arith) (λ _. first);
  stacks = stacks_given L S p (inside L p n) n k.stacks;
}

-- the stack is no longer than the table
stacks_short : (L S : List ℕ) → Stacks L S → length S ≤ length L
stacks_short L S s =
    let n = length L in
    omega (
      arith,
      live_count (replicate n 0) S s.apart (λ x i z. omega (arith, z, get_or-replicate n x 0 FREE (s.free x i).0)),
      count_by-le-length live (replicate n 0),
      length-replicate {A = ℕ} n 0,
    )

-- so there is room on it for a place that is not FREE
stacks_room : (L S : List ℕ) (p : ℕ) → Kept L S → at L p ≢ FREE → length S < length L
stacks_room L S p k n =
    omega (arith, stacks_short _ _ (stacks_given L S p (inside L p n) n k.stacks), length_push S p, length-set L p FREE)

-- the same by what the calls tell
pub given_back : (L S L' S' : List ℕ) (p : ℕ) (b : Bool) → length L ≤ 4096 → Kept L S → at L p ≢ FREE → ((q : ℕ) → at L q ≢ p)
    → b ≡ ltb (length S) 4096 → L' ≡ set L p FREE → S' ≡ cond b (S ++ p ∷ []) S → Kept L' S'
given_back L S L' S' p b few k n first told table places =
    let y = told ∙ lt-ltb (length S) 4096 (omega (arith, stacks_room L S p k n)) in
    let e : S' ≡ S ++ p ∷ [] = rw y at places in
    rw (table, e) (kept_given L S p k n first)
