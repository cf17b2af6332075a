-- What is true in every history of a workbook, by the state and the ledger that it leads to: before the first accepted opening
-- the workbook is shut; from then on there is an open state over the same host, that of the workbook where it is open, which is
-- whole, has no strays but those of the first, and the bytes of the plain copy.
-- Assumes nothing.
use Rattle.std.proofs.Common.{◌≡◌, ℕ, ◌+◌, ◌-◌, ◌<◌, ◌≤◌, max, ◌≢◌, Bool, true, false, List, ◌++◌, length, take, drop, replicate, cond, Some, None, Ok, Err, Option, Result, sym, refl, ap, ◌∙◌, subst, ⊎_elim, arith}
use Rattle.std.proofs.lemmas.Bool.{cases_eq, cases_lt, eq-eqb, ne_eqb, ltb-false, false≢true}
use Rattle.std.proofs.lemmas.List.{take-append-le, drop_all, append-nil, length-append, length-replicate}
use Rattle.std.specs.Prelude.{nat_lt}
use Rattle.std.specs.List.{slice_get}
use Rattle.std.specs.Option.{option_map}
use Rattle.store.specs.declared.entries.Entry.{Entry}
use Rattle.store.specs.Meaning.{Store, laid}
use Rattle.minifat.specs.Table.{table_of}
use Rattle.minifat.specs.Told.{Faulted}
use Rattle.minialloc.specs.States.{State}
use Rattle.workbook.specs.Calls.{Written, WrittenTo, Resized, ResizedTo}
use Rattle.workbook.specs.Events.{Event, opened, measured, read, written, resized, counted, showed_words, showed_entry, showed_links, Performs}
use Rattle.workbook.specs.Histories.{Ledger, copied, filled, altered, begun, changed, booked, Law, Run, made, called}
use Rattle.workbook.specs.Laws.{Names}
use Rattle.workbook.specs.Opening.{opening_of, opened_with, closed, OpenedBy}
use Rattle.workbook.specs.Reading.{stream_bytes}
use Rattle.workbook.specs.Refusals.{stream_of, write_of, fit_of}
use Rattle.workbook.specs.Sights.{seen, is_stream, fitted, bytes_in}
use Rattle.workbook.specs.Whole.{Whole, Meant}
use Rattle.workbook.proofs.Effects.{entries_apart}
use Rattle.workbook.proofs.Fitting.{not_ok, row_open, found_in}
use Rattle.workbook.proofs.Found.{child, stream_seen, stream_is}
use Rattle.workbook.proofs.Openings.{opening_read, opening_whole}
use Rattle.workbook.proofs.Reopened.{same_strays}
use Rattle.workbook.proofs.Outcomes.{Outcome, Strays, strays_on}
use Rattle.workbook.proofs.Rebuilds.{fitted_more}
use Rattle.workbook.proofs.Sorting.{names_here}
use Rattle.workbook.proofs.Strays.{strays_same, strays_written, strays_resized}
use Rattle.workbook.proofs.Altered.{outcome_written, outcome_resized}
use Rattle.workbook.proofs.Readings.{read_same, bytes_long}

-- bytes that are laid over past the end need no zeros there
laid_fitted : (xs : List ℕ) (i : ℕ) (ys : List ℕ) {n : ℕ} → i ≤ length xs → n ≡ max (length xs) (i + length ys) → laid (fitted n xs) i ys ≡ laid xs i ys
unfolding laid
laid_fitted xs i ys {n} l m =
    let zs = replicate (n - length xs) 0 in
    let e : fitted n xs ≡ xs ++ zs = fitted_more n xs (omega (arith, m)) in
    let front : take i (fitted n xs) ≡ take i xs = ap (take i) e ∙ take-append-le i xs zs l in
    let back : drop (i + length ys) (fitted n xs) ≡ drop (i + length ys) xs = ap (drop (i + length ys)) e ∙ ⊎_elim
    (λ (q : length xs < i + length ys). drop_all (i + length ys) (xs ++ zs) (omega (arith, q, m, length-append xs zs, length-replicate {A = ℕ} (n - length xs) 0)) ∙ sym (drop_all (i + length ys) xs (omega (arith, q))))
    (λ q. let z : n - length xs ≡ 0 = omega (arith, q, m) in ap (λ k. drop (i + length ys) (xs ++ replicate k 0)) z ∙ ap (drop (i + length ys)) (append-nil xs)) (cases_lt (length xs) (i + length ys)) in
    (λ j. front j ++ (ys ++ back j))

-- an open state z of a workbook that was first opened in the state of the ledger
pub record Open (most : ℕ) (l : Ledger) (z : State) : Type 0 where
  pub first_meant : Meant most l.first
  pub first_whole : Whole l.first
  pub meant : Meant most z
  pub whole : Whole z
  pub strays : Strays l.first z
  pub bytes : (id : ℕ) → filled z.host id ≡ l.copy id

pub record Goes (most : ℕ) (s : State) (l : Ledger) : Type 0 where
  pub state : State
  pub opened : Open most l state
  pub host : state.host ≡ s.host
  pub here : s.opened ≡ true → s ≡ state

abbrev pub Good : ℕ → State → Option Ledger → Type 0
Good most s None = s.opened ≡ false
Good most s (Some l) = Goes most s l

module _ (most layer : ℕ) where
  -- the bytes of a stream that is named
  pub named_here : (s : State) → Meant most s → Whole s → (id : ℕ) (e : Entry) → Names s.host id e → filled s.host id ≡ Some (bytes_in (seen s) e)
  named_here s ms w id e here = ap (copied s.host) here.0 ∙ ap (λ b. cond b (Some (stream_bytes s.host e)) None) here.1 ∙ ap Some (read_same most s ms w id e (stream_seen s w id e here.0 here.1))

  -- what the plain copy is told when a stream has other bytes
  module _ (s z : State) (ms : Meant most s) (mz : Meant most z) (w : Whole s) (id n : ℕ) (xs : List ℕ) (e : Entry) (here : Names s.host id e) (o : Outcome s z id n xs) where
    same_bytes : (j : ℕ) (d : Entry) → j ≢ id → Names s.host j d → Names z.host j d → stream_bytes z.host d ≡ stream_bytes s.host d
    same_bytes j d q t u =
        let a = stream_seen s w j d t.0 t.1 in
        read_same most z mz o.whole j d (stream_seen z o.whole j d u.0 u.1) ∙ o.bytes j d q a ∙ sym (read_same most s ms w j d a)

    -- what an entry is, and whether it is a stream's
    root_none : (y : State) (wy : Whole y) (j : ℕ) → j ≡ 0 → filled y.host j ≡ None
    root_none y wy j q = go (slice_get y.host.notes.entries j) refl
      where
        go : (c : Option Entry) → slice_get y.host.notes.entries j ≡ c → copied y.host c ≡ None
        go None t = refl
        go (Some d) t = kind (is_stream d) refl
          where
            kind : (b : Bool) → is_stream d ≡ b → cond b (Some (stream_bytes y.host d)) None ≡ None
            kind true k = absurd (child y wy j d t k q)
            kind false k = refl

    other_same : (j : ℕ) → j ≢ id → filled z.host j ≡ filled s.host j
    other_same j q = ⊎_elim (λ r. root_none z o.whole j r ∙ sym (root_none s w j r)) (λ r. go r (slice_get s.host.notes.entries j) refl) (cases_eq j 0)
      where
        there : j ≢ 0 → slice_get z.host.notes.entries j ≡ slice_get s.host.notes.entries j
        there r = sym (entries_apart z.host.notes.entries j r) ∙ o.entries j q ∙ entries_apart s.host.notes.entries j r

        go : j ≢ 0 → (c : Option Entry) → slice_get s.host.notes.entries j ≡ c → filled z.host j ≡ copied s.host c
        go r None t = ap (copied z.host) (there r ∙ t)
        go r (Some d) t = ap (copied z.host) (there r ∙ t) ∙ kind (is_stream d) refl
          where
            kind : (b : Bool) → is_stream d ≡ b → cond b (Some (stream_bytes z.host d)) None ≡ cond b (Some (stream_bytes s.host d)) None
            kind true k = ap Some (same_bytes j d q (t, k) (there r ∙ t, k))
            kind false k = refl

    named_then : filled z.host id ≡ Some xs
    named_then =
        let d = o.entry in
        let t = names_here most z mz o.whole id d.0 d.1 in
        named_here z mz o.whole id d.0 t ∙ ap Some d.3

    pub told_copy : (c : ℕ → Option (List ℕ)) (f : List ℕ → List ℕ) → ((j : ℕ) → filled s.host j ≡ c j) → xs ≡ f (bytes_in (seen s) e) → (j : ℕ) → filled z.host j ≡ altered c id f j
    told_copy c f k q j = ⊎_elim
        (λ r. ap (filled z.host) r ∙ named_then ∙ ap Some q ∙ sym (rw (eq-eqb j id r) (ap (option_map f) (sym (k j) ∙ ap (filled s.host) r ∙ named_here s ms w id e here))))
        (λ r. other_same j r ∙ k j ∙ sym (rw (ne_eqb j id r) refl)) (cases_eq j id)

  -- a stream that is found has the workbook open
  pub found_open : (s : State) (k : Option Ledger) (id : ℕ) (e : Entry) → Good most s k → ◌≡◌ {A = Result Entry Faulted} (Ok e) (stream_of s layer id) → (l : Ledger) × (k ≡ Some l) × Open most l s
  found_open s None id e g q = absurd (false≢true (sym g ∙ (stream_is s layer id e q).0))
  found_open s (Some l) id e g q = (l, refl, subst (Open most l) (sym (g.here (stream_is s layer id e q).0)) g.opened)

  pub found_names : (s : State) (id : ℕ) (e : Entry) → ◌≡◌ {A = Result Entry Faulted} (Ok e) (stream_of s layer id) → Names s.host id e
  found_names s id e q = let t = stream_is s layer id e q in (t.1, t.2)

  pub long : (s : State) → Meant most s → Whole s → (id : ℕ) (e : Entry) → ◌≡◌ {A = Result Entry Faulted} (Ok e) (stream_of s layer id) → length (bytes_in (seen s) e) ≡ e.length
  long s ms w id e q = let t = found_names s id e q in bytes_long most s ms w id e (stream_seen s w id e t.0 t.1)

  -- what a call answers and leaves, where x is what its rows say
  abbrev pub Says : State → State → Result (Unit {0}) Faulted → Result Entry Faulted → Type 0
  Says s z r (Ok e) = r ≡ Ok tt
  Says s z r (Err f) = (r ≡ Err f) × (z ≡ s)

  pub write_says : (s z : State) (id i : ℕ) (ys : List ℕ) (r : Result (Unit {0}) Faulted) (x : Result Entry Faulted) → WrittenTo most layer s id i ys x r z → Says s z r x
  write_says s z id i ys r (Ok e) t = t.0
  write_says s z id i ys r (Err f) t = t

  pub resize_says : (s z : State) (id n : ℕ) (r : Result (Unit {0}) Faulted) (x : Result Entry Faulted) → ResizedTo most layer s id n x r z → Says s z r x
  resize_says s z id n r (Ok e) t = t.0
  resize_says s z id n r (Err f) t = t

  left_by : (s z : State) (f : Faulted) (x : Result Entry Faulted) → Says s z (Err f) x → z ≡ s
  left_by s z f (Ok e) t = absurd (not_ok f (sym t))
  left_by s z f (Err g) t = t.1

  -- what an accepted write found, and a refused one left
  pub write_found : (s z : State) (id i : ℕ) (ys : List ℕ) → Written most layer s id i ys (Ok tt) z → (e : Entry) × ◌≡◌ {A = Result Entry Faulted} (Ok e) (stream_of s layer id) × (i ≤ e.length)
  write_found s z id i ys t =
      let D = λ (x : Result Entry Faulted). WrittenTo most layer s id i ys x (Ok tt) z in
      let a = found_in (λ x. D (write_of s id i (length ys) x)) (λ f u. not_ok f u.0) (stream_of s layer id) t in
      (a.0, a.1, ltb-false a.0.length i (row_open D (λ f u. not_ok f u.0) (nat_lt a.0.length i) _ _ a.2).0)

  pub write_left : (s z : State) (id i : ℕ) (ys : List ℕ) (f : Faulted) → Written most layer s id i ys (Err f) z → z ≡ s
  write_left s z id i ys f t = left_by s z f _ (write_says s z id i ys (Err f) _ t)

  -- the same of a resize
  pub resize_found : (s z : State) (id n : ℕ) → Resized most layer s id n (Ok tt) z → (e : Entry) × ◌≡◌ {A = Result Entry Faulted} (Ok e) (stream_of s layer id)
  resize_found s z id n t =
      let a = found_in (λ x. ResizedTo most layer s id n (fit_of s id n x) (Ok tt) z) (λ f u. not_ok f u.0) (stream_of s layer id) t in (a.0, a.1)

  pub resize_left : (s z : State) (id n : ℕ) (f : Faulted) → Resized most layer s id n (Err f) z → z ≡ s
  resize_left s z id n f t = left_by s z f _ (resize_says s z id n (Err f) _ t)

  -- a stream of the workbook is altered
  goes_on : (s z : State) (l : Ledger) (id n : ℕ) (xs : List ℕ) (e : Entry) (f : List ℕ → List ℕ) → Open most l s → Meant most z → Names s.host id e → Outcome s z id n xs → Strays s z
      → xs ≡ f (bytes_in (seen s) e) → Goes most z (record { first = l.first; copy = altered l.copy id f })
  goes_on s z l id n xs e f g mz here o r q = record {
    state = z;
    opened = record {
      first_meant = g.first_meant;
      first_whole = g.first_whole;
      meant = mz;
      whole = o.whole;
      strays = strays_on l.first s z g.strays r;
      bytes = told_copy s z g.meant mz g.whole id n xs e here o l.copy f g.bytes q;
    };
    host = refl;
    here = λ k. refl;
  }

  -- an opening
  reopened : (z s : State) → Meant most z → Whole z → (strict : Bool) (L : List ℕ) → s.host ≡ z.host → opening_of s layer strict ≡ Ok L → Whole (opened_with s L) → Strays z (opened_with s L)
  reopened z s mz wz strict L over e w =
      let told : table_of z.host layer strict ≡ Ok L = ap (λ m. table_of m layer strict) (sym over) ∙ (opening_read layer s strict L e).0 in
      same_strays z wz.sound wz.synced mz.few layer strict L told most mz.lawful s over w.sound

  opens : (s : State) (k : Option Ledger) (strict : Bool) (L : List ℕ) → Meant most s → Meant most (opened_with s L) → Good most s k → opening_of s layer strict ≡ Ok L → Good most (opened_with s L) (begun (opened_with s L) k)
  opens s None strict L ms m g e =
      let w = opening_whole most layer s strict L ms.lawful ms.hosted e in
      record {
        state = opened_with s L;
        opened = record { first_meant = m; first_whole = w; meant = m; whole = w; strays = strays_same (opened_with s L) (opened_with s L) refl; bytes = λ id. refl };
        host = refl;
        here = λ q. refl;
      }
  opens s (Some l) strict L ms m g e =
      let w = opening_whole most layer s strict L ms.lawful ms.hosted e in
      let z = g.state in
      record {
        state = opened_with s L;
        opened = record {
          first_meant = g.opened.first_meant;
          first_whole = g.opened.first_whole;
          meant = m;
          whole = w;
          strays = strays_on l.first z (opened_with s L) g.opened.strays (reopened z s g.opened.meant g.opened.whole strict L (sym g.host) e w);
          bytes = λ id. ap (λ x. filled x id) (sym g.host) ∙ g.opened.bytes id;
        };
        host = refl;
        here = λ q. refl;
      }

  shuts : (s : State) (k : Option Ledger) → Good most s k → Good most (closed s) k
  shuts s None g = refl
  shuts s (Some l) g = record { state = g.state; opened = g.opened; host = g.host; here = λ q. absurd (false≢true q) }

  -- each call keeps it
  pub step : (s : State) (k : Option Ledger) (e : Event) (z : State) → Meant most s → Meant most z → Good most s k → Performs most layer s e z → Good most z (booked z e k)
  step s k (opened strict r) z ms mz g t = go (opening_of s layer strict) refl r t
    where
      go : (x : Result (List ℕ) Faulted) → opening_of s layer strict ≡ x → (r : Result (Unit {0}) Faulted) → OpenedBy s x r z → Good most z (booked z (opened strict r) k)
      go (Ok L) q (Ok u) t = subst (λ y. Good most y (begun y k)) (sym t.1) (opens s k strict L ms (subst (Meant most) t.1 mz) g q)
      go (Ok L) q (Err f) t = let n : ◌≡◌ {A = Result (Unit {0}) Faulted} (Err f) (Ok tt) = t.0 in cc
      go (Err f) q (Ok u) t = let n : ◌≡◌ {A = Result (Unit {0}) Faulted} (Ok u) (Err f) = t.0 in cc
      go (Err f) q (Err h) t = subst (λ y. Good most y k) (sym t.1) (shuts s k g)
  step s k (measured id r) z ms mz g t = subst (λ y. Good most y k) (sym t.1) g
  step s k (read id i out r new) z ms mz g t = subst (λ y. Good most y k) (sym t.2) g
  step s k (written id i ys (Ok tt)) z ms mz g t =
      let a = write_found s z id i ys t in
      let o = found_open s k id a.0 g a.1 in
      subst (λ x. Good most z (changed id (λ xs. laid xs i ys) x)) (sym o.1)
      (goes_on s z o.0 id _ _ a.0 (λ xs. laid xs i ys) o.2 mz (found_names s id a.0 a.1) (outcome_written most layer s z ms mz o.2.whole id a.0 (sym a.1) i ys t)
      (strays_written most layer s z ms mz o.2.whole id i ys (Ok tt) t) (laid_fitted (bytes_in (seen s) a.0) i ys (omega (arith, a.2, long s ms o.2.whole id a.0 a.1)) (ap (λ n. max n (i + length ys)) (sym (long s ms o.2.whole id a.0 a.1)))))
  step s k (written id i ys (Err f)) z ms mz g t = subst (λ y. Good most y k) (sym (write_left s z id i ys f t)) g
  step s k (resized id n (Ok tt)) z ms mz g t =
      let a = resize_found s z id n t in
      let o = found_open s k id a.0 g a.1 in
      subst (λ x. Good most z (changed id (fitted n) x)) (sym o.1)
      (goes_on s z o.0 id n _ a.0 (fitted n) o.2 mz (found_names s id a.0 a.1) (outcome_resized most layer s z ms mz o.2.whole id a.0 (sym a.1) n t) (strays_resized most layer s z ms mz o.2.whole id n (Ok tt) t) refl)
  step s k (resized id n (Err f)) z ms mz g t = subst (λ y. Good most y k) (sym (resize_left s z id n f t)) g
  step s k (counted r) z ms mz g t = subst (λ y. Good most y k) (sym t.1) g
  step s k (showed_words w) z ms mz g t = subst (λ y. Good most y k) (sym t.1) g
  step s k (showed_entry id r) z ms mz g t = subst (λ y. Good most y k) (sym t.1) g
  step s k (showed_links L) z ms mz g t = subst (λ y. Good most y k) (sym t.1) g

  -- so it is in every history
  pub meant_of : {law : Law} {m : Store} {es : List Event} {s : State} {k : Option Ledger} → Run most layer law m es s k → Meant most s
  meant_of (made a) = a
  meant_of (called e z r a p l) = a

  pub good : {law : Law} {m : Store} {es : List Event} {s : State} {k : Option Ledger} → Run most layer law m es s k → Good most s k
  good (made a) = refl
  good (called {s = s} {k = k} e z r a p l) = step s k e z (meant_of r) a (good r) p
