-- The law holds of every call in every history.
-- Assumes nothing.
use Rattle.std.proofs.Common.{◌≡◌, ℕ, ◌+◌, ◌-◌, ◌≤◌, max, min, ◌≢◌, Bool, true, false, List, ◌∷◌, [], ◌++◌, length, take, drop, Some, None, Ok, Err, Option, Result, sym, refl, ap, ◌∙◌, subst}
use Rattle.std.proofs.lemmas.Bool.{cond-false, cond-true, le-ltb, lt-ltb, false≢true}
use Rattle.std.specs.Prelude.{not}
use Rattle.store.specs.declared.entries.Entry.{Entry}
use Rattle.store.specs.Meaning.{Store}
use Rattle.minifat.specs.Told.{Faulted}
use Rattle.minialloc.specs.States.{State, meant_in}
use Rattle.workbook.specs.Calls.{WrittenTo, ResizedTo}
use Rattle.workbook.specs.Events.{Event, opened, measured, read, written, resized, counted, showed_words, showed_entry, showed_links, Performs, fault_in, passed_on, fault_told, fault_due}
use Rattle.workbook.specs.Histories.{Ledger, booked, Run, made, called, History}
use Rattle.workbook.specs.Laws.{Kept, Untouched, Roomy, Sized, Answered, Upheld, Called}
use Rattle.workbook.specs.Opening.{opening_of, OpenedBy}
use Rattle.workbook.specs.Refusals.{refuse, row, stream_of, write_of, fit_of, length_of, count_of, buffer_of, need_of, room_of}
use Rattle.workbook.specs.Sights.{seen, bytes_in}
use Rattle.workbook.specs.Whole.{Meant}
use Rattle.workbook.proofs.Found.{stream_seen}
use Rattle.workbook.proofs.Sorting.{sorted}
use Rattle.workbook.proofs.Readings.{read_long}
use Rattle.workbook.proofs.Upholding.{Good, Open, found_open, found_names, named_here, meant_of, good, step, Says, write_says, resize_says, write_left, resize_left, long}

module _ (most layer : ℕ) where
  -- what is true of an open workbook
  kept_of : (s : State) (k : Option Ledger) → Good most s k → s.opened ≡ true → Kept s k
  kept_of s None g o = absurd (false≢true (sym g ∙ o))
  kept_of s (Some l) g o =
      let t : Open most l s = subst (Open most l) (sym (g.here o)) g.opened in
      record {
        ledger = l;
        booked = refl;
        sorted = sorted most l.first s t.first_meant t.meant t.first_whole t.whole t.strays;
        copied = record {
          bytes = t.bytes;
          long = λ id e n. read_long most s t.meant t.whole id e (stream_seen s t.whole id e n.0 n.1);
        };
      }

  fault_by : (s z : State) (r : Result (Unit {0}) Faulted) (x : Result Entry Faulted) → Says most layer s z r x → fault_in r ≡ fault_in x
  fault_by s z r (Ok e) t = ap fault_in t
  fault_by s z r (Err f) t = ap fault_in t.0

  -- the fault that is told is the one that is due
  refused : (s : State) (e : Event) (z : State) → Performs most layer s e z → fault_told e ≡ fault_due layer s e
  refused s (opened strict r) z t = go (opening_of s layer strict) t
    where
      go : (x : Result (List ℕ) Faulted) → OpenedBy s x r z → fault_in r ≡ fault_in x
      go (Ok L) t = ap fault_in t.0
      go (Err f) t = ap fault_in t.0
  refused s (measured id r) z t = ap fault_in t.0 ∙ go (stream_of s layer id)
    where
      go : (x : Result Entry Faulted) → fault_in (length_of x) ≡ fault_in x
      go (Ok e) = refl
      go (Err f) = refl
  refused s (read id i out r new) z t = ap fault_in t.0 ∙ go (stream_of s layer id)
    where
      go : (x : Result Entry Faulted) → fault_in (count_of x i (length out)) ≡ fault_in x
      go (Ok e) = refl
      go (Err f) = refl
  refused s (written id i ys r) z t = fault_by s z r _ (write_says most layer s z id i ys r _ t)
  refused s (resized id n r) z t = fault_by s z r _ (resize_says most layer s z id n r _ t)
  refused s (counted r) z t = ap fault_in t.0
  refused s (showed_words w) z t = refl
  refused s (showed_entry id r) z t = ap passed_on t.0
  refused s (showed_links L) z t = refl

  -- what is left then
  untouched : (s : State) (e : Event) (z : State) → Performs most layer s e z → fault_told e ≢ None → Untouched s e z
  untouched s (opened strict (Ok x)) z t n = absurd (n refl)
  untouched s (opened strict (Err f)) z t n = go (opening_of s layer strict) t
    where
      go : (x : Result (List ℕ) Faulted) → OpenedBy s x (Err f) z → (z.host ≡ s.host) × (z.opened ≡ false)
      go (Ok L) t = let q : ◌≡◌ {A = Result (Unit {0}) Faulted} (Err f) (Ok tt) = t.0 in cc
      go (Err h) t = (ap (λ (y : State). y.host) t.1, ap (λ (y : State). y.opened) t.1)
  untouched s (measured id r) z t n = t.1
  untouched s (read id i out r new) z t n = go (stream_of s layer id) t.0 t.1
    where
      go : (x : Result Entry Faulted) → r ≡ count_of x i (length out) → new ≡ buffer_of (seen s) x i out → (new ≡ out) × (z ≡ s)
      go (Ok e) a b = absurd (n (ap fault_in a))
      go (Err f) a b = (b, t.2)
  untouched s (written id i ys (Ok x)) z t n = absurd (n refl)
  untouched s (written id i ys (Err f)) z t n = write_left most layer s z id i ys f t
  untouched s (resized id m (Ok x)) z t n = absurd (n refl)
  untouched s (resized id m (Err f)) z t n = resize_left most layer s z id m f t
  untouched s (counted r) z t n = t.1
  untouched s (showed_words w) z t n = t.1
  untouched s (showed_entry id r) z t n = t.1
  untouched s (showed_links L) z t n = t.1

  -- refused for room exactly where there is not enough
  fit_says : (s z : State) (id n : ℕ) (e : Entry) (r : Result (Unit {0}) Faulted) → n ≤ 16777216
      → ((x : Result Entry Faulted) → fit_of s id n (Ok e) ≡ x → Says most layer s z r x) → Roomy s id e n r
  fit_says s z id n e r few told = record {
    over = λ l. (told (Err (refuse 5 id None)) (cond-false _ _ _ (le-ltb 16777216 n few) ∙ cond-true _ _ _ (lt-ltb (room_of s e n) (need_of s e n) l))).0;
    within = λ l. told (Ok e) (cond-false _ _ _ (le-ltb 16777216 n few) ∙ cond-false _ _ _ (le-ltb (room_of s e n) (need_of s e n) l));
  }

  sized : (s : State) (e : Event) (z : State) → Performs most layer s e z → Sized layer s e
  sized s (opened strict r) z t = tt
  sized s (measured id r) z t = tt
  sized s (read id i out r new) z t = tt
  sized s (written id i ys r) z t = λ e q l few. fit_says s z id (max e.length (i + length ys)) e r few (λ x k.
      write_says most layer s z id i ys r x (subst (λ y. WrittenTo most layer s id i ys y r z) (ap (write_of s id i (length ys)) q ∙ cond-false _ _ _ (le-ltb e.length i l) ∙ k) t))
  sized s (resized id n r) z t = λ e q few. fit_says s z id n e r few (λ x k. resize_says most layer s z id n r x (subst (λ y. ResizedTo most layer s id n y r z) (ap (fit_of s id n) q ∙ k) t))
  sized s (counted r) z t = tt
  sized s (showed_words w) z t = tt
  sized s (showed_entry id r) z t = tt
  sized s (showed_links L) z t = tt

  -- answers are from the plain copy
  module _ (s : State) (k : Option Ledger) (g : Good most s k) (id : ℕ) (e : Entry) (q : ◌≡◌ {A = Result Entry Faulted} (Ok e) (stream_of s layer id)) where
    from_copy : (l : Ledger) × (k ≡ Some l) × (l.copy id ≡ Some (bytes_in (seen s) e)) × (e.length ≡ length (bytes_in (seen s) e))
    from_copy =
        let o = found_open most layer s k id e g q in
        let n = found_names most layer s id e q in
        (o.0, o.1, sym (o.2.bytes id) ∙ named_here most layer s o.2.meant o.2.whole id e n, sym (long most layer s o.2.meant o.2.whole id e q))

  answered : (s : State) (k : Option Ledger) (e : Event) (z : State) → Good most s k → Performs most layer s e z → Answered s k e
  answered s k (opened strict r) z g t = tt
  answered s k (measured id (Ok n)) z g t = go (stream_of s layer id) refl t.0
    where
      go : (x : Result Entry Faulted) → stream_of s layer id ≡ x → ◌≡◌ {A = Result ℕ Faulted} (Ok n) (length_of x) → Answered s k (measured id (Ok n))
      go (Ok e) q a = let f = from_copy s k g id e (sym q) in let b : n ≡ e.length = cc in (f.0, f.1, bytes_in (seen s) e, f.2, b ∙ f.3)
      go (Err f) q a = cc
  answered s k (measured id (Err f)) z g t = tt
  answered s k (read id i out (Ok n) new) z g t = go (stream_of s layer id) refl t.0 t.1
    where
      go : (x : Result Entry Faulted) → stream_of s layer id ≡ x → ◌≡◌ {A = Result ℕ Faulted} (Ok n) (count_of x i (length out)) → new ≡ buffer_of (seen s) x i out → Answered s k (read id i out (Ok n) new)
      go (Ok e) q a c =
          let f = from_copy s k g id e (sym q) in
          let b : n ≡ min (e.length - i) (length out) = cc in
          (f.0, f.1, bytes_in (seen s) e, f.2, b ∙ ap (λ m. min (m - i) (length out)) f.3, c ∙ ap (λ m. take m (drop i (bytes_in (seen s) e)) ++ drop m out) (sym b))
      go (Err f) q a c = cc
  answered s k (read id i out (Err f) new) z g t = tt
  answered s k (written id i ys r) z g t = tt
  answered s k (resized id n r) z g t = tt
  answered s k (counted (Ok r)) z g t = go s.opened t.0
    where
      go : (b : Bool) → ◌≡◌ {A = Result (ℕ × ℕ) Faulted} (Ok r) (row (not b) (refuse 1 0 None) (Ok (s.host.room, (meant_in s).room))) → r ≡ (s.host.room, (meant_in s).room)
      go true a = cc
      go false a = cc
  answered s k (counted (Err f)) z g t = tt
  answered s k (showed_words w) z g t = tt
  answered s k (showed_entry id r) z g t = tt
  answered s k (showed_links L) z g t = tt

  upheld : (s : State) (k : Option Ledger) (e : Event) (z : State) → Meant most s → Meant most z → Good most s k → Performs most layer s e z → Upheld layer s k e z (booked z e k)
  upheld s k e z ms mz g t = record {
    refused = refused s e z t;
    untouched = untouched s e z t;
    sized = sized s e z t;
    answered = answered s k e z g t;
    kept = kept_of z (booked z e k) (step most layer s k e z ms mz g t);
  }

  -- a history goes on with a call, and the law holds of each call of it
  pub continues : {m : Store} {es : List Event} {s : State} {k : Option Ledger} (e : Event) (z : State) → Meant most z → Performs most layer s e z → History most layer m es s k → History most layer m (es ++ e ∷ []) z (booked z e k)
  continues e z mz t h = called e z h mz t tt

  pub never_lawless : {m : Store} {es : List Event} {s : State} {k : Option Ledger} → History most layer m es s k → Run most layer (Upheld layer) m es s k
  never_lawless (made a) = made a
  never_lawless (called {s = s} {k = k} e z h a t u) = called e z (never_lawless h) a t (upheld s k e z (meant_of most layer h) a (good most layer h) t)

  pub called_by : (s : State) (e : Event) (z : State) → Meant most z → Performs most layer s e z → Called most layer s e z
  called_by s e z mz t = record {
    performs = t;
    continues = λ m es k h. continues e z mz t h;
    upholds = λ m es k h. never_lawless (continues e z mz t h);
  }
