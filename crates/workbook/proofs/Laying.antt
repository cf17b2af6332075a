-- A stream that was made to fit takes the bytes that are laid over it.
-- Assumes nothing.
use mathlib.Core.Logic.{∥∥₁_map}
use Rattle.std.proofs.Common.{◌≡◌, ℕ, ◌+◌, ◌<◌, ◌≤◌, ◌≢◌, Bool, min, max, true, false, replicate, ⊎_elim, List, length, Some, None, Ok, Err, Result, sym, refl, ap, ◌∙◌, subst, arith}
use Rattle.std.proofs.lemmas.List.{length-replicate}
use Rattle.std.proofs.lemmas.Bool.{cond-true, cond-false, cases_lt, lt-ltb, le-ltb, eq-eqb, false≢true}
use Rattle.std.specs.Prelude.{◌==◌, nat_lt}
use Rattle.std.specs.List.{slice_get}
use Rattle.store.specs.declared.entries.Entry.{Entry}
use Rattle.store.specs.Refusals.{Refused}
use Rattle.store.specs.Meaning.{Lawful, due_copy, entered}
use Rattle.chain.proofs.Dues.{told_yes}
use Rattle.minifat.specs.Told.{Faulted}
use Rattle.minialloc.specs.States.{State, meant_in}
use Rattle.workbook.specs.Calls.{Fitted, FittedTo, FilledTo, Laid, LaidBy, carried, LaysBy, FillingBy, Filling, Written, WrittenTo, Resized, ResizedTo, rest_of}
use Rattle.workbook.specs.Homes.{store_in, layer_in, over, WritesIn}
use Rattle.workbook.specs.Refusals.{refuse, row, stream_of, fit_of, write_of, need_of, room_of}
use Rattle.workbook.specs.Sights.{seen, home_of, unit_in, reach, is_stream}
use Rattle.workbook.specs.Steps.{Rebuilding, Writing}
use Rattle.workbook.specs.Whole.{Holds, Meant}
use Rattle.workbook.proofs.Fitting.{plan_room, fit_open, entry_then, opened_then, unit_then, holds_then}
use Rattle.workbook.proofs.Effects.{entered_lawful}
use Rattle.workbook.proofs.Found.{some_in, enough_reach, stream_is, stream_seen, open_due}
use Rattle.workbook.proofs.Overlays.{overlaid}
use Rattle.workbook.proofs.Rests.{rest_within}
use Rattle.workbook.proofs.Sights.{reach_alike}

pub is_some : (k : ℕ) → false ≡ (k == 0) → k ≢ 0
is_some k t z = false≢true (t ∙ eq-eqb k 0 z)

-- a fit that was accepted found the stream, and then the bytes are laid
fit_found : (most layer : ℕ) (s : State) (id n h : ℕ) (y : State) (x : Result Entry Faulted) → FittedTo most layer s id n (fit_of s id n x) (Ok h) y → (e : Entry) × ◌≡◌ {A = Result Entry Faulted} (Ok e) x
fit_found most layer s id n h y (Ok e) t = (e, refl)
fit_found most layer s id n h y (Err f) t = let q : ◌≡◌ {A = Result ℕ Faulted} (Ok h) (Err f) = t.0 in cc

filled_by : (most layer : ℕ) (s y z : State) (id n h i : ℕ) (ys : List ℕ) (x : Result Entry Faulted) → FittedTo most layer s id n x (Ok h) y → Laid layer y (home_of n) h i ys z → FilledTo most layer s id n i ys x (Ok tt) z
filled_by most layer s y z id n h i ys (Ok e) t l = (refl, h, y, t, l)
filled_by most layer s y z id n h i ys (Err f) t l = let q : ◌≡◌ {A = Result ℕ Faulted} (Ok h) (Err f) = t.0 in cc

-- one that was refused leaves all as it was
unfilled : (most layer : ℕ) (s y : State) (id n i : ℕ) (ys : List ℕ) (f : Faulted) (x : Result Entry Faulted) → FittedTo most layer s id n x (Err f) y → FilledTo most layer s id n i ys x (Err f) y
unfilled most layer s y id n i ys f (Ok e) t = let q : ◌≡◌ {A = Result ℕ Faulted} (Err f) (Ok t.0) = t.1 in cc
unfilled most layer s y id n i ys f (Err g) t = (let q : ◌≡◌ {A = Result ℕ Faulted} (Err f) (Err g) = t.0 in cc, t.1)

-- what is so of a fit that is accepted, and of one that is refused, is so of each
module _ (D E : Result Entry Faulted → Type 0) (e : Entry) (some : D (Ok e) → E (Ok e)) (none : (f : Faulted) → D (Err f) → E (Err f)) where
  by_rows : (a b : Bool) (f g : Faulted) → D (row a f (row b g (Ok e))) → E (row a f (row b g (Ok e)))
  by_rows true b f g t = none f t
  by_rows false true f g t = none g t
  by_rows false false f g t = some t

  by_fit : (s : State) (id n : ℕ) → D (fit_of s id n (Ok e)) → E (fit_of s id n (Ok e))
  by_fit s id n t = by_rows (nat_lt 16777216 n) (nat_lt (room_of s e n) (need_of s e n)) (refuse 4 id None) (refuse 5 id None) t

-- y is the state when the stream of id fits, and e its entry then
record Fit (most : ℕ) (s y : State) (id : ℕ) (e : Entry) : Type 0 where
  pub lawful : Lawful most y.host
  pub opened : y.opened ≡ true
  pub holds : Holds y
  pub entry : slice_get y.host.notes.entries id ≡ Some e
  pub kind : is_stream e ≡ true
  pub unit : (seen y).unit ≡ (seen s).unit

module _ (most layer : ℕ) (s : State) (a : Meant most s) (hold : Holds s) (id n : ℕ) where
  module _ (y : State) (h : ℕ) (fit : Fitted most layer s id n (Ok h) y) where
    found : (e : Entry) × ◌≡◌ {A = Result Entry Faulted} (Ok e) (stream_of s layer id)
    found = fit_found most layer s id n h y (stream_of s layer id) fit

    abbrev e : Entry
    e = record { kind = found.0.kind; start = h; length = n }

    parts : (n ≤ 16777216) × (need_of s found.0 n ≤ room_of s found.0 n) × FittedTo most layer s id n (Ok found.0) (Ok h) y
    parts = fit_open most layer s id n h y found.0 found.1 fit

    now : Fit most s y id e
    now =
        let f = parts.2 in
        let p = f.2 in
        let m = f.4 in
        let head : f.0 ≡ h = let k : ◌≡◌ {A = Result ℕ Faulted} (Ok h) (Ok f.0) = f.1 in cc in
        let room = plan_room s found.0 n p f.3 parts.1 in
        let t = subst (λ k. Rebuilding most layer p s (Ok k) m) head f.6 in
        let is = subst (λ k. y ≡ over m (entered m.host layer id k n)) head f.7 in
        let oky = subst (λ (x : State). Lawful most x.host) (sym is) (entered_lawful most m.host layer id h n f.5) in
        record {
          lawful = oky;
          opened = opened_then most layer s m a.lawful f.5 a.mini hold id found.0 found.1 n p f.3 room (Ok h) t h refl y is oky;
          holds = holds_then most layer s m a.lawful f.5 a.mini hold id found.0 found.1 n p f.3 room (Ok h) t h refl y is oky;
          entry = entry_then most layer s m a.lawful f.5 a.mini hold id found.0 found.1 n p f.3 room (Ok h) t h refl y is;
          kind = (stream_is s layer id found.0 found.1).2;
          unit = unit_then most layer s m a.lawful f.5 a.mini hold id found.0 found.1 n p f.3 room (Ok h) t h refl y is;
        }

    -- whatever is written over its chain, the workbook stays whole
    pub holds_there : Lawful 4096 (meant_in y) → (z : State) → Lawful most z.host → (i : ℕ) (ys : List ℕ) (r : Result (Unit {0}) Refused) → Writing most layer (home_of n) h i ys y r z → Holds z
    holds_there mini z okz i ys r step =
        ∥∥₁_map now.holds (λ g. λ o. let w = g now.opened in
        overlaid most layer y z now.lawful okz mini w id e (stream_seen y w id e now.entry now.kind) i ys r step)

    -- within the units that the length needs nothing is refused
    due_there : (i : ℕ) (ys : List ℕ) → (n ≤ 16777216 → i + length ys ≤ reach (seen s) n) → length ys ≢ 0 → due_copy (store_in y (home_of n)) (layer_in layer (home_of n)) h (i + length ys) ≡ None
    due_there i ys inside some =
        let long : n ≢ 0 = λ k. omega (arith, some, inside parts.0, ap (reach (seen s)) k) in
        let within : i + length ys ≤ reach (seen y) n = omega (arith, inside parts.0, reach_alike (seen y) (seen s) now.unit n) in
        open_due most layer y now.lawful now.holds now.opened id e now.entry now.kind long (i + length ys) within

    laid_by : (b : Bool) (i : ℕ) (ys : List ℕ) (r : Result (Unit {0}) Faulted) (z : State) → (n ≤ 16777216 → i + length ys ≤ reach (seen s) n) → (b ≡ false → length ys ≢ 0)
        → LaysBy b most layer y (home_of n) h i ys r z → (r ≡ Ok tt) × LaidBy b layer y (home_of n) h i ys z
    laid_by true i ys r z inside some t = t
    laid_by false i ys r z inside some t =
        let step : Writing most layer (home_of n) h i ys y t.0 z = t.2 in
        let done : t.0 ≡ Ok tt = step.0 ∙ sym (told_yes _ tt (due_there i ys inside (some refl))) in
        (t.1 ∙ ap carried done, subst (λ x. WritesIn layer y (home_of n) h i ys x z) done step.1)

  -- so a fill is refused just where the fit is
  pub filled_there : (z : State) (i : ℕ) (ys : List ℕ) (r : Result (Unit {0}) Faulted) → (n ≤ 16777216 → i + length ys ≤ reach (seen s) n) → Filling most layer s id n i ys r z
      → FilledTo most layer s id n i ys (fit_of s id n (stream_of s layer id)) r z
  filled_there z i ys r inside t = go t.0 t.2 t.3
    where
      go : (x : Result ℕ Faulted) → Fitted most layer s id n x t.1 → FillingBy x most layer t.1 n i ys r z → FilledTo most layer s id n i ys (fit_of s id n (stream_of s layer id)) r z
      go (Ok h) fit u =
          let v = laid_by t.1 h fit (length ys == 0) i ys r z inside (λ k. is_some (length ys) (sym k)) u in
          subst (λ x. FilledTo most layer s id n i ys (fit_of s id n (stream_of s layer id)) x z) (sym v.0) (filled_by most layer s t.1 z id n h i ys _ fit v.1)
      go (Err f) fit u =
          let v = unfilled most layer s t.1 id n i ys f _ fit in
          subst (λ (k : Result (Unit {0}) Faulted × State). FilledTo most layer s id n i ys (fit_of s id n (stream_of s layer id)) k.0 k.1) (λ j. (sym u.0 j, sym u.1 j)) v

module _ (most layer : ℕ) (s z : State) (a : Meant most s) (hold : Holds s) (id : ℕ) (e : Entry) (q : ◌≡◌ {A = Result Entry Faulted} (Ok e) (stream_of s layer id)) (r : Result (Unit {0}) Faulted) where
  found_fill : (n i : ℕ) (ys : List ℕ) → (n ≤ 16777216 → i + length ys ≤ reach (seen s) n) → Filling most layer s id n i ys r z → FilledTo most layer s id n i ys (fit_of s id n (Ok e)) r z
  found_fill n i ys inside t = subst (λ x. FilledTo most layer s id n i ys (fit_of s id n x) r z) (sym q) (filled_there most layer s a hold id n z i ys r inside t)

  -- a resize
  module _ (n : ℕ) where
    abbrev rest : ℕ
    rest = rest_of (unit_in (seen s) (home_of n)) (min e.length n)

    pub resized_is : Filling most layer s id n (min e.length n) (replicate rest 0) r z → Resized most layer s id n r z
    resized_is t =
        let inside = rest_within (unit_in (seen s) (home_of n)) (min e.length n) (some_in most s a.lawful (home_of n)) n (omega arith) in
        subst (λ x. ResizedTo most layer s id n (fit_of s id n x) r z) q
        (by_fit (λ x. FilledTo most layer s id n (min e.length n) (replicate rest 0) x r z) (λ x. ResizedTo most layer s id n x r z) e (λ u. u) (λ f u. u) s id n
        (found_fill n (min e.length n) (replicate rest 0) (λ few. omega (arith, inside, length-replicate {A = ℕ} rest 0)) t))

  -- a write that starts past the end
  pub past_is : (i : ℕ) (ys : List ℕ) → e.length < i → r ≡ Err (refuse 3 id None) → z ≡ s → Written most layer s id i ys r z
  past_is i ys l t left = subst (λ x. WrittenTo most layer s id i ys (write_of s id i (length ys) x) r z) q
      (subst (λ x. WrittenTo most layer s id i ys x r z) (sym (cond-true _ _ _ (lt-ltb e.length i l))) (t, left))

  -- another: one past the last number is too long, as is one to there
  module _ (i n : ℕ) (ys : List ℕ) (l : i ≤ e.length) (long : n ≡ max e.length (min (i + length ys) 0xffffffffffffffff)) (t : Filling most layer s id n i ys r z) where
    fill : FilledTo most layer s id n i ys (fit_of s id n (Ok e)) r z
    fill = found_fill n i ys (λ few. omega (arith, long, few, enough_reach most s a.lawful n)) t

    too_long : (k : ℕ) → 16777216 < k → fit_of s id k (Ok e) ≡ Err (refuse 4 id None)
    too_long k m = cond-true _ _ _ (lt-ltb 16777216 k m)

    fit_then : WrittenTo most layer s id i ys (fit_of s id (max e.length (i + length ys)) (Ok e)) r z
    fit_then = ⊎_elim
        (λ m. subst (λ x. WrittenTo most layer s id i ys x r z) (sym (too_long (max e.length (i + length ys)) (omega (arith, m))))
        (subst (λ x. FilledTo most layer s id n i ys x r z) (too_long n (omega (arith, m, long))) fill))
        (λ m. let same : n ≡ max e.length (i + length ys) = omega (arith, m, long) in
        by_fit (λ x. FilledTo most layer s id (max e.length (i + length ys)) i ys x r z) (λ x. WrittenTo most layer s id i ys x r z) e (λ u. u) (λ f u. u) s id (max e.length (i + length ys))
        (subst (λ k. FilledTo most layer s id k i ys (fit_of s id k (Ok e)) r z) same fill)) (cases_lt 0xffffffffffffffff (i + length ys))

    pub written_is : Written most layer s id i ys r z
    written_is = subst (λ x. WrittenTo most layer s id i ys (write_of s id i (length ys) x) r z) q
        (subst (λ x. WrittenTo most layer s id i ys x r z) (sym (cond-false _ _ _ (le-ltb e.length i l))) fit_then)
