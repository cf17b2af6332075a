-- No call on a stream touches a chain that no stream has.
-- Assumes nothing.
use Rattle.std.proofs.Common.{◌≡◌, ℕ, ◌+◌, ◌≤◌, ◌≢◌, Bool, true, false, min, max, replicate, List, length, Some, Ok, Err, Result, sym, refl, ap, ◌∙◌, subst, ⊎_elim, arith}
use Rattle.std.proofs.lemmas.Bool.{cases_eq}
use Rattle.std.proofs.lemmas.Option.{same_Some}
use Rattle.std.proofs.lemmas.List.{length-replicate}
use Rattle.std.specs.List.{slice_get}
use Rattle.std.specs.Prelude.{◌==◌, nat_lt}
use Rattle.links.specs.Links.{at}
use Rattle.store.specs.declared.entries.Entry.{Entry}
use Rattle.store.specs.Refusals.{Refused}
use Rattle.store.specs.Meaning.{Lawful, entered}
use Rattle.minifat.specs.Told.{Faulted}
use Rattle.chain.specs.Webs.{path_of}
use Rattle.chain.proofs.Joined.{in_get_d}
use Rattle.minialloc.specs.States.{State, Sound}
use Rattle.workbook.specs.declared.homes.Home.{Home}
use Rattle.workbook.specs.declared.homes.Home.TheVariants.{Mini}
use Rattle.workbook.specs.declared.plans.Plan.{Plan}
use Rattle.workbook.specs.Homes.{over, WritesIn}
use Rattle.workbook.specs.Sights.{Sight, seen, home_of, unit_in, chain_in, Stream, Unheld}
use Rattle.workbook.specs.Steps.{PlanOf, need_for, room_for, Rebuilding}
use Rattle.workbook.specs.Refusals.{stream_of, write_of, need_of, room_of, fit_of}
use Rattle.workbook.specs.Calls.{FittedTo, FilledTo, LaidBy, Written, WrittenTo, Resized, ResizedTo, rest_of}
use Rattle.workbook.specs.Whole.{Whole, Holds, Meant}
use Rattle.workbook.proofs.Effects.{entered_lawful}
use Rattle.workbook.proofs.Found.{chained}
use Rattle.workbook.proofs.Fitting.{Refit, refit, fitted_by, plan_room, some_had, want_some, done, row_cases, fit_cases}
use Rattle.workbook.proofs.Laying.{is_some}
use Rattle.workbook.proofs.Outcomes.{Strays, strays_on}
use Rattle.workbook.proofs.Places.{Tidy, Same, has_places, same_path}
use Rattle.workbook.proofs.Rebuilds.{turned_rest}
use Rattle.workbook.proofs.Rebuilt.{Leaves}
use Rattle.workbook.proofs.Sights.{stream_by, entries_same, unit_same}
use Rattle.workbook.proofs.Turns.{rewritten, written_table}

pub strays_same : (s z : State) → z ≡ s → Strays s z
strays_same s z e = subst (Strays s) (sym e) (record { unit = refl; chain = λ b h xs c u. (c, u); places = λ h xs c u. refl })

-- a head of both with the same links has the same places
places_same : (most : ℕ) (s z : State) → Lawful most s.host → Lawful most z.host → Sound s → Sound z → length s.links ≤ 4096 → length z.links ≤ 4096
    → (k : ℕ) (xs : List ℕ) → chain_in (seen s) Mini k ≡ Some xs → chain_in (seen z) Mini k ≡ Some xs → Same s z k → path_of z.links k ≡ path_of s.links k
places_same most s z ok okz sound soundz few fewz k xs a b same =
    let i = in_get_d (path_of s.links k) 0 (has_places most s ok sound k xs a) in
    let j = in_get_d (path_of z.links k) 0 (has_places most z okz soundz k xs b) in
    same_path s.links z.links few fewz k _ _ i j same

-- bytes are laid over a stream's chain
module _ (most layer : ℕ) (s z : State) (ok : Lawful most s.host) (okz : Lawful most z.host) (w : Whole s) (id : ℕ) (e : Entry) (t : Stream (seen s) id e) (some : e.length ≢ 0) where
  pub strays_laid : (i : ℕ) (ys : List ℕ) → WritesIn layer s (home_of e.length) e.start i ys (Ok tt) z → Strays s z
  strays_laid i ys step =
      let home = home_of e.length in
      let h = e.start in
      let c = chained most layer s ok w id e t some in
      let u = rewritten most layer s z ok okz w.sound w.synced home h c.0 c.1.chain i ys (Ok tt) step in
      let rest = turned_rest s z home h u.0 u.1 in
      let entries : (seen z).entries ≡ (seen s).entries = ap (λ (v : Sight). v.entries) u.1.sight ∙ entries_same (seen s) home h u.0 in
      let there : (j : ℕ) (d : Entry) → Stream (seen s) j d → Stream (seen z) j d = stream_by (seen s) (seen z) entries in
      record {
        unit = ap (λ (v : Sight). v.unit) u.1.sight ∙ unit_same (seen s) home h u.0;
        chain = λ b k xs q free. (
          sym (rest.chain b k (λ m n. free id e (there id e t) some (sym m) (sym n))) ∙ q,
          λ j d x. free j d (there j d x),
        );
        places = λ k xs q free. ap (λ L. path_of L k) (written_table most layer s z ok okz w.sound w.synced home h i ys (Ok tt) step);
      }

-- m is the state when the stream's chain is rebuilt, and y when its entry is set
module _ (most layer : ℕ) (s m y : State) (a : Meant most s) (w : Whole s) (okm : Lawful most m.host) (oky : Lawful most y.host)
    (id : ℕ) (e : Entry) (q : ◌≡◌ {A = Result Entry Faulted} (Ok e) (stream_of s layer id)) (n : ℕ) (p : Plan) (po : PlanOf s e n p) (room : need_for p ≤ room_for s p)
    (h : ℕ) (t : Rebuilding most layer p s (Ok h) m) (is : y ≡ over m (entered m.host layer id h n)) where
  hold : Holds s
  hold = ∣ (λ o. w) ∣₁

  fit : Refit s m y id e h n
  fit = refit most layer s m a.lawful okm a.mini hold id e q n p po room (Ok h) t w h refl y is oky

  leaves : Leaves s m p h
  leaves =
      let d = done most layer s m a.lawful okm a.mini hold id e q n p po room (Ok h) t w in
      let same : d.0 ≡ h = let k : ◌≡◌ {A = Result ℕ Refused} (Ok h) (Ok d.0) = d.1 in cc in
      subst (Leaves s m p) same d.5

  -- a chain that no stream has then is not that of the stream
  fresh : (b : Home) (k : ℕ) → Unheld (seen y) b k → p.want ≢ 0 → b ≡ p.to → k ≢ h
  fresh b k free d u v = free id (record { kind = e.kind; start = h; length = n }) fit.stream (want_some most s a.lawful e n p po d) (sym (u ∙ po.to)) (sym v)

  there : (b : Home) (k : ℕ) (xs : List ℕ) → chain_in (seen y) b k ≡ Some xs → Unheld (seen y) b k → (chain_in (seen s) b k ≡ Some xs) × (p.have ≢ 0 → b ≡ p.from → k ≢ p.start)
  there b k xs c free =
      leaves.chain b k xs (sym (ap (λ f. f k) (fit.chain b)) ∙ c) (fresh b k free)

  unheld : (b : Home) (k : ℕ) (xs : List ℕ) → chain_in (seen y) b k ≡ Some xs → Unheld (seen y) b k → Unheld (seen s) b k
  unheld b k xs c free j d u some home = ⊎_elim
      (λ i v.
      let g : d ≡ e = same_Some d e (sym u.0 ∙ ap (slice_get (seen s).entries) i ∙ fit.was.0) in
      let have : p.have ≢ 0 = some_had most s a.lawful a.mini w id e fit.was n p po (λ z. some (ap (λ (x : Entry). x.length) g ∙ z)) in
      (there b k xs c free).1 have (sym home ∙ ap (λ (x : Entry). home_of x.length) g ∙ sym po.from) (sym v ∙ ap (λ (x : Entry). x.start) g ∙ sym po.start))
      (λ i. free j d (fit.entries j i ∙ u.0, u.1) some home) (cases_eq j id)

  strays_rebuilt : length y.links ≤ 4096 → Strays s y
  strays_rebuilt few = record {
    unit = fit.unit;
    chain = λ b k xs c free. ((there b k xs c free).0, unheld b k xs c free);
    places = λ k xs c free.
        let f = there Mini k xs c free in
        let tidy : Tidy s = record { few = a.few; kept = record { checked = a.checked; stacks = a.stacks } } in
        let same : Same s y k = λ i j. ap (λ (x : State). at x.links i) is ∙ leaves.links tidy k (λ d u. f.1 d (sym u)) (λ d u. fresh Mini k free d (sym u)) i j in
        places_same most s y a.lawful oky w.sound fit.whole.sound a.few few k xs f.0 c same;
  }

-- y is the state when the stream fits
module _ (most layer : ℕ) (s y : State) (a : Meant most s) (w : Whole s) (id : ℕ) (e : Entry) (q : ◌≡◌ {A = Result Entry Faulted} (Ok e) (stream_of s layer id))
    (n h : ℕ) (room : need_of s e n ≤ room_of s e n) (f : FittedTo most layer s id n (Ok e) (Ok h) y) where
  abbrev g : (p : Plan) × PlanOf s e n p × (m : State) × Lawful most m.host × Rebuilding most layer p s (Ok h) m × (y ≡ over m (entered m.host layer id h n))
  g = fitted_by most layer s y id n h e f

  roomy : need_for g.0 ≤ room_for s g.0
  roomy = plan_room s e n g.0 g.1 room

  oky : Lawful most y.host
  oky = subst (λ (x : State). Lawful most x.host) (sym g.5) (entered_lawful most g.2.host layer id h n g.3)

  pub strays_to : length y.links ≤ 4096 → Strays s y
  strays_to = strays_rebuilt most layer s g.2 y a w g.3 oky id e q n g.0 g.1 roomy h g.4 g.5

  -- and bytes are laid over its chain then
  pub strays_then : (b : Bool) (i : ℕ) (ys : List ℕ) (z : State) → Lawful most z.host → length z.links ≤ 4096 → (b ≡ false → n ≢ 0) → LaidBy b layer y (home_of n) h i ys z → Strays s z
  strays_then true i ys z okz few some step = subst (Strays s) (sym step) (strays_to (subst (λ (x : State). length x.links ≤ 4096) step few))
  strays_then false i ys z okz few some step =
      let x : Entry = record { kind = e.kind; start = h; length = n } in
      let k = fit most layer s g.2 y a w g.3 oky id e q n g.0 g.1 roomy h g.4 g.5 in
      let fewy = subst (λ L. length L ≤ 4096) (written_table most layer y z oky okz k.whole.sound k.whole.synced (home_of n) h i ys (Ok tt) step) few in
      strays_on s y z (strays_to fewy) (strays_laid most layer y z oky okz k.whole id x k.stream (some refl) i ys step)

module _ (most layer : ℕ) (s z : State) (a : Meant most s) (b : Meant most z) (w : Whole s) (id : ℕ) where
  -- making a stream fit a length, and laying bytes over it then, where a length that has none is laid none
  strays_filled : (e : Entry) → ◌≡◌ {A = Result Entry Faulted} (Ok e) (stream_of s layer id) → (n i : ℕ) (ys : List ℕ) → (length ys ≢ 0 → n ≢ 0) → (r : Result (Unit {0}) Faulted)
      → need_of s e n ≤ room_of s e n → FilledTo most layer s id n i ys (Ok e) r z → Strays s z
  strays_filled e q n i ys some r room u =
      strays_then most layer s u.2 a w id e q n u.1 room u.3 (length ys == 0) i ys z b.lawful b.few (λ k. some (is_some (length ys) (sym k))) u.4

  -- writing to one
  pub strays_written : (i : ℕ) (ys : List ℕ) (r : Result (Unit {0}) Faulted) → Written most layer s id i ys r z → Strays s z
  strays_written i ys r t = go (stream_of s layer id) refl t
    where
      go : (x : Result Entry Faulted) → x ≡ stream_of s layer id → WrittenTo most layer s id i ys (write_of s id i (length ys) x) r z → Strays s z
      go (Err f) q u = strays_same s z u.1
      go (Ok e) q u =
          let D = λ (x : Result Entry Faulted). WrittenTo most layer s id i ys x r z in
          let n = max e.length (i + length ys) in
          row_cases D (Strays s z) (λ f v. strays_same s z v.1) (nat_lt e.length i) _ _
          (λ past. fit_cases D (Strays s z) (λ f v. strays_same s z v.1) s id n e (λ few room v. strays_filled e q n i ys (λ d y. d (omega (arith, y))) r room v)) u

  -- and making one longer or shorter
  pub strays_resized : (n : ℕ) (r : Result (Unit {0}) Faulted) → Resized most layer s id n r z → Strays s z
  strays_resized n r t = go (stream_of s layer id) refl t
    where
      go : (x : Result Entry Faulted) → x ≡ stream_of s layer id → ResizedTo most layer s id n (fit_of s id n x) r z → Strays s z
      go (Err f) q u = strays_same s z u.1
      go (Ok e) q u =
          let u0 = unit_in (seen s) (home_of n) in
          let zs = replicate (rest_of u0 (min e.length n)) 0 in
          let some : length zs ≢ 0 → n ≢ 0 = λ d y.
          let none : min e.length n ≡ 0 = omega (arith, y) in
          d (length-replicate {A = ℕ} (rest_of u0 (min e.length n)) 0 ∙ (λ j. rest_of (unit_in (seen s) (home_of (y j))) (none j))) in
          fit_cases (λ x. ResizedTo most layer s id n x r z) (Strays s z) (λ f v. strays_same s z v.1) s id n e (λ few room v. strays_filled e q n (min e.length n) zs some r room v) u
