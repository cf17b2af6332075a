-- A stream gets the chain that a length needs, and the workbook stays whole.
-- Assumes nothing.
use Rattle.std.proofs.Common.{◌≡◌, ℕ, ◌+◌, ◌-◌, ◌*◌, ◌/◌, ◌<◌, ◌≤◌, ◌≢◌, Bool, true, false, List, [], ◌++◌, cond, length, take, replicate, Some, None, Ok, Err, Option, Result, sym, refl, ap, ◌∙◌, subst, inl, inr, ⊎_elim, zero-mul, arith}
use native.Mathlib.Nat.{div-eq_of_lt}
use Rattle.std.proofs.lemmas.Bool.{cond-true, cond-false, lt-ltb, le-ltb, ltb-false}
use Rattle.std.proofs.lemmas.List.{length-take, length-append, length-replicate}
use Rattle.std.proofs.lemmas.Option.{slice_get_within, get_or_from_slice_get}
use Rattle.std.specs.List.{slice_get}
use Rattle.std.specs.Prelude.{nat_lt}
use Rattle.std.specs.Option.{unwrap_or}
use Rattle.links.specs.Links.{END}
use Rattle.store.specs.declared.entries.Entry.{Entry}
use Rattle.store.specs.Kinds.{byte_of}
use Rattle.mini.specs.Mini.{root_of}
use mathlib.Core.Logic.{∥∥₁_elim, ∥∥₁_map}
use denote.Struct.Props.{props}
use Rattle.minifat.specs.Told.{Faulted}
use Rattle.store.specs.Refusals.{Refused, answer, unless}
use Rattle.store.specs.Meaning.{Store, Lawful, units_of, with_notes, moved, entered, due_entry}
use Rattle.minialloc.specs.States.{State, meant_in}
use Rattle.workbook.specs.declared.homes.Home.{Home}
use Rattle.workbook.specs.declared.homes.Home.TheVariants.{Mini}
use Rattle.workbook.specs.declared.plans.Plan.{Plan}
use Rattle.workbook.specs.Homes.{store_in, over, same_home}
use Rattle.workbook.specs.Sights.{Sight, seen, home_of, unit_in, chain_in, needed, Chained, Fits, Stream, Placed, Beside, reach, bytes_in, fitted, is_stream}
use Rattle.workbook.specs.Steps.{PlanOf, stays, need_for, room_for, room_by, Rebuilding}
use Rattle.workbook.specs.Refusals.{row, stream_of, fit_of, need_of, room_of}
use Rattle.workbook.specs.Calls.{Fitted, FittedTo}
use Rattle.workbook.specs.Whole.{Whole, Holds}
use Rattle.workbook.proofs.Found.{child, chained_units, stream_seen, stream_is, some_in, enough_reach}
use Rattle.mini.proofs.Figures.{end_units}
use Rattle.workbook.proofs.Entries.{entry_within, root_stays}
use Rattle.workbook.proofs.Effects.{entries_apart, root_there, entered_sound, entered_synced, seen_entered}
use Rattle.workbook.proofs.Hosts.{entered_unit}
use Rattle.workbook.proofs.Rebuilds.{Clean, Loose, Kept}
use Rattle.workbook.proofs.Rebuilt.{Had, Has, Leaves, rebuilt}
use Rattle.workbook.proofs.Sights.{Others, others_placed, own_beside, reach_alike, placed_again, set_apart, set_chain, set_bytes, get_set, stream_by, none_taken}

-- what a stream has, by the plan for it
module _ (most : ℕ) (s : State) (ok : Lawful most s.host) (okm : Lawful 4096 (meant_in s)) (w : Whole s) (id : ℕ) (e : Entry) (t : Stream (seen s) id e) (n : ℕ) (p : Plan) (po : PlanOf s e n p) where
  module _ (xs : List ℕ) (c : Chained (seen s) e xs) where
    have_units : p.have ≡ needed (seen s) (home_of e.length) e.length
    have_units = po.have ∙ chained_units most s ok e xs c

    have_some : p.have ≢ 0
    have_some z =
        let b = home_of e.length in
        let fit = enough_reach most s ok e.length in
        c.some (omega (arith, fit, ap (λ k. k * unit_in (seen s) b) (sym have_units ∙ z) ∙ zero-mul (unit_in (seen s) b)))

  pub some_had : e.length ≢ 0 → p.have ≢ 0
  some_had d = ⊎_elim (λ z. absurd (d z.0)) (λ c. have_some c.0 c.1) (w.placed.fits id e tt t)

  -- its chain, that its first bytes are as many as stay, and those of the stream
  abbrev pub Found : List ℕ → Type 0
  Found xs = Had id s p xs × (p.keep ≤ length xs) × (bytes_in (seen s) e ≡ take e.length xs) × (length xs ≡ reach (seen s) e.length)

  pub had : (xs : List ℕ) × Found xs
  had = go (w.placed.fits id e tt t)
    where
      go : Fits (seen s) e → (xs : List ℕ) × Found xs
      go (inl z) =
          let m : home_of e.length ≡ Mini = ap home_of z.0 in
          let none : p.have ≡ 0 = po.have ∙ (λ i. units_of (store_in s (m i)) (z.1 i)) ∙ end_units 4096 (meant_in s) okm END refl in
          ([], (inl (none, po.from ∙ m, refl, others_placed (seen s) id w.placed), omega (arith, po.keep, z.0), none_taken e.length _ [] z.0, sym (ap (reach (seen s)) z.0)))
      go (inr c) =
          let b = home_of e.length in
          let xs = c.0 in
          let fit = enough_reach most s ok e.length in
          let l : Loose s id b e.start xs = record { placed = others_placed (seen s) id w.placed; chain = c.1.chain; beside = own_beside (seen s) id e w.placed t c.1.some } in (
            xs,
            (
              inr (
                have_some c.0 c.1,
                subst (λ h. Loose s id p.from h xs) (sym po.start) (subst (λ a. Loose s id a e.start xs) (sym po.from) l),
                c.1.units ∙ (λ i. sym (have_units c.0 c.1) i * unit_in (seen s) (sym po.from i)),
              ),
              omega (arith, po.keep, c.1.units, fit),
              ap (λ o. take e.length (unwrap_or o [])) c.1.chain,
              c.1.units,
            ),
          )

  -- and no more than the new chain has
  pub keep_fits : p.keep ≤ p.want * unit_in (seen s) p.to
  keep_fits =
      let fit = enough_reach most s ok n in
      let k : p.want * unit_in (seen s) p.to ≡ needed (seen s) (home_of n) n * unit_in (seen s) (home_of n) = (λ i. po.want i * unit_in (seen s) (po.to i)) in
      omega (arith, po.keep, fit, k)

none_needed : (u : ℕ) → 0 < u → (0 + (u - 1)) / u ≡ 0
none_needed u l = div-eq_of_lt (omega (arith, l))

fitted_long : (n : ℕ) (xs : List ℕ) → length (fitted n xs) ≡ n
fitted_long n xs = omega (arith, length-take n (xs ++ replicate (n - length xs) 0), length-append xs (replicate (n - length xs) 0), length-replicate {A = ℕ} (n - length xs) 0)

-- some units are wanted where there are bytes
module _ (most : ℕ) (s : State) (ok : Lawful most s.host) (e : Entry) (n : ℕ) (p : Plan) (po : PlanOf s e n p) where
  want_none : p.want ≡ 0 → n ≡ 0
  want_none z =
      let fit = enough_reach most s ok n in
      omega (arith, fit, ap (λ q. q * unit_in (seen s) (home_of n)) (sym po.want ∙ z) ∙ zero-mul (unit_in (seen s) (home_of n)))

  pub want_some : p.want ≢ 0 → n ≢ 0
  want_some d z = d (po.want ∙ ap (needed (seen s) (home_of n)) z ∙ none_needed (unit_in (seen s) (home_of n)) (some_in most s ok (home_of n)))

-- the entry has the start of the new chain and the length, and the workbook is whole again: m is the state when the chain is
-- rebuilt
module _ (most layer : ℕ) (s m : State) (ok : Lawful most s.host) (w : Whole s) (id : ℕ) (e : Entry) (t : Stream (seen s) id e) (child : id ≢ 0) (n : ℕ) (p : Plan) (po : PlanOf s e n p)
    (xs : List ℕ) (h : ℕ) (c : Clean most m) (k : Kept s m id) (has : Has id (seen s) m p xs h) where
  abbrev after : Store
  after = with_notes m.host (moved m.host.notes.entries id h n) m.host.notes.words

  there : Stream (seen m) id e
  there = stream_by (seen s) (seen m) k.entries id e t

  fits_new : Fits (seen m) (record { kind = e.kind; start = h; length = n })
  fits_new = ⊎_elim
      (λ q. inl (want_none most s ok e n p po q.0, q.1))
      (λ q. inr (
        fitted (p.want * unit_in (seen s) p.to) (stays p xs),
        record {
          some = want_some most s ok e n p po q.0;
          chain = subst (λ b. chain_in (seen m) b h ≡ Some (fitted (p.want * unit_in (seen s) p.to) (stays p xs))) po.to q.1.chain;
          units = fitted_long (p.want * unit_in (seen s) p.to) (stays p xs) ∙ (λ i. po.want i * unit_in (seen s) (po.to i)) ∙ reach_alike (seen s) (seen m) (sym k.unit) n;
        },
      )) has

  beside_new : n ≢ 0 → Beside (seen m) id (home_of n) h
  beside_new d = ⊎_elim (λ q. absurd (d (want_none most s ok e n p po q.0))) (λ q. subst (λ b. Beside (seen m) id b h) po.to q.1.beside) has

  others_new : Placed (seen m) (Others id)
  others_new = ⊎_elim (λ q. q.2) (λ q. q.1.placed) has

  pub entry_there : id < length m.host.notes.entries
  entry_there = entry_within m id e there

  some_entries : 0 < length m.host.notes.entries
  some_entries = omega (arith, entry_there)

  root_kept : byte_of (root_of m.host).kind ≡ 5
  root_kept = root_stays s m k.entries (omega (arith, entry_within s id e t)) some_entries w.root

  pub whole_again : Lawful most after → Whole (over m after)
  whole_again oka = record {
    sound = entered_sound most m c.lawful c.sound id h n child some_entries;
    synced = entered_synced most m c.lawful c.sound id h n child some_entries c.synced;
    root = ap (λ (r : Entry). byte_of r.kind) (root_there most m c.lawful c.sound id h n child some_entries) ∙ root_kept;
    placed = subst (λ v. Placed v (λ j. Unit {0})) (sym (seen_entered most m c.lawful c.sound id h n child some_entries oka)) (placed_again (seen m) id h n e there others_new fits_new beside_new);
  }

-- what is so when the stream e of id fits n bytes: m is the state when its chain is rebuilt, and z when its entry is set
pub record Refit (s m z : State) (id : ℕ) (e : Entry) (h n : ℕ) : Type 0 where
  pub was : Stream (seen s) id e
  pub whole : Whole z
  pub stream : Stream (seen z) id (record { kind = e.kind; start = h; length = n })
  pub unit : (seen z).unit ≡ (seen s).unit
  pub entries : (j : ℕ) → j ≢ id → slice_get (seen z).entries j ≡ slice_get (seen s).entries j
  pub chain : (b : Home) → chain_in (seen z) b ≡ chain_in (seen m) b
  pub bytes : (j : ℕ) (d : Entry) → j ≢ id → Stream (seen s) j d → bytes_in (seen z) d ≡ bytes_in (seen s) d

-- what a fit that was accepted says, with the head that it tells
pub fitted_by : (most layer : ℕ) (s y : State) (id n h : ℕ) (e : Entry) → FittedTo most layer s id n (Ok e) (Ok h) y
    → (p : Plan) × PlanOf s e n p × (m : State) × Lawful most m.host × Rebuilding most layer p s (Ok h) m × (y ≡ over m (entered m.host layer id h n))
fitted_by most layer s y id n h e f =
    let same : f.0 ≡ h = let k : ◌≡◌ {A = Result ℕ Faulted} (Ok h) (Ok f.0) = f.1 in cc in
    (f.2, f.3, f.4, f.5, subst (λ k. Rebuilding most layer f.2 s (Ok k) f.4) same f.6, subst (λ k. y ≡ over f.4 (entered f.4.host layer id k n)) same f.7)

-- making a stream fit a length does not fail where there is room, and leaves the workbook whole. m is the state when the chain
-- is rebuilt
module _ (most layer : ℕ) (s m : State) (ok : Lawful most s.host) (okm : Lawful most m.host) (mini : Lawful 4096 (meant_in s)) (hold : Holds s)
    (id : ℕ) (e : Entry) (q : ◌≡◌ {A = Result Entry Faulted} (Ok e) (stream_of s layer id)) (n : ℕ) (p : Plan) (po : PlanOf s e n p) (room : need_for p ≤ room_for s p)
    (r : Result ℕ Refused) (t : Rebuilding most layer p s r m) where
  told : (s.opened ≡ true) × (slice_get s.host.notes.entries id ≡ Some e) × (is_stream e ≡ true)
  told = stream_is s layer id e q

  module _ (w : Whole s) where
    pub own_stream : Stream (seen s) id e
    own_stream = stream_seen s w id e told.1 told.2

    pub first : (xs : List ℕ) × Found most s ok mini w id e own_stream n p po xs
    first = had most s ok mini w id e own_stream n p po

    pub done : (h : ℕ) × (r ≡ Ok h) × Clean most m × Kept s m id × Has id (seen s) m p first.0 h × Leaves s m p h
    done = rebuilt most layer s m id (record { lawful = ok; sound = w.sound; synced = w.synced }) okm p first.0 r first.1.0 first.1.1 (keep_fits most s ok mini w id e own_stream n p po) (λ d. room) t

    kept_stream : Stream (seen m) id e
    kept_stream = stream_by (seen s) (seen m) done.3.entries id e own_stream

    none_due : due_entry m.host layer id ≡ None
    none_due =
        let l = entry_there most layer s m ok w id e own_stream (child s w id e told.1 told.2) n p po first.0 done.0 done.2 done.3 done.4 in
        cond-true _ _ _ (lt-ltb id (length m.host.notes.entries) l)

    module _ (h : ℕ) (k : r ≡ Ok h) (z : State) (is : z ≡ over m (entered m.host layer id h n)) where
      pub head_is : h ≡ done.0
      head_is = let b : ◌≡◌ {A = Result ℕ Refused} (Ok h) (Ok done.0) = sym k ∙ done.1 in cc

      abbrev a : Store
      a = with_notes m.host (moved m.host.notes.entries id h n) m.host.notes.words

      z_is : z ≡ over m a
      z_is = is ∙ ap (λ d. over m (unless d m.host a)) none_due

      pub whole_then : Lawful most z.host → Whole z
      whole_then okz =
          let has = subst (λ x. Has id (seen s) m p first.0 x) (sym head_is) done.4 in
          let oka : Lawful most a = subst (λ (x : State). Lawful most x.host) z_is okz in
          subst Whole (sym z_is) (whole_again most layer s m ok w id e own_stream (child s w id e told.1 told.2) n p po first.0 h done.2 done.3 has oka)

      seen_then : Lawful most z.host → seen z ≡ record (seen m) { entries = moved (seen m).entries id h n }
      seen_then okz =
          let l = entry_there most layer s m ok w id e own_stream (child s w id e told.1 told.2) n p po first.0 done.0 done.2 done.3 done.4 in
          let oka : Lawful most a = subst (λ (x : State). Lawful most x.host) z_is okz in
          ap seen z_is ∙ seen_entered most m done.2.lawful done.2.sound id h n (child s w id e told.1 told.2) (omega (arith, l)) oka

  pub never : (f : Refused) → r ≡ Err f → ⊥
  never f k = ∥∥₁_elim hold (hlevel props) (λ g. let d = done (g told.0) in let b : ◌≡◌ {A = Result ℕ Refused} (Err f) (Ok d.0) = sym k ∙ d.1 in cc)

  pub entry_due : due_entry m.host layer id ≡ None
  entry_due = let p : IsProp (due_entry m.host layer id ≡ None) = hlevel props in ∥∥₁_elim hold p (λ g. none_due (g told.0))

  pub opened_then : (h : ℕ) → r ≡ Ok h → (z : State) → z ≡ over m (entered m.host layer id h n) → Lawful most z.host → z.opened ≡ true
  opened_then h k z is okz = let p : IsProp (z.opened ≡ true) = hlevel props in ∥∥₁_elim hold p (λ g. (whole_then (g told.0) h k z is okz).sound.0)

  pub unit_then : (h : ℕ) → r ≡ Ok h → (z : State) → z ≡ over m (entered m.host layer id h n) → (seen z).unit ≡ (seen s).unit
  unit_then h k z is = let p : IsProp ((seen z).unit ≡ (seen s).unit) = hlevel props in ∥∥₁_elim hold p (λ g.
      ap (λ (x : State). x.host.unit) is ∙ entered_unit m.host layer id h n ∙ (done (g told.0)).3.unit)

  pub entry_then : (h : ℕ) → r ≡ Ok h → (z : State) → z ≡ over m (entered m.host layer id h n) → slice_get z.host.notes.entries id ≡ Some (record { kind = e.kind; start = h; length = n })
  entry_then h k z is = let p : IsProp (slice_get z.host.notes.entries id ≡ Some (record { kind = e.kind; start = h; length = n })) = hlevel props in ∥∥₁_elim hold p (λ g. go (g told.0))
    where
      go : Whole s → slice_get z.host.notes.entries id ≡ Some (record { kind = e.kind; start = h; length = n })
      go w =
          let there : slice_get m.host.notes.entries id ≡ Some e = sym (entries_apart m.host.notes.entries id (child s w id e told.1 told.2)) ∙ (kept_stream w).0 in
          let to : z ≡ over m (with_notes m.host (moved m.host.notes.entries id h n) m.host.notes.words) =
          is ∙ ap (λ q. over m (unless q m.host (with_notes m.host (moved m.host.notes.entries id h n) m.host.notes.words))) (none_due w) in
          ap (λ (x : State). slice_get x.host.notes.entries id) to
          ∙ get_set m.host.notes.entries id _ e (slice_get_within m.host.notes.entries id e there)
          ∙ ap (λ (q : Entry). Some (record { kind = q.kind; start = h; length = n })) (get_or_from_slice_get m.host.notes.entries id e _ there)

  pub refit : Whole s → (h : ℕ) → r ≡ Ok h → (z : State) → z ≡ over m (entered m.host layer id h n) → Lawful most z.host → Refit s m z id e h n
  refit w h k z is okz =
      let whole = whole_then w h k z is okz in
      let sight = seen_then w h k z is okz in
      let kept = (done w).3 in
      let there = kept_stream w in
      record {
        was = own_stream w;
        whole = whole;
        stream = stream_seen z whole id _ (entry_then h k z is) told.2;
        unit = ap (λ (v : Sight). v.unit) sight ∙ kept.unit;
        entries = λ j d. ap (λ (v : Sight). slice_get v.entries j) sight ∙ set_apart (seen m) id h n e there j d ∙ ap (λ es. slice_get es j) kept.entries;
        chain = λ b. ap (λ v. chain_in v b) sight ∙ set_chain (seen m) id h n e there b;
        bytes = λ j d k u. ap (λ v. bytes_in v d) sight ∙ set_bytes (seen m) id h n e there d ∙ kept.bytes j d k u;
      }

  pub holds_then : (h : ℕ) → r ≡ Ok h → (z : State) → z ≡ over m (entered m.host layer id h n) → Lawful most z.host → Holds z
  holds_then h k z is okz = ∥∥₁_map hold (λ g. λ o. whole_then (g told.0) h k z is okz)

-- what a plan needs, and its room, are those of the stream's
module _ (s : State) (e : Entry) (n : ℕ) (p : Plan) (po : PlanOf s e n p) where
  pub need_is : need_for p ≡ need_of s e n
  need_is i = cond (same_home (po.from i) (po.to i)) (po.want i - po.have i) (po.want i)

  pub room_is : room_for s p ≡ room_of s e n
  room_is i = room_by s (po.from i) (po.to i) (po.have i)

  pub plan_room : need_of s e n ≤ room_of s e n → need_for p ≤ room_for s p
  plan_room l = omega (arith, l, need_is, room_is)

  -- a stream that is found, a length that is not too long, and room: then nothing is refused
  pub fit_is : (layer id : ℕ) → ◌≡◌ {A = Result Entry Faulted} (Ok e) (stream_of s layer id) → n ≤ 16777216 → need_for p ≤ room_for s p → ◌≡◌ {A = Result Entry Faulted} (Ok e) (fit_of s id n (stream_of s layer id))
  fit_is layer id q few room =
      sym (ap (fit_of s id n) (sym q) ∙ cond-false _ _ _ (le-ltb 16777216 n few) ∙ cond-false _ _ _ (le-ltb (room_of s e n) (need_of s e n) (omega (arith, room, need_is, room_is))))

pub not_err : (due : Option Refused) (f : Refused) → due ≡ None → ◌≡◌ {A = Result (Unit {0}) Refused} (Err f) (answer due tt) → ⊥
not_err due f d t = let b : ◌≡◌ {A = Result (Unit {0}) Refused} (Err f) (Ok tt) = t ∙ ap (λ x. answer x tt) d in cc

pub not_ok : (f : Faulted) → ◌≡◌ {A = Result (Unit {0}) Faulted} (Ok tt) (Err f) → ⊥
not_ok f t = cc

-- what follows of a refusal, and of what the rows let through, follows of the rows
module _ (D : Result Entry Faulted → Type 0) (P : Type 0) (refused : (f : Faulted) → D (Err f) → P) where
  pub row_cases : (b : Bool) (f : Faulted) (x : Result Entry Faulted) → (b ≡ false → D x → P) → D (row b f x) → P
  row_cases true f x below t = refused f t
  row_cases false f x below t = below refl t

  -- a length that is accepted is not too long, and there is room
  pub fit_cases : (s : State) (id n : ℕ) (e : Entry) → (n ≤ 16777216 → need_of s e n ≤ room_of s e n → D (Ok e) → P) → D (fit_of s id n (Ok e)) → P
  fit_cases s id n e below t =
      row_cases (nat_lt 16777216 n) _ _
      (λ a. row_cases (nat_lt (room_of s e n) (need_of s e n)) _ (Ok e) (λ b. below (ltb-false 16777216 n a) (ltb-false (room_of s e n) (need_of s e n) b))) t

-- so what is so of no refusal is so of what they let through
module _ (D : Result Entry Faulted → Type 0) (never : (f : Faulted) → D (Err f) → ⊥) where
  pub row_open : (b : Bool) (f : Faulted) (x : Result Entry Faulted) → D (row b f x) → (b ≡ false) × D x
  row_open b f x t = row_cases D ((b ≡ false) × D x) (λ g u. absurd (never g u)) b f x (λ a u. (a, u)) t

  -- of a stream that was found
  pub found_in : (x : Result Entry Faulted) → D x → (e : Entry) × ◌≡◌ {A = Result Entry Faulted} (Ok e) x × D (Ok e)
  found_in (Ok e) t = (e, refl, t)
  found_in (Err f) t = absurd (never f t)

  pub rows_open : (s : State) (id n : ℕ) (e : Entry) → D (fit_of s id n (Ok e)) → (n ≤ 16777216) × (need_of s e n ≤ room_of s e n) × D (Ok e)
  rows_open s id n e t = fit_cases D ((n ≤ 16777216) × (need_of s e n ≤ room_of s e n) × D (Ok e)) (λ g u. absurd (never g u)) s id n e (λ a b u. (a, b, u)) t

pub fit_open : (most layer : ℕ) (s : State) (id n h : ℕ) (z : State) (e : Entry) → ◌≡◌ {A = Result Entry Faulted} (Ok e) (stream_of s layer id) → Fitted most layer s id n (Ok h) z
    → (n ≤ 16777216) × (need_of s e n ≤ room_of s e n) × FittedTo most layer s id n (Ok e) (Ok h) z
fit_open most layer s id n h z e q t =
    rows_open (λ x. FittedTo most layer s id n x (Ok h) z) (λ f u. let k : ◌≡◌ {A = Result ℕ Faulted} (Ok h) (Err f) = u.0 in cc) s id n e
    (subst (λ x. FittedTo most layer s id n (fit_of s id n x) (Ok h) z) (sym q) t)
