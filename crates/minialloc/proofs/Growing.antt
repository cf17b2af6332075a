-- Beginning and extending a chain: the sectors are reserved, and so many mini sectors are ready.
-- Assumes nothing.
use Rattle.std.proofs.Common.{◌≡◌, ℕ, zero, suc, ◌+◌, ◌-◌, ◌<◌, ◌≤◌, Bool, true, false, cond, min, ◌≢◌, List, [], ◌∷◌, ◌++◌, length, Some, None, Ok, count_by, Option, Result, sym, refl, ap, ◌∙◌, subst, arith}
use Rattle.std.specs.Option.{MatchOption, option_map}
use Rattle.links.specs.Links.{free, at, Head}
use Rattle.links.specs.Walk.{last_or, reach}
use Rattle.links.proofs.Frees.{stack_count}
use Rattle.store.specs.Refusals.{Refused, answer}
use Rattle.store.specs.Meaning.{Store, MAX_HEAD, Begins, bytes_of, zeros, with_chain, due_extend, extended}
use Rattle.chain.specs.Webs.{stored, path_of, lengthened}
use Rattle.chain.proofs.Dues.{begun_done, extended_done}
use Rattle.rooms.specs.declared.Ground.{Ground}
use Rattle.rooms.specs.Rooms.{fits, growth}
use Rattle.rooms.proofs.Rooms.{fits_down, largest-fits}
use Rattle.mini.specs.Adding.{Reserves}
use Rattle.mini.specs.Mini.{root_of, asked_of, fitting, ground_of, grounded, meant_by}
use Rattle.mini.specs.Steps.{took_mini, put_mini}
use Rattle.mini.proofs.Growths.{borne_fair}
use Rattle.mini.proofs.Rests.{Reserved, reserved_done}
use Rattle.mini.proofs.Told.{means_open}
use Rattle.minialloc.specs.States.{State, figures_in, meant_in, web_in, next_mini, Sound, SyncedIn, hosted_by, roomier, Prepared, Prepares, BeginsChain, ExtendsChain}
use Rattle.minialloc.specs.declared.Found.{Found}
use Rattle.minialloc.proofs.Copies.{chain_here}
use Rattle.minialloc.proofs.Lasting.{Lasting, Based, based, Seen}

-- the last of a list, as a walk to its end finds it, and the list by it
reach_last : (d : ℕ) (ps : List ℕ) (r : ℕ) → length ps ≤ r → reach d ps r ≡ last_or d ps
reach_last d [] r l = refl
reach_last d (x ∷ ps) zero l = absurd (omega arith)
reach_last d (x ∷ ps) (suc r) l = reach_last x ps r (omega arith)

by_last : (d : ℕ) (ps : List ℕ) → 0 < length ps → (es : List ℕ) × (ps ≡ es ++ last_or d ps ∷ [])
by_last d [] l = absurd (omega arith)
by_last d (x ∷ []) l = ([], refl)
by_last d (x ∷ y ∷ ps) l = let r = by_last x (y ∷ ps) (omega arith) in (x ∷ r.0, ap (λ l. x ∷ l) r.1)

-- a chain that was gone along to its end, by its last place
module _ {most : ℕ} {s z : State} {h r : ℕ} {f : Found} (a : Seen most s z h r f) (l : f.chain.units ≤ r) where
  last_of : f.chain.place ≡ last_or 0 (path_of z.links h)
  last_of = a.place ∙ reach_last 0 (path_of z.links h) r (omega (arith, l, a.units))

  pub ends_of : {y : State} → y ≡ hosted_by s y.host → (es : List ℕ) × Head (at y.links) h (es ++ f.chain.place ∷ [])
  ends_of over =
      let b = by_last 0 (path_of z.links h) (omega (arith, a.chained.some, a.units)) in
      let e = ap (λ (x : State). x.links) a.base.same ∙ sym (ap (λ (x : State). x.links) over) in
      (b.0, subst (λ L. Head (at L) h (b.0 ++ f.chain.place ∷ [])) e (subst (λ p. Head (at z.links) h (b.0 ++ p ∷ [])) (sym last_of) (subst (λ ps. Head (at z.links) h ps) b.1 a.chained.head)))

-- the room, by the FREE places and the growth
pub room_of : {most : ℕ} {s z : State} {g : Ground} (b : Based most s z g) → (meant_in s).room ≡ length s.stack + growth g
room_of {most} {s} {z} {g} b =
    ap (λ (x : Store). x.room) b.means ∙ (λ i. (sym (stack_count z.links z.stack b.lasts.kept)) i + growth (sym b.ground i)) ∙ ap (λ (x : State). length x.stack + growth g) b.same

-- a mini store y that is s over a host with the sectors for n mini sectors
pub record Ready (most layer : ℕ) (s : State) (n : ℕ) (y : State) : Type 0 where
  pub over : y ≡ hosted_by s y.host
  pub prepares : Prepares most layer s n y.host
  pub sound : Sound y
  pub enough : n ≤ (web_in y).ready
  pub roomy : n ≤ (web_in y).room
  pub means : meant_in s ≡ stored (web_in y)
  pub synced : SyncedIn s → SyncedIn y

-- y is the state when the host, m before and v after, has the sectors for k places; f were FREE. The place 0 here and below is
-- free: only refusals tell one
pub prepared : (most layer : ℕ) (s : State) (g : Ground) (n f k : ℕ) (m v : Store) (y : State) → n ≤ length s.stack + growth g → f ≡ length s.stack → k ≡ n - f → m ≡ s.host
    → Reserves most m layer g k v → y ≡ hosted_by s v → Prepared most layer s g n 0 (Ok tt) y
prepared most layer s g n f k m v y l ef ek em r e =
    let q : Reserves most s.host layer g (n - length s.stack) v = subst (λ j. Reserves most s.host layer g j v) (ek ∙ ap (λ x. n - x) ef) (subst (λ x. Reserves most x layer g k v) em r) in
    subst (λ x. Prepared most layer s g n 0 (Ok tt) x) (sym e) (l, q, refl)

module _ {most : ℕ} (layer : ℕ) {s z : State} {g : Ground} (b : Based most s z g) (n : ℕ) where
  -- x, the same as s, is the state when it is prepared by those figures, and y the one after
  pub ready : {x y : State} (left : x ≡ s) (ok : Lasting most y) → Prepared most layer x g n 0 (Ok tt) ok.shown.0 → Ready most layer s n y
  ready {x} {y} left ok p =
      let q : Prepared most layer z g n 0 (Ok tt) y = subst (λ w. Prepared most layer w g n 0 (Ok tt) y) (left ∙ sym b.same) (subst (λ w. Prepared most layer x g n 0 (Ok tt) w) ok.shown.1 p) in
      let g0 = ground_of z.host (length z.links) in
      let frees : length z.stack ≡ count_by free z.links = stack_count z.links z.stack b.lasts.kept in
      let grows : growth g ≡ growth g0 = ap growth b.ground in
      let r : Prepares most layer z n y.host =
      subst (λ j. Reserves most z.host layer g0 (n - j) y.host) frees (subst (λ t. Reserves most z.host layer t (n - length z.stack) y.host) b.ground q.1) in
      subst (λ w. Ready most layer s n w) (sym q.2) (subst (λ w. Ready most layer w n (hosted_by z y.host)) b.same (over y.host (omega (arith, q.0, frees, grows)) r))
    where
      over : (v : Store) → n ≤ count_by free z.links + growth (ground_of z.host (length z.links)) → Prepares most layer z n v → Ready most layer z n (hosted_by z v)
      over v some q =
          let g0 = ground_of z.host (length z.links) in
          let k = n - count_by free z.links in
          let means : meant_in z ≡ stored (web_in z) = ap meant_in b.same ∙ b.means in
          let fit : fits g0 k ≡ true =
          fits_down g0 k (growth g0) (largest-fits g0 (borne_fair most z.host (length z.links) b.lasts.lawful b.lasts.hosted b.lasts.few b.sound.1)) (omega (arith, some)) in
          let a : Reserved z.host v z.links z.stack k = reserved_done most layer z.host q.0 v b.lasts.lawful q.1 b.lasts.hosted z.links z.stack b.lasts.few b.lasts.kept b.sound.1 k fit q.2 q.3 in
          record {
            over = refl;
            prepares = q;
            sound = (b.sound.0, a.borne);
            enough = omega (arith, a.ready);
            roomy = omega (arith, a.room, some);
            means = means ∙ sym a.means;
            synced = a.synced;
          }

-- after the shared text: u is the state then
module _ {most layer : ℕ} {s y : State} {n : ℕ} (a : Ready most layer s n y) {u : State} (ok : Lasting most u) (sound : Sound u) where
  opened : u.opened ≡ s.opened
  opened = sound.0 ∙ sym a.sound.0 ∙ ap (λ (x : State). x.opened) a.over

  pub begun_yes : (x : ℕ) → n ≢ 0 → (stored (web_in y)).chain x ≡ None → x ≤ MAX_HEAD
      → stored (web_in u) ≡ with_chain (stored (web_in y)) x (Some (zeros (stored (web_in y)) n)) ((web_in y).room - n)
      → Begins (meant_in s) 3 n (Ok x) (meant_in u)
  begun_yes x some none small is = begun_done (meant_in s) (stored (web_in y)) (meant_in u) 3 a.means n x some a.roomy none small
      (means_open most u.host ok.lawful u.links u.stack ok.few ok.kept u.opened sound.0 sound.1 ∙ is)

  pub begun_takes : (x : ℕ) → x ≡ next_mini (web_in y) → web_in u ≡ lengthened next_mini put_mini (n - 1) (took_mini (web_in y)) x → BeginsChain most layer s n (Ok x) u
  begun_takes x e w = (y.host, a.prepares, e ∙ ap (λ q. next_mini (web_in q)) a.over, opened, w ∙ ap (λ q. lengthened next_mini put_mini (n - 1) (took_mini (web_in q)) x) a.over)

  module _ {z : State} {h r : ℕ} {f : Found} (c : Seen most s z h r f) where
    pub extended_yes : stored (web_in u) ≡ with_chain (stored (web_in y)) h (Some (bytes_of (stored (web_in y)) h ++ zeros (stored (web_in y)) n)) ((web_in y).room - n)
        → ◌≡◌ {A = Result (Unit {0}) Refused} (Ok tt) (answer (due_extend (meant_in s) 3 h n) tt) × (meant_in u ≡ extended (meant_in s) 3 h n)
    extended_yes is = extended_done (meant_in s) (stored (web_in y)) (meant_in u) 3 a.means h _ (ap (λ (x : Store). x.chain h) (sym a.means) ∙ chain_here c) n a.roomy
        (means_open most u.host ok.lawful u.links u.stack ok.few ok.kept u.opened sound.0 sound.1 ∙ is)

    pub extended_takes : f.chain.units ≤ r → web_in u ≡ lengthened next_mini put_mini n (web_in y) f.chain.place → ExtendsChain most layer s h n (Ok tt) u
    extended_takes l w =
        (y.host, a.prepares, opened, w ∙ (λ i. lengthened next_mini put_mini n (web_in (a.over i)) ((last_of c l ∙ ap (λ (x : State). last_or 0 (path_of x.links h)) c.base.same) i)))

-- the room, by what was told of the figures
pub room_told : {most : ℕ} {s z : State} (ok : Lasting most z) (left : ok.shown.0 ≡ s) (o : Option Ground) (n : ℕ) {P : Ground → Type 0} → o ≡ figures_in s
    → MatchOption o (n ≡ 0) P → ((g : Ground) → P g → n ≡ length ok.shown.0.stack + growth g) → n ≡ (meant_in s).room
room_told {most} {s} ok left None n e k q = k ∙ ap (λ x. (meant_by x s.host s.links s.stack).room) e
room_told ok left (Some g) n e k q = q g k ∙ ap (λ (y : State). length y.stack + growth g) left ∙ sym (room_of (based ok left g (sym e)))

-- the figures over a host with the room r
grown : (o : Bool) (m f : Option ℕ) (s : Store) (r t : ℕ)
    → cond o (grounded (record s { room = r }) m f t) None ≡ option_map (λ (g : Ground). record g { spare = r }) (cond o (grounded s m f t) None)
grown false m f s r t = refl
grown true None f s r t = refl
grown true (Some m) None s r t = refl
grown true (Some m) (Some f) s r t = fitted (fitting (root_of s) s.notes.words s.unit m f t)
  where
    fitted : (b : Bool) → cond b (Some (ground_of (record s { room = r }) t)) None ≡ option_map (λ (g : Ground). record g { spare = r }) (cond b (Some (ground_of s t)) None)
    fitted true = refl
    fitted false = refl

pub room_shut : (s : State) (k : ℕ) → None ≡ figures_in s → 0 ≡ (meant_in (roomier s k)).room
room_shut s k e =
    let m = s.host in
    let r = (roomier s k).host.room in
    let none : figures_in (roomier s k) ≡ None =
    grown s.opened (asked_of m).minis (asked_of m).fats m r (length s.links) ∙ ap (option_map (λ (g : Ground). record g { spare = r })) (sym e) in
    sym (ap (λ x. (meant_by x (roomier s k).host s.links s.stack).room) none)

-- the room over a roomier host, by the figures of now
pub room_roomier : (s : State) (k : ℕ) (g : Ground) → figures_in s ≡ Some g → (meant_in (roomier s k)).room ≡ count_by free s.links + growth (ground_of (roomier s k).host (length s.links))
room_roomier s k g e =
    let m = s.host in
    let r = (roomier s k).host.room in
    let some : figures_in (roomier s k) ≡ Some (record g { spare = r }) =
    grown s.opened (asked_of m).minis (asked_of m).fats m r (length s.links) ∙ ap (option_map (λ (x : Ground). record x { spare = r })) e in
    ap (λ x. (meant_by x (roomier s k).host s.links s.stack).room) some

pub room_grown : {most : ℕ} {s z : State} (ok : Lasting most z) (left : ok.shown.0 ≡ s) (g : Ground) (k n : ℕ) → figures_in s ≡ Some g
    → n ≡ length ok.shown.0.stack + growth (record g { spare = min (g.spare + k) 0xffffffff }) → n ≡ (meant_in (roomier s k)).room
room_grown {most} {s} {z} ok left g k n e is =
    let b = based ok left g e in
    let told : g ≡ ground_of s.host (length s.links) = b.ground ∙ ap (λ (x : State). ground_of x.host (length x.links)) b.same in
    let frees : length s.stack ≡ count_by free s.links =
    subst (λ (x : State). length x.stack ≡ count_by free x.links) b.same (stack_count z.links z.stack b.lasts.kept) in
    is ∙ ap (λ (x : State). length x.stack + growth (record g { spare = min (g.spare + k) 0xffffffff })) left
    ∙ (λ i. frees i + growth (record (told i) { spare = min ((told i).spare + k) 0xffffffff })) ∙ sym (room_roomier s k g e)
