-- What a stream's chain is in an open workbook.
-- Assumes nothing.
use Rattle.std.proofs.Common.{◌≡◌, ℕ, ◌+◌, ◌-◌, ◌*◌, ◌/◌, ◌<◌, ◌≤◌, ◌≢◌, Bool, true, false, not, List, [], length, take, drop, Some, None, Ok, Err, Option, Result, sym, refl, ap, ◌∙◌, ⊎_elim, mul-div_cancel, arith}
use Rattle.std.proofs.Math.Nat.{lt-div-mul-add, zero-div}
use Rattle.std.proofs.lemmas.List.{drop-take, take-take}
use Rattle.std.proofs.lemmas.Option.{get_or_from_slice_get}
use Rattle.std.specs.Int.{div_ceil}
use Rattle.rooms.proofs.Rooms.{ceil_up}
use Rattle.std.specs.List.{slice_get}
use Rattle.std.specs.Option.{unwrap_or}
use mathlib.Core.Logic.{∥∥₁_elim}
use denote.Struct.Props.{props}
use Rattle.store.specs.declared.entries.Entry.{Entry}
use Rattle.store.specs.Kinds.{byte_of}
use Rattle.std.specs.Result.{result_unwrap_or}
use Rattle.store.specs.declared.faults.StoreFault.{StoreFault}
use Rattle.store.specs.Refusals.{told, answer, unless}
use Rattle.store.specs.Meaning.{Store, Lawful, bytes_of, units_of, headed, due_head, due_copy, read_into, entry_or}
use Rattle.minifat.specs.Told.{Faulted}
use Rattle.chain.proofs.Dues.{copy_yes}
use Rattle.mini.specs.Mini.{root_of}
use Rattle.minialloc.specs.States.{State}
use Rattle.workbook.specs.declared.homes.Home.{Home}
use Rattle.workbook.specs.declared.homes.Home.TheVariants.{Mini, Host}
use Rattle.workbook.specs.Homes.{store_in, layer_in}
use Rattle.workbook.specs.Sights.{seen, home_of, unit_in, needed, reach, is_stream, Chained, Stream, bytes_in}
use Rattle.workbook.specs.Refusals.{refuse, row, stream_in, stream_of}
use Rattle.workbook.specs.Whole.{Whole, Holds}
use Rattle.workbook.proofs.Effects.{entries_apart}
use Rattle.workbook.proofs.Entries.{no_root}
use Rattle.workbook.proofs.Turns.{own_chain, unit_there}

-- entry 0 is the root's, so a stream is another, and a workbook sees it as it is
module _ (s : State) (w : Whole s) (id : ℕ) (e : Entry) (at : slice_get s.host.notes.entries id ≡ Some e) (is : is_stream e ≡ true) where
  pub child : id ≢ 0
  child z =
      let k : e ≡ root_of s.host = sym (get_or_from_slice_get s.host.notes.entries 0 e _ (ap (slice_get s.host.notes.entries) (sym z) ∙ at)) in
      no_root e is (ap (λ (d : Entry). byte_of d.kind) k ∙ w.root)

  pub stream_seen : Stream (seen s) id e
  stream_seen = (entries_apart s.host.notes.entries id child ∙ at, is)

-- a slice of the first bytes is one of all
pub slice_take : (i k n : ℕ) (xs : List ℕ) → i + k ≤ n → take k (drop i (take n xs)) ≡ take k (drop i xs)
slice_take i k n xs l =
    let e : n ≡ i + (n - i) = omega (arith, l) in
    ap (λ m. take k (drop i (take m xs))) e ∙ ap (take k) (drop-take i (n - i) xs) ∙ take-take k (n - i) (drop i xs) (omega (arith, l))

-- so many bytes fit the units that they need
enough_units : (n u : ℕ) → 0 < u → n ≤ (n + (u - 1)) / u * u
enough_units n u l = let t : n + (u - 1) < (n + (u - 1)) / u * u + u = lt-div-mul-add l in omega (arith, t, l)

pub some_in : (most : ℕ) (s : State) → Lawful most s.host → (b : Home) → 0 < unit_in (seen s) b
some_in most s ok Mini = omega arith
some_in most s ok Host = ok.unit

pub small_in : (most : ℕ) (s : State) → Lawful most s.host → (b : Home) → unit_in (seen s) b ≤ 4096
small_in most s ok Mini = omega arith
small_in most s ok Host = ok.small

pub enough_reach : (most : ℕ) (s : State) → Lawful most s.host → (n : ℕ) → n ≤ reach (seen s) n
enough_reach most s ok n = enough_units n (unit_in (seen s) (home_of n)) (some_in most s ok (home_of n))

-- a stream's chain has the units that its length needs
pub chained_units : (most : ℕ) (s : State) → Lawful most s.host → (e : Entry) (xs : List ℕ) → Chained (seen s) e xs → units_of (store_in s (home_of e.length)) e.start ≡ needed (seen s) (home_of e.length) e.length
chained_units most s ok e xs c =
    let b = home_of e.length in
    (λ i. length (unwrap_or (own_chain s e.start xs b c.chain i) []) / unit_there s b i) ∙ ap (λ k. k / unit_in (seen s) b) c.units
    ∙ mul-div_cancel (needed (seen s) b e.length) (some_in most s ok b)

-- the chain of a stream that has bytes
module _ (most layer : ℕ) (s : State) (ok : Lawful most s.host) (w : Whole s) (id : ℕ) (e : Entry) (t : Stream (seen s) id e) (some : e.length ≢ 0) where
  pub chained : (xs : List ℕ) × Chained (seen s) e xs
  chained = ⊎_elim (λ z. absurd (some z.0)) (λ c. c) (w.placed.fits id e tt t)

  pub chain_there : (store_in s (home_of e.length)).chain e.start ≡ Some chained.0
  chain_there = own_chain s e.start chained.0 (home_of e.length) chained.1.chain

  -- a copy within its units is none past its chain
  pub no_due : (end : ℕ) → end ≤ reach (seen s) e.length → due_copy (store_in s (home_of e.length)) (layer_in layer (home_of e.length)) e.start end ≡ None
  no_due end l =
      let bytes : bytes_of (store_in s (home_of e.length)) e.start ≡ chained.0 = ap (λ o. unwrap_or o []) chain_there in
      copy_yes (store_in s (home_of e.length)) (layer_in layer (home_of e.length)) e.start chained.0 chain_there end (omega (arith, l, chained.1.units, ap length bytes))

  -- and its bytes are the stream's
  pub bytes_there : (i k : ℕ) → i + k ≤ e.length → take k (drop i (bytes_of (store_in s (home_of e.length)) e.start)) ≡ take k (drop i (bytes_in (seen s) e))
  bytes_there i k l =
      let bytes : bytes_of (store_in s (home_of e.length)) e.start ≡ chained.0 = ap (λ o. unwrap_or o []) chain_there in
      let own : bytes_in (seen s) e ≡ take e.length chained.0 = ap (λ o. take e.length (unwrap_or o [])) chained.1.chain in
      ap (λ ys. take k (drop i ys)) bytes ∙ sym (slice_take i k e.length chained.0 l) ∙ ap (λ ys. take k (drop i ys)) (sym own)

-- the same of a workbook that is known to be open
module _ (most layer : ℕ) (s : State) (ok : Lawful most s.host) (hold : Holds s) (opened : s.opened ≡ true) (id : ℕ) (e : Entry) (here : slice_get s.host.notes.entries id ≡ Some e) (is : is_stream e ≡ true) (some : e.length ≢ 0) where
  pub open_due : (end : ℕ) → end ≤ reach (seen s) e.length → due_copy (store_in s (home_of e.length)) (layer_in layer (home_of e.length)) e.start end ≡ None
  open_due end l =
      let p : IsProp (due_copy (store_in s (home_of e.length)) (layer_in layer (home_of e.length)) e.start end ≡ None) = hlevel props in
      ∥∥₁_elim hold p (λ f. let w = f opened in no_due most layer s ok w id e (stream_seen s w id e here is) some end l)

  pub open_bytes : (i k : ℕ) → i + k ≤ e.length → take k (drop i (bytes_of (store_in s (home_of e.length)) e.start)) ≡ take k (drop i (bytes_in (seen s) e))
  open_bytes i k l =
      let p : IsProp (take k (drop i (bytes_of (store_in s (home_of e.length)) e.start)) ≡ take k (drop i (bytes_in (seen s) e))) = hlevel props in
      ∥∥₁_elim hold p (λ f. let w = f opened in bytes_there most layer s ok w id e (stream_seen s w id e here is) some i k l)

-- what it says of a state that a stream was found
stream_told : (o : Bool) (x : Option Entry) (layer id : ℕ) (e : Entry) → ◌≡◌ {A = Result Entry Faulted} (Ok e) (row (not o) (refuse 1 0 None) (stream_in id (entry_or x layer id)))
    → (o ≡ true) × (x ≡ Some e) × (is_stream e ≡ true)
stream_told false x layer id e q = cc
stream_told true None layer id e q = cc
stream_told true (Some d) layer id e q = kind (is_stream d) refl q
  where
    kind : (b : Bool) → is_stream d ≡ b → ◌≡◌ {A = Result Entry Faulted} (Ok e) (row (not b) (refuse 2 id None) (Ok d)) → (true ≡ true) × (Some d ≡ Some e) × (is_stream e ≡ true)
    kind true k q = let z : d ≡ e = cc in (refl, ap Some z, ap is_stream (sym z) ∙ k)
    kind false k q = cc

pub stream_is : (s : State) (layer id : ℕ) (e : Entry) → ◌≡◌ {A = Result Entry Faulted} (Ok e) (stream_of s layer id) → (s.opened ≡ true) × (slice_get s.host.notes.entries id ≡ Some e) × (is_stream e ≡ true)
stream_is s layer id e q = stream_told s.opened (slice_get s.host.notes.entries id) layer id e q

-- a read of c bytes of a stream, where it has them
module _ (most layer : ℕ) (s z : State) (ok : Lawful most s.host) (hold : Holds s) (id : ℕ) (e : Entry) (q : ◌≡◌ {A = Result Entry Faulted} (Ok e) (stream_of s layer id))
    (home : Home) (at_home : home ≡ home_of e.length) (i c : ℕ) (some : 0 < c) (within : c ≤ e.length - i) (part : List ℕ) (long : length part ≡ c) (same : z ≡ s) where
  pub due_none : due_copy (store_in z home) (layer_in layer home) e.start (i + length part) ≡ None
  due_none =
      let t = stream_is s layer id e q in
      (λ j. due_copy (store_in (same j) (at_home j)) (layer_in layer (at_home j)) e.start (i + length part))
      ∙ open_due most layer s ok hold t.0 id e t.1 t.2 (λ n. omega (arith, some, within, n)) (i + length part) (omega (arith, some, within, long, enough_reach most s ok e.length))

  pub got : (new : List ℕ) → new ≡ read_into (store_in z home) (layer_in layer home) e.start i part → new ≡ take c (drop i (bytes_in (seen s) e))
  got new r =
      let t = stream_is s layer id e q in
      r ∙ ap (λ x. unless x part (take (length part) (drop i (bytes_of (store_in z home) e.start)))) due_none
      ∙ (λ j. take (long j) (drop i (bytes_of (store_in (same j) (at_home j)) e.start)))
      ∙ open_bytes most layer s ok hold t.0 id e t.1 t.2 (λ n. omega (arith, some, within, n)) i c (omega (arith, some, within))

pub some_there : (most : ℕ) (s : State) → Lawful most s.host → (b : Home) → 0 < (store_in s b).unit
some_there most s ok Mini = omega (arith, unit_there s Mini)
some_there most s ok Host = ok.unit

-- the units that a store tells of a chain, and none where it tells a refusal
pub had_units : (m : Store) (layer h : ℕ) (r : Result ℕ StoreFault) → told r ≡ answer (due_head m layer h) (units_of m h) → result_unwrap_or r 0 ≡ units_of m h
had_units m layer h r t = go (m.chain h) r t
  where
    go : (o : Option (List ℕ)) (r : Result ℕ StoreFault) → told r ≡ answer (headed o layer h None) (length (unwrap_or o []) / m.unit) → result_unwrap_or r 0 ≡ length (unwrap_or o []) / m.unit
    go None (Ok x) t = cc
    go None (Err f) t = sym (zero-div m.unit)
    go (Some xs) (Ok x) t = cc
    go (Some xs) (Err f) t = cc

-- so many bytes need so many units
pub needs : (most : ℕ) (s : State) → Lawful most s.host → (b : Home) (n u k : ℕ) → u ≡ (store_in s b).unit → k ≡ div_ceil n u → k ≡ needed (seen s) b n
needs most s ok b n u k e q = q ∙ ceil_up n u (omega (arith, e, some_there most s ok b)) ∙ ap (λ x. (n + (x - 1)) / x) (e ∙ unit_there s b)

-- a unit that is told of a state that stays
pub unit_told : (s y : State) → y ≡ s → (b home : Home) → b ≡ home → (u : ℕ) → u ≡ (store_in y b).unit → u ≡ unit_in (seen s) home
unit_told s y e b home q u t = t ∙ (λ i. (store_in (e i) (q i)).unit) ∙ unit_there s home
