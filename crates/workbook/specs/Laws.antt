-- The laws of every history of a workbook.
-- Assumes nothing.
use Rattle.std.specs.Prelude.{◌≡◌, ℕ, ◌+◌, ◌-◌, ◌/◌, ◌<◌, ◌≤◌, max, min, true, false, ◌≢◌, ◌⊎◌, List, [], ◌∷◌, ◌++◌, length, take, drop, Some, None, Ok, Err, Option, Result}
use Rattle.std.specs.List.{slice_get}
use Rattle.store.specs.declared.entries.Entry.{Entry}
use Rattle.store.specs.Meaning.{Store, units_of}
use Rattle.chain.specs.Webs.{path_of}
use Rattle.mini.specs.Mini.{stream_at, fat_at}
use Rattle.minifat.specs.Told.{Faulted}
use Rattle.minialloc.specs.States.{State, meant_in}
use Rattle.workbook.specs.declared.homes.Home.{Home}
use Rattle.workbook.specs.declared.homes.Home.TheVariants.{Mini, Host}
use Rattle.workbook.specs.Events.{Event, opened, measured, read, written, resized, counted, Performs, fault_told, fault_due}
use Rattle.workbook.specs.Histories.{Ledger, Copy, filled, booked, made_over, Run, History}
use Rattle.workbook.specs.Reading.{stream_bytes}
use Rattle.workbook.specs.Refusals.{refuse, stream_of, need_of, room_of}
use Rattle.workbook.specs.Sights.{home_of, is_stream}

-- a stream of the host that an id names
abbrev pub Names : Store → ℕ → Entry → Type 0
Names m id e = (slice_get m.notes.entries id ≡ Some e) × (is_stream e ≡ true)

-- chains go by labels: the MiniFAT's, the mini stream's, one for each stream even where two have one head, and one for each
-- other head of host or mini store
pub data Label : Type 0 where
  fat : Label
  mini_stream : Label
  stream : ℕ → Label
  other : Home → ℕ → Label

-- a head that is none of MiniFAT, mini stream and streams
pub record Outside (s : State) (b : Home) (h : ℕ) : Type 0 where
  pub streams : (id : ℕ) (e : Entry) → Names s.host id e → home_of e.length ≡ b → e.start ≢ h
  pub fat : b ≡ Host → h ≢ fat_at s.host
  pub mini : b ≡ Host → h ≢ stream_at s.host

-- the chain that goes by a label: where it lies, and its head
abbrev pub Heads : State → Label → Home → ℕ → Type 0
Heads s fat b h = (b ≡ Host) × (h ≡ fat_at s.host)
Heads s mini_stream b h = (b ≡ Host) × (h ≡ stream_at s.host)
Heads s (stream id) b h = (e : Entry) × Names s.host id e × (b ≡ home_of e.length) × (h ≡ e.start)
Heads s (other c g) b h = (b ≡ c) × (h ≡ g) × Outside s c g

-- a sector: a unit of the host, by its head and its rank, or a mini sector by its number
pub data Sector : Type 0 where
  unit : ℕ → ℕ → Sector
  mini : ℕ → Sector

-- how many sectors the chain of h has, and which stands at place i
abbrev pub sectors : State → Home → ℕ → ℕ
sectors s Host h = units_of s.host h
sectors s Mini h = length (path_of s.links h)

abbrev pub At : State → Home → ℕ → ℕ → Sector → Type 0
At s Host h i x = (i < units_of s.host h) × (x ≡ unit h i)
At s Mini h i x = (p : ℕ) × (slice_get (path_of s.links h) i ≡ Some p) × (x ≡ mini p)

-- the sector x stands at place i on the chain with a label
abbrev pub Stands : State → Label → ℕ → Sector → Type 0
Stands s k i x = (b : Home) × (h : ℕ) × Heads s k b h × At s b h i x

-- it stands on the chain of MiniFAT, mini stream or a stream
abbrev pub Known : State → Sector → Type 0
Known s x = ((i : ℕ) × Stands s fat i x) ⊎ (((i : ℕ) × Stands s mini_stream i x) ⊎ ((id : ℕ) × (i : ℕ) × Stands s (stream id) i x))

-- a stray: a sector of another chain when a workbook is first opened
abbrev pub Stray : State → Sector → Type 0
Stray first x = (b : Home) × (h : ℕ) × (i : ℕ) × Stands first (other b h) i x

-- the units that so many bytes need
abbrev pub unit_of : State → Home → ℕ
unit_of s Host = s.host.unit
unit_of s Mini = 64

abbrev pub needs : ℕ → ℕ → ℕ
needs n u = (n + (u - 1)) / u

-- no sector is on two chains or twice on one; each stream has exactly the sectors that its length needs; and none is lost:
-- what is in use is on the chain of MiniFAT, mini stream or a stream, or was a stray at first
pub record Sorted (first s : State) : Type 0 where
  pub apart : (k l : Label) (i j : ℕ) (x : Sector) → Stands s k i x → Stands s l j x → (k ≡ l) × (i ≡ j)
  pub exact : (id : ℕ) (e : Entry) → Names s.host id e → sectors s (home_of e.length) e.start ≡ needs e.length (unit_of s (home_of e.length))
  pub none_lost : (k : Label) (i : ℕ) (x : Sector) → Stands s k i x → Known s x ⊎ Stray first x

-- the bytes of each stream, read as the format has them read out of the host's meaning alone, are those of the plain copy, as
-- many as its length tells
pub record Copied (m : Store) (c : Copy) : Type 0 where
  pub bytes : (id : ℕ) → filled m id ≡ c id
  pub long : (id : ℕ) (e : Entry) → Names m id e → length (stream_bytes m e) ≡ e.length

-- of an open workbook
pub record Kept (s : State) (k : Option Ledger) : Type 0 where
  pub ledger : Ledger
  pub booked : k ≡ Some ledger
  pub sorted : Sorted ledger.first s
  pub copied : Copied s.host ledger.copy

-- a refusal changes nothing of store and buffer, and a refused opening leaves the workbook shut
abbrev pub Untouched : State → Event → State → Type 0
Untouched s (opened strict r) after = (after.host ≡ s.host) × (after.opened ≡ false)
Untouched s (read id i out r new) after = (new ≡ out) × (after ≡ s)
Untouched s e after = after ≡ s

-- making the stream e fit n bytes is refused for room exactly where what it needs exceeds the room, both as the call finds
-- them, and accepted otherwise
pub record Roomy (s : State) (id : ℕ) (e : Entry) (n : ℕ) (r : Result (Unit {0}) Faulted) : Type 0 where
  pub over : room_of s e n < need_of s e n → r ≡ Err (refuse 5 id None)
  pub within : need_of s e n ≤ room_of s e n → r ≡ Ok tt

-- so with writes and resizes that nothing refuses before
abbrev pub Sized : ℕ → State → Event → Type 0
Sized layer s (written id i ys r) =
    (e : Entry) → stream_of s layer id ≡ Ok e → i ≤ e.length → max e.length (i + length ys) ≤ 16777216 → Roomy s id e (max e.length (i + length ys)) r
Sized layer s (resized id n r) = (e : Entry) → stream_of s layer id ≡ Ok e → n ≤ 16777216 → Roomy s id e n r
Sized layer s e = Unit {0}

-- lengths and reads are answered from the plain copy, and room as host and mini store have it
abbrev pub Answered : State → Option Ledger → Event → Type 0
Answered s k (measured id (Ok n)) = (l : Ledger) × (k ≡ Some l) × (xs : List ℕ) × (l.copy id ≡ Some xs) × (n ≡ length xs)
Answered s k (read id i out (Ok n) new) =
    (l : Ledger) × (k ≡ Some l) × (xs : List ℕ) × (l.copy id ≡ Some xs) × (n ≡ min (length xs - i) (length out)) × (new ≡ take n (drop i xs) ++ drop n out)
Answered s k (counted (Ok r)) = r ≡ (s.host.room, (meant_in s).room)
Answered s k e = Unit {0}

-- the law of every call
pub record Upheld (layer : ℕ) (s : State) (k : Option Ledger) (e : Event) (after : State) (l : Option Ledger) : Type 0 where
  pub refused : fault_told e ≡ fault_due layer s e
  pub untouched : fault_told e ≢ None → Untouched s e after
  pub sized : Sized layer s e
  pub answered : Answered s k e
  pub kept : after.opened ≡ true → Kept after l

-- what the making promises: a state that is shut, and the beginning of every history, and so of those in which the law holds
pub record Made (most layer : ℕ) (m : Store) (s : State) : Type 0 where
  pub state : s ≡ made_over m
  pub begins : History most layer m [] s None
  pub upholds : Run most layer (Upheld layer) m [] s None

-- what each call promises: its answer and the state that it leaves are settled; it makes a history of the state before one of
-- the state after, longer by this call; and in every such history the law holds of every call
pub record Called (most layer : ℕ) (s : State) (e : Event) (after : State) : Type 0 where
  pub performs : Performs most layer s e after
  pub continues : (m : Store) (es : List Event) (k : Option Ledger) → History most layer m es s k → History most layer m (es ++ e ∷ []) after (booked after e k)
  pub upholds : (m : Store) (es : List Event) (k : Option Ledger) → History most layer m es s k → Run most layer (Upheld layer) m (es ++ e ∷ []) after (booked after e k)
