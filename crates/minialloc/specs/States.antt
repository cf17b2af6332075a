-- The state of a mini store, and what its calls make of it: of the host's meaning, of the table and of the stack.
-- Assumes nothing.
use mathlib.Core.Path.{sym, ◌∙◌, contract'}
use Rattle.std.specs.Prelude.{◌≡◌, ℕ, ◌+◌, ◌-◌, ◌<◌, ◌≤◌, Bool, true, if◌then◌else◌, List, [], length, None, Ok, Err, count_by, min, Option, Result, slice_index}
use Rattle.links.specs.Links.{free}
use Rattle.links.specs.Stack.{place_after}
use Rattle.links.specs.Stacked.{table_of, stack_of}
use Rattle.links.specs.Walk.{last_or}
use Rattle.links.specs.declared.stacked.Stacked.{Stacked}
use Rattle.store.specs.declared.faults.Refusal.TheVariants.{NoRoom}
use Rattle.store.specs.declared.faults.StoreFault.{StoreFault}
use Rattle.store.specs.Refusals.{Refused}
use Rattle.store.specs.Meaning.{Store}
use Rattle.chain.specs.Units.{Wrote}
use Rattle.chain.specs.Webs.{Web, path_of, viewed, lengthened, released, shortened}
use Rattle.rooms.specs.declared.Ground.{Ground}
use Rattle.rooms.specs.Rooms.{growth}
use Rattle.mini.specs.Adding.{Reserves}
use Rattle.mini.specs.Mini.{ground_of, ground_if, Borne, web_of, mini, Synced}
use Rattle.mini.specs.Steps.{took_mini, put_mini, ended_mini, gave_mini, Trims}

-- whether it is open, what its host means, its table and its stack; the table stays while it is shut
pub record State : Type 0 where
  pub opened : Bool
  pub host : Store
  pub links : List ℕ
  pub stack : List ℕ

abbrev pub state_in : Bool → Store → Stacked → State
state_in o s t = record { opened = o; host = s; links = table_of t; stack = stack_of t }

-- the state s by a name: what a contract reads
abbrev pub Shown : State → Type 0
Shown s = (x : State) × (x ≡ s)

pub Shown-prop : (s : State) → IsProp (Shown s)
Shown-prop s p q = sym (contract' p.1) ∙ contract' q.1

-- the links that it shows: none while it is shut
abbrev pub shown_links : State → List ℕ
shown_links s = if s.opened then s.links else []

-- the state as a layer above is shown it: shut, with neither link nor place
abbrev pub as_shown : State → State
as_shown s = record { opened = s.opened; host = s.host; links = shown_links s; stack = if s.opened then s.stack else [] }

-- the figures that room is reckoned from; nothing where it is shut, or the host does not bear the table out
abbrev pub figures_in : State → Option Ground
figures_in s = if s.opened then ground_if s.host (length s.links) else None

-- what it means as a chain store, and its mini sectors as units that the table links
abbrev pub meant_in : State → Store
meant_in s = mini s.opened s.host s.links s.stack

abbrev pub web_in : State → Web
web_in s = web_of s.host s.links s.stack

-- what those units rest on: it is open, and the host bears the table out
abbrev pub Sound : State → Type 0
Sound s = (s.opened ≡ true) × Borne s.host (length s.links)

-- the MiniFAT's bytes are the links of its table
abbrev pub SyncedIn : State → Type 0
SyncedIn s = Synced s.host s.links

-- the place that is taken next
abbrev pub next_mini : Web → ℕ
next_mini w = place_after w.links w.stack

-- the same over a host with n units of room more, as far as 32 bits can tell
abbrev pub roomier : State → ℕ → State
roomier s n = record s { host = record (s.host) { room = min (s.host.room + n) 0xffffffff } }

-- a write lays the bytes over those of the mini sectors of a chain, and leaves table, stack and the rest of the host
abbrev pub Writes : State → ℕ → ℕ → List ℕ → Result Unit Refused → State → Type 0
Writes s h at ys (Ok _) after =
    (after.opened ≡ s.opened) × (after.links ≡ s.links) × (after.stack ≡ s.stack) × Wrote (viewed (web_in s)) (viewed (web_in after)) h at ys
Writes s h at ys (Err f) after = after ≡ s

-- the host that has the sectors for n places more than are FREE
abbrev pub Prepares : ℕ → ℕ → State → ℕ → Store → Type 0
Prepares most layer s n mid = Reserves most s.host layer (ground_of s.host (length s.links)) (n - count_by free s.links) mid

-- the same over another host
abbrev pub hosted_by : State → Store → State
hosted_by s mid = record { opened = s.opened; host = mid; links = s.links; stack = s.stack }

-- by the figures g there is room for n places more, and the host has the sectors for them; or there is not, and nothing
-- changed: 5 at the place h
abbrev pub Prepared : ℕ → ℕ → State → Ground → ℕ → ℕ → Result Unit StoreFault → State → Type 0
Prepared most layer s g n h (Ok _) after =
    (n ≤ length s.stack + growth g) × Reserves most s.host layer g (n - length s.stack) after.host × (after ≡ hosted_by s after.host)
Prepared most layer s g n h (Err f) after = (length s.stack + growth g < n) × (f ≡ record { refusal = NoRoom; layer = 3; place = h }) × (after ≡ s)

-- a new chain: the sectors are added, one mini sector is taken, and the others go behind it one after the other
abbrev pub BeginsChain : ℕ → ℕ → State → ℕ → Result ℕ Refused → State → Type 0
BeginsChain most layer s n (Ok h) after =
    (mid : Store) × Prepares most layer s n mid × (h ≡ place_after s.links s.stack) × (after.opened ≡ s.opened)
    × (web_in after ≡ lengthened next_mini put_mini (n - 1) (took_mini (web_of mid s.links s.stack)) h)
BeginsChain most layer s n (Err f) after = after ≡ s

-- a longer chain: the sectors are added, and the mini sectors go behind its last place
abbrev pub ExtendsChain : ℕ → ℕ → State → ℕ → ℕ → Result Unit Refused → State → Type 0
ExtendsChain most layer s h n (Ok _) after =
    (mid : Store) × Prepares most layer s n mid × (after.opened ≡ s.opened)
    × (web_in after ≡ lengthened next_mini put_mini n (web_of mid s.links s.stack) (last_or 0 (path_of s.links h)))
ExtendsChain most layer s h n (Err f) after = after ≡ s

-- trailing FREE links went, with 64 bytes of root length each
abbrev pub TrimsTo : ℕ → State → State → Type 0
TrimsTo layer s after = Trims layer s.host s.links s.stack after.host after.links after.stack × (after.opened ≡ s.opened)

-- a shorter chain: it ends at its place of rank k - 1, the mini sectors behind are given back in their order, and the table
-- is trimmed
abbrev pub CutsChain : ℕ → State → ℕ → ℕ → Result Unit Refused → State → Type 0
CutsChain layer s h k (Ok _) after =
    (mid : State) × (mid.opened ≡ s.opened)
    × (web_in mid ≡ shortened ended_mini gave_mini k (length (path_of s.links h)) (web_in s) (slice_index (path_of s.links h) (k - 1))) × TrimsTo layer mid after
CutsChain layer s h k (Err f) after = after ≡ s

-- a chain is freed from its head on, and the table trimmed
abbrev pub FreesChain : ℕ → State → ℕ → Result Unit Refused → State → Type 0
FreesChain layer s h (Ok _) after =
    (mid : State) × (mid.opened ≡ s.opened) × (web_in mid ≡ released gave_mini (length (path_of s.links h)) (web_in s) h) × TrimsTo layer mid after
FreesChain layer s h (Err f) after = after ≡ s
