-- Opening: what is refused, row by row, and what is left. layer is the host's, and L the table that was read. 11 and 12 are
-- looked for while the mini store is shut, so what they say of its chains they say by L.
-- Assumes nothing.
use Rattle.std.specs.Prelude.{◌≡◌, ℕ, Bool, true, false, cond, not, ◌&&◌, ◌||◌, List, [], length, Some, None, Ok, Err, Option, Result, ok_or, option_map, option_and_then, ◌==◌}
use Rattle.std.specs.List.{slice_get}
use Rattle.std.specs.Option.{option_or}
use Rattle.links.specs.Check.{first_of, settled}
use Rattle.links.specs.Links.{END}
use Rattle.links.specs.Stack.{free_places}
use Rattle.links.specs.Walk.{chain_of}
use Rattle.store.specs.declared.entries.Entry.{Entry}
use Rattle.store.specs.Extents.{possible}
use Rattle.store.specs.Refusals.{Refused, answer}
use Rattle.store.specs.Meaning.{Store, due_head, units_of}
use Rattle.mini.specs.Mini.{stream_at, fat_at}
use Rattle.minifat.specs.Table.{table_of, before}
use Rattle.minifat.specs.Told.{Faulted}
use Rattle.minialloc.specs.States.{State}
use Rattle.workbook.specs.declared.homes.Home.{Home}
use Rattle.workbook.specs.declared.homes.Home.TheVariants.{Mini, Host}
use Rattle.workbook.specs.Homes.{same_home}
use Rattle.workbook.specs.Sights.{seen, home_of, needed, is_stream}
use Rattle.workbook.specs.Refusals.{refuse}

-- shut, and open with the links L
abbrev pub closed : State → State
closed s = record { opened = false; host = s.host; links = []; stack = [] }

abbrev pub opened_with : State → List ℕ → State
opened_with s L = record { opened = true; host = s.host; links = L; stack = free_places L }

-- a fault where the test holds
abbrev pub fault_if : Bool → Faulted → Option Faulted
fault_if test fault = cond test (Some fault) None

-- the entry of an id, where that is a stream
abbrev pub stream_only : Entry → Option Entry
stream_only e = cond (is_stream e) (Some e) None

abbrev pub stream_with : State → ℕ → Option Entry
stream_with s id = option_and_then stream_only (slice_get s.host.notes.entries id)

-- how many units the chain of h has there
abbrev pub units_by : State → ℕ → List ℕ → Home → ℕ → Result ℕ Refused
units_by s layer L Mini h = ok_or (option_map length (chain_of L h)) (record { number = 14; layer = 3; place = h })
units_by s layer L Host h = answer (due_head s.host layer h) (units_of s.host h)

-- 11: chain absent; other units than are needed
abbrev pub units_fault : Result ℕ Refused → ℕ → ℕ → Option Faulted
units_fault (Ok n) want id = fault_if (not (n == want)) (refuse 11 id None)
units_fault (Err f) want id = Some (refuse 11 id (Some f))

-- 11: start and length that do not go together; else where there are bytes their chain
abbrev pub extent_fault : State → ℕ → List ℕ → ℕ → Entry → Option Faulted
extent_fault s layer L id e =
    option_or (fault_if (not (possible e.start e.length)) (refuse 11 id None))
    (cond (e.length == 0) None (units_fault (units_by s layer L (home_of e.length) e.start) (needed (seen s) (home_of e.length) e.length) id))

abbrev pub stream_fault : State → ℕ → List ℕ → ℕ → Option Faulted
stream_fault s layer L id = option_and_then (extent_fault s layer L id) (stream_with s id)

-- 12: mini stream and MiniFAT have one start, and it is not END
abbrev pub bases_fault : Store → Option Faulted
bases_fault s = fault_if (stream_at s == fat_at s && not (fat_at s == END)) (refuse 12 0 None)

-- a large stream that starts where mini stream or MiniFAT does
abbrev pub on_base : Store → Entry → Bool
on_base s e = same_home (home_of e.length) Host && (e.start == stream_at s || e.start == fat_at s)

-- two streams with bytes that have one start in one home
abbrev pub one_chain : Entry → Entry → Bool
one_chain d e = not (d.length == 0) && (not (e.length == 0) && (same_home (home_of d.length) (home_of e.length) && d.start == e.start))

-- 12: the stream of the lower id has the chain of the stream e of id
abbrev pub shared_fault : State → ℕ → Entry → ℕ → Option Faulted
shared_fault s id e lower = option_and_then (λ d. fault_if (one_chain d e) (refuse 12 id None)) (stream_with s lower)

-- 12: the stream of id has the chain of mini stream or MiniFAT, or that of a lower stream
abbrev pub taken_fault : State → ℕ → Entry → Option Faulted
taken_fault s id e = option_or (fault_if (on_base s.host e) (refuse 12 id None)) (first_of (shared_fault s id e) id 0)

abbrev pub head_fault : State → ℕ → Option Faulted
head_fault s id = option_and_then (taken_fault s id) (stream_with s id)

-- 11 of all streams, then 12
abbrev pub streams_fault : State → ℕ → List ℕ → Option Faulted
streams_fault s layer L = first_of (stream_fault s layer L) (length s.host.notes.entries) 0

abbrev pub heads_fault : State → Option Faulted
heads_fault s = option_or (bases_fault s.host) (first_of (head_fault s) (length s.host.notes.entries) 0)

-- 9, 10, 8, 6, 7 by the table, then 11 and 12; else the table
abbrev pub opening_of : State → ℕ → Bool → Result (List ℕ) Faulted
opening_of s layer strict = before (table_of s.host layer strict) (λ L. settled (option_or (streams_fault (closed s) layer L) (heads_fault (closed s))) L)

-- it is open with the table, or it is refused and shut
abbrev pub OpenedBy : State → Result (List ℕ) Faulted → Result (Unit {0}) Faulted → State → Type 0
OpenedBy s (Ok L) r after = (r ≡ Ok tt) × (after ≡ opened_with s L)
OpenedBy s (Err f) r after = (r ≡ Err f) × (after ≡ closed s)

abbrev pub Opened : ℕ → State → Bool → Result (Unit {0}) Faulted → State → Type 0
Opened layer s strict r after = OpenedBy s (opening_of s layer strict) r after
