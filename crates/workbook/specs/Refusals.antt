-- The refusals of the calls on streams, row by row, in rising order. s is the state that the call finds, and layer the host's.
-- Assumes nothing.
use Rattle.std.specs.Prelude.{ℕ, ◌+◌, ◌-◌, min, max, List, ◌++◌, length, take, drop, nat_lt, Bool, not, cond, Some, None, Ok, Err, Option, Result}
use Rattle.store.specs.declared.entries.Entry.{Entry}
use Rattle.store.specs.Refusals.{Refused}
use Rattle.store.specs.Meaning.{entry_of, units_of}
use Rattle.minifat.specs.Told.{Faulted}
use Rattle.minialloc.specs.States.{State, meant_in}
use Rattle.workbook.specs.Sights.{Sight, seen, home_of, needed, is_stream, bytes_in}
use Rattle.workbook.specs.Homes.{store_in, same_home}
use Rattle.workbook.specs.Steps.{room_by}

-- what the workbook refuses
abbrev pub refuse : ℕ → ℕ → Option Refused → Faulted
refuse number place lower = record { number = number; layer = 4; place = place; lower = lower }

-- refused where the test holds, else what the rows below say
abbrev pub row : {A : Type 0} → Bool → Faulted → Result A Faulted → Result A Faulted
row test fault below = cond test (Err fault) below

-- 2: no entry, or one that is no stream
abbrev pub stream_in : ℕ → Result Entry Refused → Result Entry Faulted
stream_in id (Ok e) = row (not (is_stream e)) (refuse 2 id None) (Ok e)
stream_in id (Err f) = Err (refuse 2 id (Some f))

-- 1: shut; else the entry of the stream
abbrev pub stream_of : State → ℕ → ℕ → Result Entry Faulted
stream_of s layer id = row (not s.opened) (refuse 1 0 None) (stream_in id (entry_of s.host layer id))

abbrev pub length_of : Result Entry Faulted → Result ℕ Faulted
length_of (Ok e) = Ok e.length
length_of (Err f) = Err f

-- how many bytes a stream has from i on, for a buffer of k
abbrev pub count_of : Result Entry Faulted → ℕ → ℕ → Result ℕ Faulted
count_of (Ok e) i k = Ok (min (e.length - i) k)
count_of (Err f) i k = Err f

-- the buffer then: so many bytes of the stream, and behind them what it held
abbrev pub buffer_of : Sight → Result Entry Faulted → ℕ → List ℕ → List ℕ
buffer_of v (Ok e) i out = take (min (e.length - i) (length out)) (drop i (bytes_in v e)) ++ drop (min (e.length - i) (length out)) out
buffer_of v (Err f) i out = out

-- the units that a stream e needs beyond those that it has, to have n bytes; and the room for them
abbrev pub need_of : State → Entry → ℕ → ℕ
need_of s e n =
    cond (same_home (home_of e.length) (home_of n)) (needed (seen s) (home_of n) n - units_of (store_in s (home_of e.length)) e.start) (needed (seen s) (home_of n) n)

abbrev pub room_of : State → Entry → ℕ → ℕ
room_of s e n = room_by s (home_of e.length) (home_of n) (units_of (store_in s (home_of e.length)) e.start)

-- 4: too long; 5: it needs more than there is room for; else the stream's entry
abbrev pub fit_of : State → ℕ → ℕ → Result Entry Faulted → Result Entry Faulted
fit_of s id n (Ok e) = row (nat_lt 16777216 n) (refuse 4 id None) (row (nat_lt (room_of s e n) (need_of s e n)) (refuse 5 id None) (Ok e))
fit_of s id n (Err f) = Err f

-- 3: it starts past the end; else what making it fit is refused for
abbrev pub write_of : State → ℕ → ℕ → ℕ → Result Entry Faulted → Result Entry Faulted
write_of s id i k (Ok e) = row (nat_lt e.length i) (refuse 3 id None) (fit_of s id (max e.length (i + k)) (Ok e))
write_of s id i k (Err f) = Err f

-- 1; else the room of the host and of the mini store
abbrev pub rooms_of : State → Result (ℕ × ℕ) Faulted
rooms_of s = row (not s.opened) (refuse 1 0 None) (Ok (s.host.room, (meant_in s).room))
