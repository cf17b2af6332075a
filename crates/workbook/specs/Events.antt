-- What happens at a workbook: its calls, each with what it was given and what it answered.
-- Assumes nothing.
use Rattle.std.specs.Prelude.{◌≡◌, ℕ, Bool, List, length, Some, None, Ok, Err, Option, Result}
use Rattle.store.specs.declared.entries.Entry.{Entry}
use Rattle.store.specs.declared.entries.Words.{Words}
use Rattle.store.specs.Refusals.{Refused}
use Rattle.store.specs.Meaning.{entry_of}
use Rattle.minifat.specs.Told.{Faulted}
use Rattle.minialloc.specs.States.{State}
use Rattle.workbook.specs.Calls.{Written, Resized}
use Rattle.workbook.specs.Opening.{opening_of, Opened}
use Rattle.workbook.specs.Refusals.{stream_of, fit_of, write_of, length_of, count_of, buffer_of, rooms_of}
use Rattle.workbook.specs.Sights.{seen}

-- a read has the buffer that it was given, and the buffer that it left
pub data Event : Type 0 where
  opened : Bool → Result (Unit {0}) Faulted → Event
  measured : ℕ → Result ℕ Faulted → Event
  read : ℕ → ℕ → List ℕ → Result ℕ Faulted → List ℕ → Event
  written : ℕ → ℕ → List ℕ → Result (Unit {0}) Faulted → Event
  resized : ℕ → ℕ → Result (Unit {0}) Faulted → Event
  counted : Result (ℕ × ℕ) Faulted → Event
  showed_words : Words → Event
  showed_entry : ℕ → Result Entry Refused → Event
  showed_links : List ℕ → Event

-- what the call answers and leaves in the state s, settled by the definition of each call; layer is the host's layer, and
-- most the most units that it has
abbrev pub Performs : ℕ → ℕ → State → Event → State → Type 0
Performs most layer s (opened strict r) after = Opened layer s strict r after
Performs most layer s (measured id r) after = (r ≡ length_of (stream_of s layer id)) × (after ≡ s)
Performs most layer s (read id i out r new) after =
    (r ≡ count_of (stream_of s layer id) i (length out)) × (new ≡ buffer_of (seen s) (stream_of s layer id) i out) × (after ≡ s)
Performs most layer s (written id i ys r) after = Written most layer s id i ys r after
Performs most layer s (resized id n r) after = Resized most layer s id n r after
Performs most layer s (counted r) after = (r ≡ rooms_of s) × (after ≡ s)
Performs most layer s (showed_words w) after = (w ≡ s.host.notes.words) × (after ≡ s)
Performs most layer s (showed_entry id r) after = (r ≡ entry_of s.host layer id) × (after ≡ s)
Performs most layer s (showed_links L) after = (L ≡ s.links) × (after ≡ s)

-- the fault in an answer
abbrev pub fault_in : {A : Type 0} → Result A Faulted → Option Faulted
fault_in (Ok x) = None
fault_in (Err f) = Some f

-- a store's fault, told as it is
abbrev pub passed_on : {A : Type 0} → Result A Refused → Option Faulted
passed_on (Ok x) = None
passed_on (Err f) = Some (record { number = f.number; layer = f.layer; place = f.place; lower = None })

-- the fault that a call told
abbrev pub fault_told : Event → Option Faulted
fault_told (opened strict r) = fault_in r
fault_told (measured id r) = fault_in r
fault_told (read id i out r new) = fault_in r
fault_told (written id i ys r) = fault_in r
fault_told (resized id n r) = fault_in r
fault_told (counted r) = fault_in r
fault_told (showed_words w) = None
fault_told (showed_entry id r) = passed_on r
fault_told (showed_links L) = None

-- the fault that the table of refusals has for it in the state s
abbrev pub fault_due : ℕ → State → Event → Option Faulted
fault_due layer s (opened strict r) = fault_in (opening_of s layer strict)
fault_due layer s (measured id r) = fault_in (stream_of s layer id)
fault_due layer s (read id i out r new) = fault_in (stream_of s layer id)
fault_due layer s (written id i ys r) = fault_in (write_of s id i (length ys) (stream_of s layer id))
fault_due layer s (resized id n r) = fault_in (fit_of s id n (stream_of s layer id))
fault_due layer s (counted r) = fault_in (rooms_of s)
fault_due layer s (showed_words w) = None
fault_due layer s (showed_entry id r) = passed_on (entry_of s.host layer id)
fault_due layer s (showed_links L) = None
