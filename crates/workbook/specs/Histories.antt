-- Histories of a workbook: the making, and then calls, whatever they are and whatever they are refused. Beside the state goes
-- the plain copy, which knows of no sector: the bytes of each stream, as the first accepted opening finds them and as
-- accepted writes and resizes alter them.
-- Assumes nothing.
use Rattle.std.specs.Prelude.{ℕ, cond, false, List, [], ◌∷◌, ◌++◌, Some, None, Ok, Option, ◌==◌}
use Rattle.std.specs.List.{slice_get}
use Rattle.std.specs.Option.{option_map}
use Rattle.store.specs.declared.entries.Entry.{Entry}
use Rattle.store.specs.Meaning.{Store, laid}
use Rattle.minialloc.specs.States.{State}
use Rattle.workbook.specs.Events.{Event, opened, written, resized, Performs}
use Rattle.workbook.specs.Reading.{stream_bytes}
use Rattle.workbook.specs.Sights.{is_stream, fitted}
use Rattle.workbook.specs.Whole.{Meant}

-- the bytes of each stream by its id, nothing where an id is that of no stream
abbrev pub Copy : Type 0
Copy = ℕ → Option (List ℕ)

-- the bytes that the format has read for an entry
abbrev pub copied : Store → Option Entry → Option (List ℕ)
copied m None = None
copied m (Some e) = cond (is_stream e) (Some (stream_bytes m e)) None

abbrev pub filled : Store → Copy
filled m id = copied m (slice_get m.notes.entries id)

-- the bytes of one stream are altered
abbrev pub altered : Copy → ℕ → (List ℕ → List ℕ) → Copy
altered c id f j = cond (j == id) (option_map f (c j)) (c j)

-- the state that the first accepted opening left, and the plain copy
pub record Ledger : Type 0 where
  pub first : State
  pub copy : Copy

-- what a call makes of it, by its arguments and by whether it was accepted; after is the state that it left
abbrev pub begun : State → Option Ledger → Option Ledger
begun after None = Some (record { first = after; copy = filled after.host })
begun after (Some k) = Some k

abbrev pub changed : ℕ → (List ℕ → List ℕ) → Option Ledger → Option Ledger
changed id f None = None
changed id f (Some k) = Some (record { first = k.first; copy = altered k.copy id f })

abbrev pub booked : State → Event → Option Ledger → Option Ledger
booked after (opened strict (Ok x)) k = begun after k
booked after (written id i ys (Ok x)) k = changed id (λ xs. laid xs i ys) k
booked after (resized id n (Ok x)) k = changed id (fitted n) k
booked after e k = k

-- the state in which a workbook is made
abbrev pub made_over : Store → State
made_over m = record { opened = false; host = m; links = []; stack = [] }

-- a law of calls: the state and the ledger before, the call, and the state and the ledger after
abbrev pub Law : Type 1
Law = State → Option Ledger → Event → State → Option Ledger → Type 0

-- the calls es over the host m lead to a state and a ledger, and the law holds of each of them; layer is the host's layer, and
-- most the most units that it has
pub data Run (most layer : ℕ) (law : Law) (m : Store) : List Event → State → Option Ledger → Type 0 where
  made : Meant most (made_over m) → Run most layer law m [] (made_over m) None
  called : {es : List Event} {s : State} {k : Option Ledger} (e : Event) (after : State) → Run most layer law m es s k → Meant most after
      → Performs most layer s e after → law s k e after (booked after e k) → Run most layer law m (es ++ e ∷ []) after (booked after e k)

-- of any calls
abbrev pub Always : Law
Always s k e after l = Unit {0}

abbrev pub History : ℕ → ℕ → Store → List Event → State → Option Ledger → Type 0
History most layer m es s k = Run most layer Always m es s k
