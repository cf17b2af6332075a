-- What a chain store and a host mean.
-- Assumes nothing.
use Rattle.std.specs.Prelude.{◌≡◌, ℕ, ◌+◌, ◌-◌, ◌*◌, ◌/◌, ◌<◌, ◌≤◌, cond, ◌||◌, ◌⊎◌, List, [], ◌++◌, length, take, drop, replicate, Some, None, Ok, Err, sum_by, Option, Result, ◌==◌, nat_eq, nat_lt, slice_index_or, slice_set}
use Rattle.std.specs.List.{slice_get}
use Rattle.std.specs.Option.{unwrap_or}
use Rattle.std.specs.Map.{update}
use Rattle.links.specs.Links.{Apart}
use Rattle.store.specs.declared.entries.Entry.{Entry}
use Rattle.store.specs.declared.entries.ObjType.TheVariants.{Unallocated}
use Rattle.store.specs.declared.entries.Words.{Words}
use Rattle.store.specs.Refusals.{Refused, unless}

-- what chain calls keep: of a host its entries and header words; of a store over a host, the host's other entries and chains
pub record Notes : Type 0 where
  pub entries : List Entry
  pub words : Words
  pub others : ℕ → Option (List ℕ)

-- the unit in bytes, the bytes of each chain by its head, the units that can still be given, and the notes
pub record Store : Type 0 where
  pub unit : ℕ
  pub chain : ℕ → Option (List ℕ)
  pub room : ℕ
  pub notes : Notes

-- the largest number that can be a head
abbrev pub MAX_HEAD : ℕ
MAX_HEAD = 0xfffffffa

-- the bytes of a head's chain, none where it is no head
abbrev pub bytes_of : Store → ℕ → List ℕ
bytes_of m h = unwrap_or (m.chain h) []

-- how many units they are
abbrev pub units_of : Store → ℕ → ℕ
units_of m h = length (bytes_of m h) / m.unit

-- n units of zeros
abbrev pub zeros : Store → ℕ → List ℕ
zeros m n = replicate (n * m.unit) 0

-- xs with ys laid over from place i on
unfoldable pub laid : List ℕ → ℕ → List ℕ → List ℕ
laid xs i ys = take i xs ++ (ys ++ drop (i + length ys) xs)

-- the chain of h is w, and the room n
abbrev pub with_chain : Store → ℕ → Option (List ℕ) → ℕ → Store
with_chain m h w n = record { unit = m.unit; chain = update nat_eq m.chain h w; room = n; notes = m.notes }

abbrev pub refuse : ℕ → ℕ → ℕ → Option Refused
refuse number layer place = Some (record { number = number; layer = layer; place = place })

-- 14 where h is no head, before what else is due
abbrev pub headed : Option (List ℕ) → ℕ → ℕ → Option Refused → Option Refused
headed None layer h due = refuse 14 layer h
headed (Some xs) layer h due = due

-- the refusal that is due, for each call of a store of that layer
module _ (m : Store) (layer : ℕ) where
  abbrev pub due_head : ℕ → Option Refused
  due_head h = headed (m.chain h) layer h None

  -- a copy of the bytes up to end
  abbrev pub due_copy : ℕ → ℕ → Option Refused
  due_copy h end = headed (m.chain h) layer h (cond (nat_lt (length (bytes_of m h)) end) (refuse 15 layer h) None)

  abbrev pub due_begin : ℕ → Option Refused
  due_begin n = cond (n == 0) (refuse 16 layer 0) (cond (nat_lt m.room n) (refuse 5 layer 0) None)

  abbrev pub due_extend : ℕ → ℕ → Option Refused
  due_extend h n = headed (m.chain h) layer h (cond (nat_lt m.room n) (refuse 5 layer h) None)

  abbrev pub due_cut : ℕ → ℕ → Option Refused
  due_cut h k = headed (m.chain h) layer h (cond (k == 0 || nat_lt (units_of m h) k) (refuse 16 layer h) None)

  -- what a read leaves in the buffer
  abbrev pub read_into : ℕ → ℕ → List ℕ → List ℕ
  read_into h at out = unless (due_copy h (at + length out)) out (take (length out) (drop at (bytes_of m h)))

  -- what each call leaves
  abbrev pub wrote : ℕ → ℕ → List ℕ → Store
  wrote h at src = unless (due_copy h (at + length src)) m (with_chain m h (Some (laid (bytes_of m h) at src)) m.room)

  abbrev pub extended : ℕ → ℕ → Store
  extended h n = unless (due_extend h n) m (with_chain m h (Some (bytes_of m h ++ zeros m n)) (m.room - n))

  abbrev pub cut_to : ℕ → ℕ → Store
  cut_to h k = unless (due_cut h k) m (with_chain m h (Some (take (k * m.unit) (bytes_of m h))) (m.room + (units_of m h - k)))

  abbrev pub freed : ℕ → Store
  freed h = unless (due_head h) m (with_chain m h None (m.room + units_of m h))

  -- begin of n units: its head was none
  abbrev pub Begins : ℕ → Result ℕ Refused → Store → Type 0
  Begins n (Ok h) after =
      (due_begin n ≡ None) × (m.chain h ≡ None) × (h ≤ MAX_HEAD) × (after ≡ with_chain m h (Some (zeros m n)) (m.room - n))
  Begins n (Err f) after = (due_begin n ≡ Some f) × (after ≡ m)

-- a chain: a head within its bound, and whole units, at least one
pub record Chain (unit h : ℕ) (xs : List ℕ) : Type 0 where
  pub head : h ≤ MAX_HEAD
  pub some : 0 < length xs
  pub whole : (length xs / unit) * unit ≡ length xs

-- what always holds of a store that has at most so many units
pub record Lawful (most : ℕ) (m : Store) : Type 0 where
  pub unit : 0 < m.unit
  pub small : m.unit ≤ 4096
  pub few : most ≤ 4096
  pub chains : (h : ℕ) (xs : List ℕ) → m.chain h ≡ Some xs → Chain m.unit h xs
  pub within : (hs : List ℕ) → Apart hs → sum_by (units_of m) hs + m.room ≤ most

-- what always holds of a host besides
pub record Hosted (m : Store) : Type 0 where
  pub unit : (m.unit ≡ 512) ⊎ (m.unit ≡ 4096)
  pub some : 0 < length m.notes.entries
  pub few : length m.notes.entries ≤ 1024

-- the refusal that is due for an entry's id
abbrev pub due_entry : Store → ℕ → ℕ → Option Refused
due_entry m layer id = cond (nat_lt id (length m.notes.entries)) None (refuse 17 layer id)

-- what a question for an entry answers
abbrev pub entry_or : Option Entry → ℕ → ℕ → Result Entry Refused
entry_or (Some e) layer id = Ok e
entry_or None layer id = Err (record { number = 17; layer = layer; place = id })

abbrev pub entry_of : Store → ℕ → ℕ → Result Entry Refused
entry_of m layer id = entry_or (slice_get m.notes.entries id) layer id

-- entries and words are other ones, and nothing else
abbrev pub with_notes : Store → List Entry → Words → Store
with_notes m es w = record { unit = m.unit; chain = m.chain; room = m.room; notes = record { entries = es; words = w; others = m.notes.others } }

-- the entry at id has another start and length, and the kind that it had
abbrev pub moved : List Entry → ℕ → ℕ → ℕ → List Entry
moved es id start long = slice_set es id (record { kind = (slice_index_or es id (record { kind = Unallocated; start = 0; length = 0 })).kind; start = start; length = long })

-- what setting an entry leaves, and what setting the words
abbrev pub entered : Store → ℕ → ℕ → ℕ → ℕ → Store
entered m layer id start long = unless (due_entry m layer id) m (with_notes m (moved m.notes.entries id start long) m.notes.words)

abbrev pub worded : Store → Words → Store
worded m w = with_notes m m.notes.entries w
