-- What the calls of a script make of a workbook: which happenings they are, and what is told of them.
-- Assumes nothing.
use Rattle.std.specs.Prelude.{◌≡◌, ℕ, min, List, [], ◌∷◌, take, replicate, None, Ok, Err, Option, Result, vec_items}
use Rattle.std.specs.Result.{result_map_both}
use Rattle.edits.specs.Scripts as said
use Rattle.edits.specs.Scripts.{Said}
use Rattle.edits.specs.declared.answers.Answer.{Answer}
use Rattle.edits.specs.declared.answers.Answer.TheVariants as answers
use Rattle.minifat.specs.Table.{strictly}
use Rattle.minifat.specs.Told.{Faulted}
use Rattle.store.specs.declared.entries.Entry.{Entry}
use Rattle.store.specs.declared.entries.Words.{Words}
use Rattle.store.specs.declared.stores.ChainStore.{Ghosts}
use Rattle.store.specs.Meaning.{Store}
use Rattle.store.specs.Refusals.{Refused}
use Rattle.minialloc.specs.States.{State}
use Rattle.workbook.specs.declared.Workbook.{Workbook}
use Rattle.workbook.specs.Events as event
use Rattle.workbook.specs.Events.{Event}
use Rattle.workbook.specs.Histories.{Ledger, Run}
use Rattle.workbook.specs.Laws.{Upheld}
use Rattle.workbook.specs.Promises.{Promised}

-- what an answer tells
pub data Reply : Type 0 where
  done : Reply
  long : ℕ → Reply
  bytes : List ℕ → Reply
  hex : List ℕ → Reply
  room : ℕ → ℕ → Reply
  words : Words → Reply
  entry : Entry → Reply
  links : List ℕ → Reply

abbrev pub reply : Answer → Reply
reply answers.Done = done
reply (answers.Length n) = long n
reply (answers.Bytes v) = bytes (vec_items v)
reply (answers.Hex v) = hex (vec_items v)
reply (answers.Room a b) = room a b
reply (answers.Words w) = words w
reply (answers.Entry e) = entry e
reply (answers.Links v) = links (vec_items v)

-- what is told of an outcome: its value, or the fault
abbrev pub replied : {A : Type 0} → (A → Reply) → Result A Faulted → Result Reply Faulted
replied tell r = result_map_both tell (λ f. f) r

-- a store's refusal, told as it is
abbrev pub carried : Result Entry Refused → Result Reply Faulted
carried (Ok e) = Ok (entry e)
carried (Err f) = Err (record { number = f.number; layer = f.layer; place = f.place; lower = None })

-- the buffer of a read of n bytes
abbrev pub buffer : ℕ → List ℕ
buffer n = replicate (min n 16777217) 0

-- what happens at a call, and what is told of it
abbrev pub Tells : Said → Result Reply Faulted → Event → Type 0
Tells (said.opened v) r e = (x : Result (Unit {0}) Faulted) × (e ≡ event.opened (strictly v) x) × (r ≡ replied (λ u. done) x)
Tells (said.len id) r e = (x : Result ℕ Faulted) × (e ≡ event.measured id x) × (r ≡ replied long x)
Tells (said.read id at n) r e = (x : Result ℕ Faulted) × (out : List ℕ) × (e ≡ event.read id at (buffer n) x out) × (r ≡ replied (λ k. bytes (take k out)) x)
Tells (said.read_hex id at n) r e = (x : Result ℕ Faulted) × (out : List ℕ) × (e ≡ event.read id at (buffer n) x out) × (r ≡ replied (λ k. hex (take k out)) x)
Tells (said.write id at ys) r e = (x : Result (Unit {0}) Faulted) × (e ≡ event.written id at ys x) × (r ≡ replied (λ u. done) x)
Tells (said.resize id n) r e = (x : Result (Unit {0}) Faulted) × (e ≡ event.resized id n x) × (r ≡ replied (λ u. done) x)
Tells said.room r e = (x : Result (ℕ × ℕ) Faulted) × (e ≡ event.counted x) × (r ≡ replied (λ p. room p.0 p.1) x)
Tells said.header r e = (w : Words) × (e ≡ event.showed_words w) × (r ≡ Ok (words w))
Tells (said.entry id) r e = (x : Result Entry Refused) × (e ≡ event.showed_entry id x) × (r ≡ carried x)
Tells said.links r e = (L : List ℕ) × (e ≡ event.showed_links L) × (r ≡ Ok (links L))

-- a call is made on the workbook w, and keeps what calls promise
abbrev pub Asked : {X : Type 0} {K : Ghosts X} → Workbook X K → Said → Result Reply Faulted → Workbook X K → Type 0
Asked w c r z = (e : Event) × Tells c r e × Promised w e z

-- so a read, of which the bytes that it tells are told
abbrev pub Fetched : {X : Type 0} {K : Ghosts X} → Workbook X K → ℕ → ℕ → ℕ → Result (List ℕ) Faulted → Workbook X K → Type 0
Fetched w id at n r z =
    (x : Result ℕ Faulted) × (out : List ℕ) × Promised w (event.read id at (buffer n) x out) z × (r ≡ result_map_both (λ k. take k out) (λ f. f) x)

-- each call happened, and was told of
abbrev pub Happened : List Said → List (Result Reply Faulted) → List Event → Type 0
Happened [] [] [] = Unit {0}
Happened (c ∷ cs) (r ∷ rs) (e ∷ es) = Tells c r e × Happened cs rs es
Happened cs rs es = ⊥

-- the calls make a history of a workbook over the host m, and the law holds of each of them
pub record Replayed (most layer : ℕ) (m : Store) (cs : List Said) (rs : List (Result Reply Faulted)) : Type 0 where
  pub events : List Event
  pub state : State
  pub ledger : Option Ledger
  pub happened : Happened cs rs events
  pub upheld : Run most layer (Upheld layer) m events state ledger
