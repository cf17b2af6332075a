-- What a line of a script says.
-- Assumes nothing.
use Rattle.std.specs.Prelude.{◌≡◌, ℕ, cond, List, [], ◌∷◌, Some, None, Ok, Err, vec_items, codes, Option, Result}
use Rattle.std.specs.Option.{option_map}
use Rattle.std.specs.Str.{bytes_eq}
use Rattle.calls.specs.declared.lines.Call.{Call}
use Rattle.calls.specs.declared.lines.Call.TheVariants as call
use Rattle.calls.specs.declared.lines.NotACall.{NotACall}
use Rattle.calls.specs.declared.faults.Fault.{Fault}
use Rattle.calls.specs.Faults.{Tells}
use Rattle.script.specs.Lines.{bytes_of}
use Rattle.script.specs.Words.{number_of, short_of}

-- a call with its numbers, and the bytes of a write
pub data Said : Type 0 where
  begin : ℕ → Said
  extend : ℕ → ℕ → Said
  cut : ℕ → ℕ → Said
  free : ℕ → Said
  units : ℕ → Said
  room : Said
  read : ℕ → ℕ → ℕ → Said
  write : ℕ → ℕ → List ℕ → Said

-- what a call of the code says
abbrev pub asked : Call → Said
asked (call.Begin n) = begin n
asked (call.Extend h n) = extend h n
asked (call.Cut h n) = cut h n
asked (call.Free h) = free h
asked (call.Units h) = units h
asked call.Room = room
asked (call.Read h at n) = read h at n
asked (call.Write h at v) = write h at (vec_items v)

-- a name alone
abbrev pub alone : List ℕ → Option Said
alone name = cond (bytes_eq name (codes "room")) (Some room) None

-- a name with a head or a count
abbrev pub one : List ℕ → Option ℕ → Option Said
one name None = None
one name (Some n) =
    cond (bytes_eq name (codes "begin")) (Some (begin n))
    (cond (bytes_eq name (codes "free")) (Some (free n)) (cond (bytes_eq name (codes "units")) (Some (units n)) None))

-- what two values make, where both are there
abbrev pub of_two : {A B C : Type 0} → (A → B → C) → Option A → Option B → Option C
of_two f None o = None
of_two f (Some a) None = None
of_two f (Some a) (Some b) = Some (f a b)

-- what three values make, where all are there
abbrev pub of_three : {A B C D : Type 0} → (A → B → C → D) → Option A → Option B → Option C → Option D
of_three f None o p = None
of_three f (Some a) None p = None
of_three f (Some a) (Some b) None = None
of_three f (Some a) (Some b) (Some c) = Some (f a b c)

-- a name with a head and a count
abbrev pub two : List ℕ → Option ℕ → Option ℕ → Option Said
two name None o = None
two name (Some h) None = None
two name (Some h) (Some n) =
    cond (bytes_eq name (codes "extend")) (Some (extend h n)) (cond (bytes_eq name (codes "cut")) (Some (cut h n)) None)

-- a head, an offset and a count
abbrev pub reading : Option ℕ → Option ℕ → Option ℕ → Option Said
reading h at n = of_three read h at n

-- a head, an offset and bytes
abbrev pub writing : Option ℕ → Option ℕ → Option (List ℕ) → Option Said
writing h at bs = of_three write h at bs

-- a name with a head, an offset, and a count or bytes
abbrev pub three : List ℕ → List ℕ → List ℕ → List ℕ → Option Said
three name head at third =
    cond (bytes_eq name (codes "read")) (reading (short_of head) (number_of at) (number_of third))
    (cond (bytes_eq name (codes "write")) (writing (short_of head) (number_of at) (bytes_of third)) None)

-- the call that words are, if they are one
abbrev pub call_of : List (List ℕ) → Option Said
call_of [] = None
call_of (name ∷ []) = alone name
call_of (name ∷ a ∷ []) = one name (short_of a)
call_of (name ∷ a ∷ b ∷ []) = two name (short_of a) (short_of b)
call_of (name ∷ a ∷ b ∷ c ∷ []) = three name a b c
call_of (name ∷ a ∷ b ∷ c ∷ d ∷ ws) = None

-- the call, or that there is none
abbrev pub called : {C N : Type 0} → N → Option C → Result (Option C) N
called wrong None = Err wrong
called wrong (Some c) = Ok (Some c)

-- what words say, by the call that they are: no word says nothing
abbrev pub said_by : {C N : Type 0} → (List (List ℕ) → Option C) → N → List (List ℕ) → Result (Option C) N
said_by call wrong [] = Ok None
said_by call wrong (w ∷ ws) = called wrong (call (w ∷ ws))

-- what the words of a line say
abbrev pub line_of : List (List ℕ) → Result (Option Said) NotACall
line_of ws = said_by call_of (record {}) ws

-- what a parsing returns: what the words say, or its fault
abbrev pub SaysBy : {A C N : Type 0} → (A → C) → Result (Option A) (Fault N) → Result (Option C) N → Type 0
SaysBy said (Ok c) o = o ≡ Ok (option_map said c)
SaysBy said (Err f) o = Tells (λ w. w) f o

-- the same of a call against a chain store
abbrev pub Says : Result (Option Call) (Fault NotACall) → Result (Option Said) NotACall → Type 0
Says r o = SaysBy asked r o

-- how it is printed that words are no call
abbrev pub wrong_text : NotACall → List ℕ
wrong_text w = codes "not a chain call"
