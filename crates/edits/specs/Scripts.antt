-- What a line of a script says.
-- Assumes nothing.
use Rattle.std.specs.Prelude.{ℕ, ◌+◌, ◌*◌, ◌/◌, ◌%◌, min, cond, List, [], ◌∷◌, map, replicate, Some, None, vec_items, codes, Option, Result}
use Rattle.std.specs.List.{range_with_len}
use Rattle.std.specs.Option.{option_map}
use Rattle.std.specs.Str.{bytes_eq}
use Rattle.calls.specs.declared.faults.Fault.{Fault}
use Rattle.calls.specs.Scripts.{of_two, of_three, said_by, SaysBy}
use Rattle.edits.specs.declared.lines.Edit.{Edit}
use Rattle.edits.specs.declared.lines.Edit.TheVariants as edit
use Rattle.edits.specs.declared.lines.NotACall.{NotACall}
use Rattle.minifat.specs.declared.Validation.{Validation}
use Rattle.minifat.specs.declared.Validation.TheVariants.{Strict, Permissive}
use Rattle.script.specs.Lines.{bytes_of}
use Rattle.script.specs.Words.{number_of, short_of, within}

-- a call with its mode or its numbers, and the bytes of a write
pub data Said : Type 0 where
  opened : Validation → Said
  len : ℕ → Said
  read : ℕ → ℕ → ℕ → Said
  read_hex : ℕ → ℕ → ℕ → Said
  write : ℕ → ℕ → List ℕ → Said
  resize : ℕ → ℕ → Said
  room : Said
  header : Said
  entry : ℕ → Said
  links : Said

-- what a call of the code says
abbrev pub asked : Edit → Said
asked (edit.Open v) = opened v
asked (edit.Len id) = len id
asked (edit.Read id at n) = read id at n
asked (edit.ReadHex id at n) = read_hex id at n
asked (edit.Write id at v) = write id at (vec_items v)
asked (edit.Resize id n) = resize id n
asked edit.Room = room
asked edit.Header = header
asked (edit.Entry id) = entry id
asked edit.Links = links

-- how strictly to open, by its name
abbrev pub mode_of : List ℕ → Option Validation
mode_of w = cond (bytes_eq w (codes "strict")) (Some Strict) (cond (bytes_eq w (codes "permissive")) (Some Permissive) None)

-- a name alone
abbrev pub alone : List ℕ → Option Said
alone name =
    cond (bytes_eq name (codes "room")) (Some room)
    (cond (bytes_eq name (codes "header")) (Some header) (cond (bytes_eq name (codes "minifat")) (Some links) None))

-- a name with a mode or an id
abbrev pub one : List ℕ → List ℕ → Option Said
one name w =
    cond (bytes_eq name (codes "open")) (option_map opened (mode_of w))
    (cond (bytes_eq name (codes "len")) (option_map len (short_of w)) (cond (bytes_eq name (codes "entry")) (option_map entry (short_of w)) None))

-- a - and a mode
abbrev pub opening : List ℕ → List ℕ → Option Said
opening w mode = cond (bytes_eq w (codes "-")) (option_map opened (mode_of mode)) None

-- a name with - and a mode, or with an id and a length
abbrev pub two : List ℕ → List ℕ → List ℕ → Option Said
two name a b =
    cond (bytes_eq name (codes "open")) (opening a b)
    (cond (bytes_eq name (codes "resize")) (of_two resize (short_of a) (number_of b)) None)

-- a name with an id, an offset, and a count or bytes
abbrev pub three : List ℕ → List ℕ → List ℕ → List ℕ → Option Said
three name id at third =
    cond (bytes_eq name (codes "read")) (of_three read (short_of id) (number_of at) (number_of third))
    (cond (bytes_eq name (codes "readhex")) (of_three read_hex (short_of id) (number_of at) (number_of third))
    (cond (bytes_eq name (codes "write")) (of_three write (short_of id) (number_of at) (bytes_of third)) None))

-- so many bytes are made for a count: one more than any stream has for a longer one, since both are refused
abbrev pub made : ℕ → ℕ
made n = min n 16777217

-- one byte, so many times
abbrev pub same : ℕ → ℕ → List ℕ
same n byte = replicate (made n) byte

-- the byte of a pattern at place i
abbrev pub pattern_at : ℕ → ℕ → ℕ
pattern_at seed i = (31 * seed + 7 * i + 13 * (i / 256)) % 256

-- the first bytes of a pattern
abbrev pub pattern : ℕ → ℕ → List ℕ
pattern n seed = map (pattern_at seed) (range_with_len 0 (made n))

-- a name with an id, an offset, a count, and a byte or a seed
abbrev pub four : List ℕ → List ℕ → List ℕ → List ℕ → List ℕ → Option Said
four name id at n last =
    cond (bytes_eq name (codes "fill")) (of_three write (short_of id) (number_of at) (of_two same (number_of n) (within 255 (number_of last))))
    (cond (bytes_eq name (codes "pat")) (of_three write (short_of id) (number_of at) (of_two pattern (number_of n) (number_of last))) None)

-- the call that words are, if they are one
abbrev pub edit_of : List (List ℕ) → Option Said
edit_of [] = None
edit_of (name ∷ []) = alone name
edit_of (name ∷ a ∷ []) = one name a
edit_of (name ∷ a ∷ b ∷ []) = two name a b
edit_of (name ∷ a ∷ b ∷ c ∷ []) = three name a b c
edit_of (name ∷ a ∷ b ∷ c ∷ d ∷ []) = four name a b c d
edit_of (name ∷ a ∷ b ∷ c ∷ d ∷ e ∷ ws) = None

-- what the words of a line say
abbrev pub line_of : List (List ℕ) → Result (Option Said) NotACall
line_of ws = said_by edit_of (record {}) ws

-- what a parsing returns: what the words say, or its fault
abbrev pub Says : Result (Option Edit) (Fault NotACall) → Result (Option Said) NotACall → Type 0
Says r o = SaysBy asked r o

-- how it is printed that words are no call
abbrev pub wrong_text : NotACall → List ℕ
wrong_text w = codes "not a workbook call"
