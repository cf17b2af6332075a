-- The table of a mini store as its host has it, or the refusal that is due: row by row as the refusals are looked for.
-- s is the host, and layer the host's layer.
-- Assumes nothing.
use Rattle.std.specs.Prelude.{ℕ, ◌*◌, ◌/◌, ◌%◌, Bool, true, false, cond, not, ◌&&◌, List, map, length, take, Some, None, Ok, Err, Option, Result, ◌==◌, nat_lt}
use Rattle.std.specs.List.{range_with_len}
use Rattle.links.specs.declared.checks.LinkFault.{LinkFault}
use Rattle.links.specs.declared.stacked.Stacked.{Stacked}
use Rattle.links.specs.Bytes.{link_in}
use Rattle.links.specs.Check.{number_of, place_of, verdict}
use Rattle.links.specs.Held.{links_of}
use Rattle.links.specs.Stack.{trimmed}
use Rattle.store.specs.declared.entries.Words.{Words}
use Rattle.store.specs.Kinds.{byte_of}
use Rattle.store.specs.Refusals.{Refused}
use Rattle.store.specs.Meaning.{Store, bytes_of}
use Rattle.mini.specs.Mini.{root_of, stream_at, fat_at, sectors_of}
use Rattle.minifat.specs.declared.Validation.{Validation}
use Rattle.minifat.specs.declared.Validation.TheVariants.{Permissive, Strict}
use Rattle.minifat.specs.Told.{Faulted}

-- a table that goes beyond the mini stream is refused
abbrev pub strictly : Validation → Bool
strictly Permissive = false
strictly Strict = true

-- the links of a table that was read
abbrev pub table_in : Stacked → List ℕ
table_in t = links_of t.links

-- the links of a MiniFAT's bytes
abbrev pub all_links : List ℕ → List ℕ
all_links ys = map (link_in ys) (range_with_len 0 (length ys / 4))

-- a fault of the mini store, with a store's refusal below it or none
abbrev pub fault : ℕ → Option Refused → Faulted
fault number f = record { number = number; layer = 3; place = 0; lower = f }

-- a row: refused where the test holds, else what the rows below say
abbrev pub row : {A : Type 0} → Bool → ℕ → Result A Faulted → Result A Faulted
row test number below = cond test (Err (fault number None)) below

-- a row that asks a store: refused where the store refuses, else what the rows below say of the answer
abbrev pub asking : {A : Type 0} → Result ℕ Refused → ℕ → (ℕ → Result A Faulted) → Result A Faulted
asking (Ok n) number below = below n
asking (Err f) number below = Err (fault number (Some f))

-- rows, and those that follow them
abbrev pub before : {A B : Type 0} → Result A Faulted → (A → Result B Faulted) → Result B Faulted
before (Ok x) below = below x
before (Err e) below = Err e

-- 9: chain absent, another count; else the header words
abbrev pub words_of_fat : Store → ℕ → Result Words Faulted
words_of_fat s layer =
    asking (sectors_of s layer (fat_at s) (s.notes.words.count == 0)) 9 (λ n. row (not (n == s.notes.words.count)) 9 (Ok s.notes.words))

-- 9: too many links, counted without the trailing FREE ones; else those
abbrev pub trimmed_of : List ℕ → Result (List ℕ) Faulted
trimmed_of L = row (nat_lt 4096 (trimmed L)) 9 (Ok (take (trimmed L) L))

-- 9 in all; else the links of the MiniFAT without the trailing FREE ones
abbrev pub fat_of : Store → ℕ → Result (List ℕ) Faulted
fat_of s layer = before (words_of_fat s layer) (λ w. trimmed_of (all_links (bytes_of s w.start)))

-- 10: kind, multiple of 64, chain absent, length over the chain; else the mini sectors that the root length has
abbrev pub minis_of : Store → ℕ → Result ℕ Faulted
minis_of s layer =
    row (not (byte_of (root_of s).kind == 5)) 10 (
    row (not ((root_of s).length % 64 == 0)) 10 (
    asking (sectors_of s layer (stream_at s) ((root_of s).length == 0)) 10 (λ n.
    row (nat_lt (n * s.unit) (root_of s).length) 10 (
    Ok ((root_of s).length / 64)))))

-- 8, in strict opening: more links than mini sectors; else no more of them than those
abbrev pub fitted : Bool → List ℕ → ℕ → Result (List ℕ) Faulted
fitted strict L r = row (strict && nat_lt r (length L)) 8 (Ok (take r L))

-- 6 or 7, as the check tells, at the place that it tells
abbrev pub checked_by : Result Unit LinkFault → List ℕ → Result (List ℕ) Faulted
checked_by (Ok _) L = Ok L
checked_by (Err f) L = Err (record { number = number_of f; layer = 3; place = place_of f; lower = None })

-- the table
abbrev pub table_of : Store → ℕ → Bool → Result (List ℕ) Faulted
table_of s layer strict =
    before (fat_of s layer) (λ L. before (minis_of s layer) (λ r. before (fitted strict L r) (λ M. checked_by (verdict M) M)))
