-- What a store answers to a call.
-- Assumes nothing.
use Rattle.std.specs.Prelude.{◌≡◌, ℕ, ◌+◌, ◌-◌, ◌^◌, ◌==◌, false, cond, List, [], ◌++◌, length, take, drop, codes, fold, nat_lt, vec_items, Ok, Result}
use Rattle.std.specs.Fmt.{decimal, digits, padded_integral, format_spec}
use Rattle.std.specs.List.{flat_map}
use Rattle.std.specs.Result.{result_map_both}
use Rattle.store.specs.Meaning.{Store, bytes_of, units_of, due_head, due_copy, due_extend, due_cut, wrote, extended, cut_to, freed, Begins}
use Rattle.store.specs.Refusals.{Refused, answer}
use Rattle.script.specs.Words.{hashed}
use Rattle.calls.specs.declared.answers.Answer.{Answer}
use Rattle.calls.specs.declared.answers.Answer.TheVariants as answers
use Rattle.calls.specs.declared.lines.Call.{Call}
use Rattle.calls.specs.declared.lines.Call.TheVariants as call

-- what an answer tells: that it is done, a number, or bytes
pub data Reply : Type 0 where
  done : Reply
  number : ℕ → Reply
  bytes : List ℕ → Reply

abbrev pub reply : Answer → Reply
reply answers.Done = done
reply (answers.Number n) = number n
reply (answers.Bytes v) = bytes (vec_items v)

-- what is told of an outcome: its value, or the refusal
abbrev pub replied : {A : Type 0} → (A → Reply) → Result A Refused → Result Reply Refused
replied tell r = result_map_both tell (λ f. f) r

-- of a call that has no more to tell
abbrev pub finished : Unit {0} → Reply
finished u = done

-- a call against a store m of that layer is answered with r and leaves the store as after
abbrev pub Answered : Store → ℕ → Call → Result Reply Refused → Store → Type 0
Answered m layer (call.Begin n) r after = (t : Result ℕ Refused) × (r ≡ replied number t) × Begins m layer n t after
Answered m layer (call.Extend h n) r after =
    (r ≡ replied finished (answer (due_extend m layer h n) tt)) × (after ≡ extended m layer h n)
Answered m layer (call.Cut h n) r after = (r ≡ replied finished (answer (due_cut m layer h n) tt)) × (after ≡ cut_to m layer h n)
Answered m layer (call.Free h) r after = (r ≡ replied finished (answer (due_head m layer h) tt)) × (after ≡ freed m layer h)
Answered m layer (call.Units h) r after = (r ≡ replied number (answer (due_head m layer h) (units_of m h))) × (after ≡ m)
Answered m layer call.Room r after = (r ≡ Ok (number m.room)) × (after ≡ m)
Answered m layer (call.Read h at n) r after =
    (r ≡ replied bytes (answer (due_copy m layer h (at + n)) (take n (drop at (bytes_of m h))))) × (after ≡ m)
Answered m layer (call.Write h at v) r after =
    (r ≡ replied finished (answer (due_copy m layer h (at + length (vec_items v))) tt)) × (after ≡ wrote m layer h at (vec_items v))

-- a number in hexadecimal, with zeros before it up to a width
abbrev pub hex : ℕ → ℕ → List ℕ
hex width n = padded_integral (format_spec 32 0 4 width (2 ^ 64 - 1)) false [] (digits 16 false n)

-- bytes in hexadecimal; no bytes as -
abbrev pub hexed : List ℕ → List ℕ
hexed bs = cond (length bs == 0) (codes "-") (flat_map (hex 2) bs)

-- how bytes are printed: in hexadecimal, and more than 64 of them by their hash
abbrev pub bytes_text : List ℕ → List ℕ
bytes_text bs = cond (nat_lt 64 (length bs)) (codes "fnv:" ++ hex 16 (fold hashed 0xcbf29ce484222325 bs)) (hexed bs)

-- the answer of bytes: how many, and a text of them
abbrev pub counted : List ℕ → List ℕ → List ℕ
counted bs text = codes "ok " ++ (decimal (length bs) ++ (codes " " ++ text))

-- how an answer is printed
abbrev pub answer_text : Answer → List ℕ
answer_text answers.Done = codes "ok"
answer_text (answers.Number n) = codes "ok " ++ decimal n
answer_text (answers.Bytes v) = counted (vec_items v) (bytes_text (vec_items v))
