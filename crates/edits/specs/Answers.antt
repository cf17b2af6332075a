-- How the answers of a workbook are printed.
-- Assumes nothing.
use Rattle.std.specs.Prelude.{ℕ, ◌==◌, cond, List, ◌++◌, length, codes, nat_le, vec_items}
use Rattle.std.specs.Fmt.{decimal}
use Rattle.std.specs.List.{flat_map}
use Rattle.calls.specs.Answers.{hex, hexed, bytes_text, counted}
use Rattle.links.specs.Links.{END, FREE}
use Rattle.store.specs.Kinds.{byte_of}
use Rattle.edits.specs.declared.answers.Answer.{Answer}
use Rattle.edits.specs.declared.answers.Answer.TheVariants as answers

-- how a link is printed: a pointer by its number, END and FREE by name, and the three numbers between in hexadecimal
abbrev pub link_text : ℕ → List ℕ
link_text n =
    cond (n == END) (codes "END") (cond (n == FREE) (codes "FREE")
    (cond (nat_le n 0xfffffffa) (decimal n) (codes "0x" ++ hex 8 n)))

-- links, each behind a blank
abbrev pub links_text : List ℕ → List ℕ
links_text L = flat_map (λ n. codes " " ++ link_text n) L

-- how an answer is printed
abbrev pub answer_text : Answer → List ℕ
answer_text answers.Done = codes "ok"
answer_text (answers.Length n) = codes "ok " ++ decimal n
answer_text (answers.Bytes v) = counted (vec_items v) (bytes_text (vec_items v))
answer_text (answers.Hex v) = counted (vec_items v) (hexed (vec_items v))
answer_text (answers.Room host mini) = codes "ok " ++ (decimal host ++ (codes " " ++ decimal mini))
answer_text (answers.Words w) = codes "ok " ++ (link_text w.start ++ (codes " " ++ decimal w.count))
answer_text (answers.Entry e) =
    codes "ok " ++ (decimal (byte_of e.kind) ++ (codes " " ++ (link_text e.start ++ (codes " " ++ decimal e.length))))
answer_text (answers.Links v) = codes "ok " ++ (decimal (length (vec_items v)) ++ links_text (vec_items v))
