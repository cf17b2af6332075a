-- Assumes nothing.
use Rattle.std.proofs.Common.{◌≡◌, ℕ, ◌+◌, ◌<◌, List, [], map, length, get_or, drop, Result, sym, ap, ◌∙◌, arith, Bor}
use Rattle.std.proofs.lemmas.List.{at_drop_more, at_drop_all}
use Rattle.std.proofs.lemmas.Result.{err_from_is_err_and}
use Rattle.script.specs.Lines.{lines_of, words_of}
use Rattle.links.specs.Held.{links_of}
use Rattle.calls.specs.Tables.{Stop, onward, words_into, lines_into, table_of}
use Rattle.calls.proofs.Onward.{goes, stops}
use Rattle.calls.proofs.tables.read_table.Goals as goal

-- at line i of ls, after the links L; ws are the words of the line
here : (i : ℕ) (ls : List (Bor (List ℕ))) (L : List ℕ) (all : Result (List ℕ) Stop) → lines_into (i + 1) (map (λ x. x.now) (drop i ls)) L ≡ all
    → (d : Bor (List ℕ)) → i < length ls → (ws : List (List ℕ)) → ws ≡ words_of (get_or ls i d).now
    → onward (words_into (i + 1) ws L) (λ s. s) (lines_into (i + 1 + 1) (map (λ x. x.now) (drop (i + 1) ls))) ≡ all
here i ls L all inv d l ws split =
    ap (λ vs. onward (words_into (i + 1) vs L) (λ s. s) (lines_into (i + 1 + 1) (map (λ x. x.now) (drop (i + 1) ls)))) split
    ∙ sym (at_drop_more (λ ks. lines_into (i + 1) (map (λ x. x.now) ks) L) ls i d l) ∙ inv

-- all the lines are the text's
whole : (text : List ℕ) (ls vs : List (Bor (List ℕ))) → ls ≡ vs → map (λ x. x.now) vs ≡ lines_of text → lines_into 1 (map (λ x. x.now) ls) [] ≡ table_of text
whole text ls vs s e = ap (λ ks. lines_into 1 (map (λ x. x.now) ks) []) s ∙ ap (λ ks. lines_into 1 ks []) e

pub returns-in_err-read_words : goal.returns-in_err-read_words
returns-in_err-read_words c =
    let ls = c.as_slice-line-items.result.now in
    let p = err_from_is_err_and c.from_residual-in_err-read_words.result c.from_residual-in_err-read_words.ensures.1 in
    rw (p.1, p.2)
    (stops _ _ _ (here c.loop-i.i ls (links_of c.loop-i.table) _
    (c.loop-i.invariant ∙ whole c.args.text.now ls _ c.as_slice-line-items.ensures.value c.in_ok-lines.ensures) _ (omega arith)
    (map (λ x. x.now) c.as_slice.result.now) (ap (map (λ x. x.now)) c.as_slice.ensures.value ∙ c.in_ok-words.ensures)) _ c.in_err-read_words.ensures)

pub loop-i-preserved : goal.loop-i-preserved
loop-i-preserved c =
    goes _ _ _ (here c.loop-i.i c.as_slice-line-items.result.now (links_of c.loop-i.table) _ c.loop-i.invariant _ (omega arith)
    (map (λ x. x.now) c.as_slice.result.now) (ap (map (λ x. x.now)) c.as_slice.ensures.value ∙ c.in_ok-words.ensures))
    _ c.in_ok-read_words.ensures

pub returns : goal.returns
returns c =
    let ls = c.as_slice-line-items.result.now in
    sym (whole c.args.text.now ls _ c.as_slice-line-items.ensures.value c.in_ok-lines.ensures) ∙ sym c.loop-i.invariant
    ∙ at_drop_all (λ ks. lines_into (c.loop-i.i + 1) (map (λ x. x.now) ks) (links_of c.loop-i.table)) ls c.loop-i.i (omega arith)
