-- Assumes nothing.
use Rattle.std.proofs.Common.{◌≡◌, ℕ, ◌+◌, ◌<◌, List, [], ◌∷◌, map, length, get_or, drop, Ok, Err, Result, refl, sym, ◌∙◌, arith, Bor}
use Rattle.std.proofs.lemmas.List.{at_drop_more}
use Rattle.std.proofs.lemmas.Result.{err_from_is_err_and}
use Rattle.links.specs.Held.{links_of}
use Rattle.calls.specs.Tables.{Stop, stop, onward, pushed, words_into}
use Rattle.calls.specs.declared.tables.WordFault.{WordFault}
use Rattle.calls.proofs.Onward.{goes, stops}
use Rattle.calls.proofs.tables.read_words.Goals as goal

-- a word, and those behind it
step : (n : ℕ) (w : List ℕ) (ws : List (List ℕ)) (L : List ℕ) → onward (words_into n (w ∷ []) L) (λ s. s) (words_into n ws) ≡ words_into n (w ∷ ws) L
step n w ws L = go (pushed w L)
  where
    go : (r : Result (List ℕ) WordFault) → onward (onward r (stop n w) (words_into n [])) (λ s. s) (words_into n ws) ≡ onward r (stop n w) (words_into n ws)
    go (Ok M) = refl
    go (Err e) = refl

-- at word i of ws, after the links L
here : (n i : ℕ) (ws : List (Bor (List ℕ))) (L : List ℕ) (all : Result (List ℕ) Stop) → words_into n (map (λ x. x.now) (drop i ws)) L ≡ all
    → (d : Bor (List ℕ)) → i < length ws → onward (words_into n ((get_or ws i d).now ∷ []) L) (λ s. s) (words_into n (map (λ x. x.now) (drop (i + 1) ws))) ≡ all
here n i ws L all inv d l = step n (get_or ws i d).now (map (λ x. x.now) (drop (i + 1) ws)) L ∙ sym (at_drop_more (λ vs. words_into n (map (λ x. x.now) vs) L) ws i d l) ∙ inv

pub returns-in_err-read_word : goal.returns-in_err-read_word
returns-in_err-read_word c =
    let p = err_from_is_err_and c.from_residual.result c.from_residual.ensures.1 in
    rw (p.1, p.2)
    (stops _ _ _ (here c.args.line c.loop-word.word-index c.args.words.now (links_of c.loop-word.table) _ c.loop-word.invariant _ (omega arith)) _ c.in_err-read_word.ensures.0)

pub loop-word-preserved : goal.loop-word-preserved
loop-word-preserved c =
    goes _ _ _ (here c.args.line c.loop-word.word-index c.args.words.now (links_of c.loop-word.table) _ c.loop-word.invariant _ (omega arith)) _ c.in_ok-read_word.ensures
