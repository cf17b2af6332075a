-- What is left of the words, after the links so far, says what all the words say.
-- Assumes nothing.
use Rattle.std.proofs.Common.{◌≡◌, map, drop}
use Rattle.links.specs.Held.{links_of}
use Rattle.calls.specs.Tables.{words_into}
use Rattle.calls.proofs.tables.read_words.Given as goal

abbrev pub invariant-loop-word : goal.invariant-loop-word
invariant-loop-word l =
    words_into l.line (map (λ x. x.now) (drop l.word-index l.words)) (links_of l.table) ≡ words_into l.line (map (λ x. x.now) l.words) (links_of l.initial.table)
