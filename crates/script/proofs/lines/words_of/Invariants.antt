-- The line up to i is cut into words.
-- Assumes nothing.
use Rattle.std.proofs.Common.{map, vec_items}
use Rattle.script.specs.Lines.{words_after}
use Rattle.script.proofs.Cuts.{State}
use Rattle.script.proofs.lines.words_of.Given as goal

abbrev pub invariant-loop-i : goal.invariant-loop-i
invariant-loop-i l = State words_after l.line l.i l.start (map (λ x. x.now) (vec_items l.all))
