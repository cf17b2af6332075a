-- What is left of the lines, after the links so far, says what all the lines say.
-- Assumes nothing.
use Rattle.std.proofs.Common.{◌≡◌, ◌+◌, [], map, drop}
use Rattle.links.specs.Held.{links_of}
use Rattle.calls.specs.Tables.{lines_into}
use Rattle.calls.proofs.tables.read_table.Given as goal

abbrev pub invariant-loop-i : goal.invariant-loop-i
invariant-loop-i l =
    lines_into (l.i + 1) (map (λ x. x.now) (drop l.i l.line-items)) (links_of l.table) ≡ lines_into 1 (map (λ x. x.now) l.line-items) []
