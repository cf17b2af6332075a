-- No place so far has a fault, and the marks are the pointers met so far.
-- Assumes nothing.
use Rattle.links.proofs.Verdicts.{Looked}
use Rattle.links.proofs.checks.check.Given as goal

abbrev pub invariant-loop-place : goal.invariant-loop-place
invariant-loop-place g l = Looked (g.T.LinkTable.links l.table) l.place l.met
