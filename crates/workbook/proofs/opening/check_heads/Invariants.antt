-- No stream so far has a fault.
-- Assumes nothing.
use Rattle.workbook.specs.Opening.{head_fault}
use Rattle.workbook.proofs.Searches.{Searched}
use Rattle.workbook.proofs.opening.check_heads.Given as goal

abbrev pub invariant-loop-id : goal.invariant-loop-id
invariant-loop-id g l = Searched head_fault l.initial.store.state.0 l.store.state.0 l.id
