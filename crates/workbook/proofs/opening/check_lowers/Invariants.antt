-- No stream so far has the chain.
-- Assumes nothing.
use Rattle.workbook.specs.Opening.{shared_fault}
use Rattle.workbook.proofs.Searches.{Searched}
use Rattle.workbook.proofs.opening.check_lowers.Given as goal

abbrev pub invariant-loop-lower : goal.invariant-loop-lower
invariant-loop-lower g l = Searched (λ s. shared_fault s l.id l.entry) l.initial.store.state.0 l.store.state.0 l.lower
