-- No stream so far has a fault.
-- Assumes nothing.
use Rattle.minifat.specs.Table.{table_in}
use Rattle.workbook.specs.Opening.{stream_fault}
use Rattle.workbook.proofs.Searches.{Searched}
use Rattle.workbook.proofs.opening.check_streams.Given as goal

abbrev pub invariant-loop-id : goal.invariant-loop-id
invariant-loop-id g l = Searched (λ s. stream_fault s g.H.ChainStore.LAYER (table_in l.table)) l.initial.store.state.0 l.store.state.0 l.id
