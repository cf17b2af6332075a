-- Assumes nothing.
use Rattle.std.proofs.Common.{ℕ, length, Option, ap, ◌∙◌, arith}
use Rattle.std.proofs.lemmas.Result.{err_from_is_err_and}
use Rattle.links.specs.Check.{first_of, settled}
use Rattle.minifat.specs.Table.{table_in}
use Rattle.minifat.specs.Told.{Faulted}
use Rattle.minialloc.specs.States.{State}
use Rattle.workbook.specs.Opening.{stream_fault}
use Rattle.workbook.proofs.Searches.{searched_on, searched_some, searched_all}
use Rattle.workbook.proofs.opening.check_streams.Goals as goal

pub loop-id-preserved : goal.loop-id-preserved
loop-id-preserved g c =
    searched_on (λ s. stream_fault s g.H.ChainStore.LAYER (table_in c.args.table.now)) _ _ _ c.loop-id.invariant _ c.in_ok-check_stream.ensures.left c.in_ok-check_stream.ensures.told

pub returns-in_err-check_stream-clause-told : goal.returns-in_err-check_stream-clause-told
returns-in_err-check_stream-clause-told g c =
    let l = c.loop-id in
    let F : State → ℕ → Option Faulted = λ s. stream_fault s g.H.ChainStore.LAYER (table_in c.args.table.now) in
    let n = length c.args.store.now.state.0.host.notes.entries in
    let q = err_from_is_err_and c.from_residual.result c.from_residual.ensures.1 in
    rw (q.1, q.2)
    (searched_some F c.entries-id-end.new.self.state.0 l.store.state.0 l.id l.invariant n _ (omega (arith, c.entries-id-end.ensures.told)) c.in_err-check_stream.ensures.told
    ∙ ap (λ s. settled (first_of (F s) n 0) tt) c.entries-id-end.ensures.left)

pub returns-clause-told : goal.returns-clause-told
returns-clause-told g c =
    let l = c.loop-id in
    let F : State → ℕ → Option Faulted = λ s. stream_fault s g.H.ChainStore.LAYER (table_in c.args.table.now) in
    let n = length c.args.store.now.state.0.host.notes.entries in
    searched_all F c.entries-id-end.new.self.state.0 l.store.state.0 l.id l.invariant n (omega (arith, c.entries-id-end.ensures.told))
    ∙ ap (λ s. settled (first_of (F s) n 0) tt) c.entries-id-end.ensures.left
