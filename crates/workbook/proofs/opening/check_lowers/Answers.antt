-- Assumes nothing.
use Rattle.std.proofs.Common.{arith}
use Rattle.std.proofs.lemmas.Result.{err_from_is_err_and}
use Rattle.workbook.specs.Opening.{shared_fault}
use Rattle.workbook.proofs.Searches.{searched_some, searched_all}
use Rattle.workbook.proofs.opening.check_lowers.Goals as goal

pub returns-in_err-check_lower-clause-told : goal.returns-in_err-check_lower-clause-told
returns-in_err-check_lower-clause-told g c =
    let l = c.loop-lower in
    let q = err_from_is_err_and c.from_residual.result c.from_residual.ensures.1 in
    rw (q.1, q.2)
    (searched_some (λ s. shared_fault s c.args.id c.args.entry) c.args.store.now.state.0 l.store.state.0 l.lower l.invariant c.args.id _ (omega arith) c.in_err-check_lower.ensures.told)

pub returns-clause-told : goal.returns-clause-told
returns-clause-told g c =
    let l = c.loop-lower in
    searched_all (λ s. shared_fault s c.args.id c.args.entry) c.args.store.now.state.0 l.store.state.0 l.lower l.invariant c.args.id (omega arith)
