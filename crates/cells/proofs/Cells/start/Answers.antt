-- Assumes nothing.
use Rattle.cells.proofs.Gives.{start_none, start_joins, start_some}
use Rattle.cells.proofs.Cells.start.Goals as goal

pub returns-in_err-unit : goal.returns-in_err-unit
returns-in_err-unit c = rw c.from_residual.ensures (λ n. start_none c.args.self.now n c.in_err-unit.ensures)

pub returns-in_err-join : goal.returns-in_err-join
returns-in_err-join c = absurd (start_joins c.args.self.now.notes c.in_ok-unit.unit c.in_ok-unit.ensures c.in_err-join.ensures.told)

pub returns : goal.returns
returns c n = start_some c.args.self.now n c.in_ok-unit.unit c.in_ok-unit.ensures _ (c.join.ensures.left n)
