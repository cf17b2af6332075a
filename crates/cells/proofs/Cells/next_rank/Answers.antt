-- Assumes nothing.
use Rattle.std.proofs.Common.{◌∙◌, arith}
use Rattle.cells.proofs.Joins.{told_longer, told_named}
use Rattle.cells.proofs.Paths.{ranks-path}
use Rattle.cells.proofs.Cells.next_rank.Goals as goal
use Rattle.cells.proofs.Cells.next_rank.Goals.{then-rank-gt0, else-rank-gt0}

pub returns : goal.returns
returns c =
    let s = c.args.self.now in
    let k = c.ranks-rank.ensures ∙ ranks-path s.notes c.args.head s.counted in
    c.then_some.ensures ∙ (elim c.if-rank-gt0.branch [
      | then-rank-gt0 w ↦ told_longer s.notes c.args.unit c.args.head _ k (omega (arith, s.counted)) c.if-is_some.ensures _ w.then_some-is w.if-rank-gt0.true
      | else-rank-gt0 w ↦ told_named s.notes c.args.unit c.args.head _ k (omega (arith, s.counted)) c.if-is_some.ensures _ w.then_some-is w.if-rank-gt0.false
    ])
