-- Assumes nothing.
use Rattle.std.proofs.Common.{arith}
use Rattle.drawer.specs.Drawn.{noted, drawn}
use Rattle.drawer.proofs.Told.{begin_some, begin_none}
use Rattle.drawer.proofs.DrawerChainStore.begin.Goals as goal

pub returns-in_err-head : goal.returns-in_err-head
returns-in_err-head c =
    let d = c.args.self.now in
    absurd (begin_none (drawn d) _ 0 c.args.count c.if-count-eq0.false (omega arith) (rw c.in_err-head.ensures.ok_part at (c.start.ensures (noted d))))

pub returns-clause-begins : goal.returns-clause-begins
returns-clause-begins c =
    let d = c.args.self.now in
    rw c.grow.ensures (begin_some (drawn d) _ c.in_ok-head.head c.args.count c.if-count-eq0.false (omega arith) (rw c.in_ok-head.ensures.ok_part at (c.start.ensures (noted d))))
