-- Assumes nothing.
use Rattle.std.proofs.Common.{arith}
use Rattle.drawer.specs.Drawn.{noted}
use Rattle.drawer.proofs.Times.{times_more, times_all}
use Rattle.drawer.proofs.Drawer.repeat.Goals as goal

pub loop-preserved : goal.loop-preserved
loop-preserved g c f s = times_more c.loop.counter _ _ _ _ (c.loop.invariant f s) (s _ _ _ c.step.ensures (noted c.loop.self))

pub returns : goal.returns
returns g c f s = times_all c.loop.counter c.args.count _ _ _ (omega arith) (omega arith) (c.loop.invariant f s)
