-- Assumes nothing.
use Rattle.drawer.proofs.Told.{count_told}
use Rattle.drawer.proofs.Drawer.count.Goals as goal

pub returns : goal.returns
returns c = rw c.ok_or.ensures.value (count_told c.args.self.now c.args.head _ _ c.units.ensures c.at.ensures)
