-- Assumes nothing.
use Rattle.workbook.proofs.homes.Home.free.Goals as goal

pub returns-in-Mini-clause-left : goal.returns-in-Mini-clause-left
returns-in-Mini-clause-left g c = let t = c.free_mini_chain.ensures in rw c.in-Mini.is (t.left, t.frees, (t.stays, t.sound))
