-- Assumes nothing.
use Rattle.workbook.proofs.homes.Home.extend.Goals as goal

pub returns-in-Mini-clause-left : goal.returns-in-Mini-clause-left
returns-in-Mini-clause-left g c = let t = c.extend_mini_chain.ensures in rw c.in-Mini.is (t.left, t.taken, (t.stays, t.sound))
