-- Assumes nothing.
use Rattle.workbook.proofs.homes.Home.write.Goals as goal

pub returns-in-Mini-clause-left : goal.returns-in-Mini-clause-left
returns-in-Mini-clause-left g c = let t = c.write_mini_chain.ensures in rw c.in-Mini.is (t.left, t.writes, (t.stays, t.sound))
