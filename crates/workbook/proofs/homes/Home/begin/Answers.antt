-- Assumes nothing.
use Rattle.workbook.proofs.homes.Home.begin.Goals as goal

pub returns-in-Mini : goal.returns-in-Mini
returns-in-Mini g c = let t = c.begin_mini_chain.ensures in rw c.in-Mini.is (record { left = (t.begins, t.taken, (t.stays, t.sound)) })
