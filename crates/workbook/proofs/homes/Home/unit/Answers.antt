-- Assumes nothing.
use Rattle.std.proofs.Common.{sym}
use Rattle.mini.proofs.Told.{mini_unit}
use Rattle.workbook.proofs.homes.Home.unit.Goals as goal

pub returns-in-Mini-clause-told : goal.returns-in-Mini-clause-told
returns-in-Mini-clause-told g c = let s = c.args.store.now.state.0 in rw c.in-Mini.is (sym (mini_unit s.opened s.host s.links s.stack))
