-- Assumes nothing.
use Rattle.std.proofs.Common.{sym, subst}
use Rattle.workbook.specs.Whole.{Holds}
use Rattle.workbook.proofs.Workbook.room_for.Goals as goal

pub invariant_of-self : goal.invariant_of-self
invariant_of-self g c = record { whole = subst Holds (sym c.mini_room_with.ensures.left) c.args.self.now.whole }

pub invariant_of-self-in_default : goal.invariant_of-self-in_default
invariant_of-self-in_default g c = record { whole = subst Holds (sym c.room.ensures.left) c.args.self.now.whole }
