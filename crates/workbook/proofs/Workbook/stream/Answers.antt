-- Assumes nothing.
use Rattle.std.proofs.Common.{sym, subst}
use Rattle.workbook.specs.Whole.{Holds}
use Rattle.workbook.proofs.Workbook.stream.Goals as goal

pub invariant_of-self : goal.invariant_of-self
invariant_of-self g c = record { whole = subst Holds (sym c.entry-found.ensures.left) c.args.self.now.whole }
