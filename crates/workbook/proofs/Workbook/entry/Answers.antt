-- Assumes nothing.
use Rattle.std.proofs.Common.{sym, subst}
use Rattle.workbook.specs.Whole.{Holds}
use Rattle.workbook.proofs.Promises.{promise}
use Rattle.workbook.proofs.Workbook.entry.Goals as goal

pub returns : goal.returns
returns g c = promise g.H.ChainStore.lawful g.met.H.Host.hosted g.H.ChainStore.LAYER c.args.self.now c.entry.new.self _ (c.entry.ensures.told, c.entry.ensures.left)

pub invariant_of-self : goal.invariant_of-self
invariant_of-self g c = record { whole = subst Holds (sym c.entry.ensures.left) c.args.self.now.whole }
