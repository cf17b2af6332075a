-- Assumes nothing.
use Rattle.std.proofs.Common.{refl}
use Rattle.workbook.proofs.Promises.{promise}
use Rattle.workbook.proofs.Workbook.links.Goals as goal

pub returns : goal.returns
returns g c = promise g.H.ChainStore.lawful g.met.H.Host.hosted g.H.ChainStore.LAYER c.args.self.now c.args.self.now.store _ (c.links.ensures, refl)
