-- Assumes nothing.
use Rattle.workbook.proofs.Promises.{making}
use Rattle.workbook.proofs.Workbook.new.Goals as goal

pub returns : goal.returns
returns g c = making g.H.ChainStore.lawful g.met.H.Host.hosted g.H.ChainStore.LAYER c.new.result (g.H.ChainStore.meaning c.args.host) c.new.ensures.shut
