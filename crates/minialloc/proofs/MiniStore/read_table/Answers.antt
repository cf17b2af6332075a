-- Assumes nothing.
use Rattle.minifat.specs.Table.{strictly}
use Rattle.minialloc.proofs.Openings.{read_synced}
use Rattle.minialloc.proofs.MiniStore.read_table.Goals as goal

pub returns-clause-sound : goal.returns-clause-sound
returns-clause-sound g c =
    rw c.args.self.now.state.1 (read_synced (g.H.ChainStore.meaning c.args.self.now.host) g.H.ChainStore.LAYER (strictly c.args.validation) c.read_table.result c.read_table.ensures.told)
