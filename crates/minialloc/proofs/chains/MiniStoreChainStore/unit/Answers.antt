-- Assumes nothing.
use Rattle.std.proofs.Common.{sym}
use Rattle.mini.proofs.Told.{mini_unit}
use Rattle.links.specs.Stacked.{table_of, stack_of}
use Rattle.minialloc.proofs.chains.MiniStoreChainStore.unit.Goals as goal

pub returns-clause-told : goal.returns-clause-told
returns-clause-told g c = let self = c.args.self.now in rw self.state.1 (sym (mini_unit _ (g.H.ChainStore.meaning self.host) (table_of self.table) (stack_of self.table)))
