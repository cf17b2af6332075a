-- Assumes nothing.
use Rattle.minialloc.proofs.Copies.{units_told}
use Rattle.minialloc.proofs.Lasting.{lasting, seen}
use Rattle.minialloc.proofs.MiniStore.mini_units.Goals as goal

pub returns-clause-told : goal.returns-clause-told
returns-clause-told g c =
    units_told (seen (lasting g.H.ChainStore.lawful g.met.H.Host.hosted c.look.new.self) c.look.ensures.left c.args.head 0 c.in_ok-found.found c.in_ok-found.ensures.told)
