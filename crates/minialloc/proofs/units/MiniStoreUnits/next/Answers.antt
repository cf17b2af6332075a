-- Assumes nothing.
use Rattle.std.proofs.Common.{refl}
use Rattle.minialloc.proofs.Links.{next_told, place_told}
use Rattle.minialloc.proofs.units.MiniStoreUnits.next.Goals as goal

pub unwrap-requires : goal.unwrap-requires
unwrap-requires g c =
    let self = c.args.self.now in
    rw (next_told self.opened (g.H.ChainStore.meaning self.host) self.table c.requires.sound _ _ _ c.requires.here c.requires.more _ _ c.links.ensures.told c.get.ensures) refl

pub returns-clause-next : goal.returns-clause-next
returns-clause-next g c =
    let self = c.args.self.now in
    place_told _ _ _
    (next_told self.opened (g.H.ChainStore.meaning self.host) self.table c.requires.sound _ _ _ c.requires.here c.requires.more _ _ c.links.ensures.told c.get.ensures)
    c.unwrap.ensures
