-- Assumes nothing.
use Rattle.std.proofs.Common.{of_calls}
use Rattle.minialloc.proofs.Growing.{room_told}
use Rattle.minialloc.proofs.Lasting.{lasting}
use Rattle.minialloc.proofs.MiniStore.mini_room.Goals as goal

pub returns-clause-told : goal.returns-clause-told
returns-clause-told g c =
    room_told (lasting g.H.ChainStore.lawful g.met.H.Host.hosted c.figures.new.self) c.figures.ensures.left c.figures.result c.map_or.result c.figures.ensures.told c.map_or.ensures (λ x p. search of_calls)
