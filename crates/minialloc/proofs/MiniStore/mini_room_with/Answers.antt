-- Assumes nothing.
use Rattle.std.proofs.Common.{◌+◌, length, sym, ap, ◌∙◌}
use Rattle.rooms.specs.Rooms.{growth}
use Rattle.minialloc.proofs.Growing.{room_shut, room_grown}
use Rattle.minialloc.proofs.Lasting.{lasting}
use Rattle.minialloc.proofs.MiniStore.mini_room_with.Goals as goal

pub returns-in_default-clause-told : goal.returns-in_default-clause-told
returns-in_default-clause-told g c = room_shut c.args.self.now.state.0 c.args.more (sym c.in_default.is ∙ c.figures.ensures.told)

pub returns-clause-told : goal.returns-clause-told
returns-clause-told g c =
    room_grown (lasting g.H.ChainStore.lawful g.met.H.Host.hosted c.figures.new.self) c.figures.ensures.left c.in-Some.ground c.args.more c.room_over.result
    (sym c.figures.ensures.told ∙ c.in-Some.is)
    (c.room_over.ensures ∙ ap (λ x. length c.figures.new.self.state.0.stack + growth (record (c.in-Some.ground) { spare = x })) c.saturating_add-spare.ensures)
