-- Assumes nothing.
use Rattle.std.proofs.Common.{rules, sym, refl, ap, ◌∙◌, arith}
use Rattle.minialloc.specs.States.{hosted_by}
use Rattle.minialloc.proofs.Growing.{prepared}
use Rattle.minialloc.proofs.MiniStore.prepare.Goals as goal

pub returns-then-count-room_over : goal.returns-then-count-room_over
returns-then-count-room_over g c = (omega (arith, c.if-count-room_over.true, c.room_over.ensures), c.at.ensures, refl)

pub returns : goal.returns
returns g c =
    let is = c.args.self.now.state.1 in
    let v = g.H.ChainStore.meaning c.reserve.new.host in
    prepared g.H.ChainStore.MOST g.H.ChainStore.LAYER c.args.self.now.state.0 c.args.ground c.args.count c.free_places-free.result c.saturating_sub.result _ v _
    (omega (arith, c.if-count-room_over.false, c.room_over.ensures)) c.free_places-free.ensures c.saturating_sub.ensures (sym (ap (λ x. x.host) is)) c.reserve.ensures
    (search rules ∙ ap (λ x. hosted_by x v) (sym is))
