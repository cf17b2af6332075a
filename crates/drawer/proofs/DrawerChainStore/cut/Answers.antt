-- Assumes nothing.
use Rattle.std.proofs.Common.{refl, ◌∙◌, arith}
use Rattle.drawer.specs.Drawn.{drawn}
use Rattle.drawer.proofs.Told.{lawfully, cut_left}
use Rattle.drawer.proofs.DrawerChainStore.cut.Goals as goal

pub returns-clause-left : goal.returns-clause-left
returns-clause-left c =
    let d = c.args.self.now in
    c.shrink.ensures ∙ cut_left (drawn d) (lawfully d) refl c.args.head _ c.in_ok-units.ensures c.args.count c.if-count-eq0.false (omega arith)
