-- Assumes nothing.
use Rattle.std.proofs.Common.{refl, ◌∙◌}
use Rattle.drawer.specs.Drawn.{drawn}
use Rattle.drawer.proofs.Told.{lawfully, free_left}
use Rattle.drawer.proofs.DrawerChainStore.free.Goals as goal

pub returns-clause-left : goal.returns-clause-left
returns-clause-left c =
    let d = c.args.self.now in c.shrink.ensures ∙ free_left (drawn d) (lawfully d) refl c.args.head _ c.in_ok-units.ensures
