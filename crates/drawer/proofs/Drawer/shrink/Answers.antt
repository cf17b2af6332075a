-- Assumes nothing.
use Rattle.std.proofs.Common.{rules}
use Rattle.cells.specs.Stored.{taken_back}
use Rattle.drawer.proofs.Drawer.shrink.Goals as goal

pub returns : goal.returns
returns c = c.repeat.ensures (λ m. taken_back m c.args.head) (λ p q r e n. search rules)
