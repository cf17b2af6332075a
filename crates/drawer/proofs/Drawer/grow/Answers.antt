-- Assumes nothing.
use Rattle.std.proofs.Common.{rules}
use Rattle.store.specs.Meaning.{extended}
use Rattle.drawer.proofs.Drawer.grow.Goals as goal

pub returns : goal.returns
returns c = c.repeat.ensures (λ m. extended m 2 c.args.head 1) (λ p q r e n. search rules)
