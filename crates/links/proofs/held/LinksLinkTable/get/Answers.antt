-- Assumes nothing.
use Rattle.std.proofs.Common.{arith}
use Rattle.links.proofs.Prefix.{held_some, held_none}
use Rattle.links.proofs.held.LinksLinkTable.get.Goals as goal

pub returns-then-place-self : goal.returns-then-place-self
returns-then-place-self c = held_some c.args.self.now.links c.args.self.now.count (omega arith) c.args.place (omega arith)

pub returns-else-place-self : goal.returns-else-place-self
returns-else-place-self c = held_none c.args.self.now.links c.args.self.now.count (omega arith) c.args.place (omega arith)
