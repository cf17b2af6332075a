-- Assumes nothing.
use Rattle.std.proofs.Common.{sym, ◌∙◌}
use Rattle.cells.proofs.Along.{next_there, next_some}
use Rattle.cells.proofs.copies.CellsUnits.next.Goals as goal

pub unwrap-requires : goal.unwrap-requires
unwrap-requires c = rw c.find.ensures (next_there c.args.self.now c.args.head c.args.rank c.requires.more)

pub returns-clause-next : goal.returns-clause-next
returns-clause-next c = next_some c.args.self.now c.args.head c.args.rank c.requires.more _ (sym c.unwrap.ensures ∙ c.find.ensures)
