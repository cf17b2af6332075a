-- Assumes nothing.
use Rattle.std.proofs.Common.{sym, ◌∙◌}
use Rattle.cells.proofs.Gives.{rest_sound, part_left, part_none}
use Rattle.cells.proofs.Cells.take_back.Goals as goal

pub returns-in_err-unit : goal.returns-in_err-unit
returns-in_err-unit c = absurd (part_none c.args.self.now c.args.head _ 0 (sym c.in_ok-count.ensures.ok_part ∙ c.units.ensures) (sym c.in_err-unit.ensures.ok_part ∙ c.find.ensures))

pub invariant_of-self : goal.invariant_of-self
invariant_of-self c =
    let k = rest_sound c.args.self.now c.args.head _ _ (sym c.in_ok-count.ensures.ok_part ∙ c.units.ensures) (sym c.in_ok-unit.ensures.ok_part ∙ c.find.ensures) in
    record { counted = k.counted; filled = c.args.self.now.filled; unique = k.unique; down = k.down; named = k.named }

pub returns-clause-left : goal.returns-clause-left
returns-clause-left c = part_left c.args.self.now c.args.head _ _ (sym c.in_ok-count.ensures.ok_part ∙ c.units.ensures) (sym c.in_ok-unit.ensures.ok_part ∙ c.find.ensures)
