-- Assumes nothing.
use Rattle.std.proofs.Common.{sym, ◌∙◌, rules}
use Rattle.cells.proofs.Gives.{give_full, give_joins, give_left}
use Rattle.cells.proofs.Cells.give.Goals as goal

pub returns-in_err-unit-clause-told : goal.returns-in_err-unit-clause-told
returns-in_err-unit-clause-told c n layer =
    let k = give_full c.args.self.now n c.args.head _ layer (sym c.in_ok-ok_or.ensures.ok_part ∙ c.units.ensures) (sym c.in_err-unit.ensures.ok_part ∙ c.free_unit.ensures) in
    rw k (search rules)

pub returns-in_err-unit-clause-left : goal.returns-in_err-unit-clause-left
returns-in_err-unit-clause-left c n layer =
    let k = give_full c.args.self.now n c.args.head _ layer (sym c.in_ok-ok_or.ensures.ok_part ∙ c.units.ensures) (sym c.in_err-unit.ensures.ok_part ∙ c.free_unit.ensures) in
    rw k (search rules)

pub returns-in_err-ok_or-2 : goal.returns-in_err-ok_or-2
returns-in_err-ok_or-2 c = absurd (give_joins c.args.self.now.notes _ (sym c.in_ok-unit.ensures.ok_part ∙ c.free_unit.ensures) c.args.head _ (sym c.in_ok-ok_or.ensures.ok_part ∙ c.units.ensures)
    (sym c.in_err-ok_or-2.ensures.ok_part ∙ c.join.ensures.told))

pub returns-clause-left : goal.returns-clause-left
returns-clause-left c n layer = give_left c.args.self.now n _ (sym c.in_ok-unit.ensures.ok_part ∙ c.free_unit.ensures) c.args.head _ (sym c.in_ok-ok_or.ensures.ok_part ∙ c.units.ensures) layer _ (c.join.ensures.left n)
