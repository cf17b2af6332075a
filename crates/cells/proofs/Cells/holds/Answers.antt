-- Assumes nothing.
use Rattle.std.proofs.Common.{◌+◌, sym, refl, ◌∙◌, arith}
use Rattle.std.proofs.lemmas.Bool.{leb-true, leb-false}
use Rattle.cells.proofs.Along.{copy_yes, copy_no}
use Rattle.cells.proofs.Cells.holds.Goals as goal

pub returns-then-within : goal.returns-then-within
returns-then-within c n layer =
    let units = sym c.in_ok-units.ensures.ok_part ∙ c.units.ensures in
    rw (copy_yes c.args.self.now n c.args.head _ (c.args.at + c.args.count) layer units (omega (arith, leb-true _ _ (sym c.within.ensures ∙ c.if-within.true), c.from.ensures))) refl

pub returns-else-within : goal.returns-else-within
returns-else-within c n layer =
    let units = sym c.in_ok-units.ensures.ok_part ∙ c.units.ensures in
    rw (copy_no c.args.self.now n c.args.head _ (c.args.at + c.args.count) layer units (omega (arith, leb-false _ _ (sym c.within.ensures ∙ c.if-within.false), c.from.ensures))) refl
