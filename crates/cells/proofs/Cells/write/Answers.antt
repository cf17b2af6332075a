-- Assumes nothing.
use Rattle.std.proofs.Common.{rules, arith, sym, ◌∙◌, refl}
use Rattle.cells.proofs.Along.{no_notes, accepted, refused, cells_whole, within-content, within_small, some_due, wrote_none, wrote-meant}
use Rattle.cells.proofs.Cells.write.Goals as goal

pub returns-then-is_nothing-clause-told : goal.returns-then-is_nothing-clause-told
returns-then-is_nothing-clause-told c n layer = rw (sym c.is_nothing.ensures ∙ c.if-is_nothing.true) refl

pub returns-then-is_nothing-clause-left : goal.returns-then-is_nothing-clause-left
returns-then-is_nothing-clause-left c n layer = wrote_none c.args.self.now n c.args.head c.args.at layer c.args.src.now (sym c.is_nothing.ensures ∙ c.if-is_nothing.true)

pub returns-in_err-holds-clause-told : goal.returns-in_err-holds-clause-told
returns-in_err-holds-clause-told c n layer = rw (some_due _ _ _ _ (sym c.is_nothing.ensures ∙ c.if-is_nothing.false), ← c.in_err-holds.ensures n layer) (search rules)

pub returns-clause-told : goal.returns-clause-told
returns-clause-told c n layer = rw (some_due _ _ _ _ (sym c.is_nothing.ensures ∙ c.if-is_nothing.false)) (c.in_ok-holds.ensures n layer)

pub returns-in_err-holds-clause-left : goal.returns-in_err-holds-clause-left
returns-in_err-holds-clause-left c n layer = refused _ _ _ _ (c.in_err-holds.ensures n layer)

pub write_chain-requires : goal.write_chain-requires
write_chain-requires c =
    let s = c.args.self.now in
    let due = accepted _ (c.in_ok-holds.ensures no_notes 0) in
    record { sound = cells_whole s; whole = within-content s no_notes c.args.head _ 0 due; fits = omega (arith, within_small s no_notes c.args.head _ 0 due) }

pub returns-clause-left : goal.returns-clause-left
returns-clause-left c n layer = wrote-meant c.args.self.now c.write_chain.new.s n c.args.head c.args.at layer c.args.src.now c.write_chain.ensures.wrote (accepted _ (c.in_ok-holds.ensures n layer))
