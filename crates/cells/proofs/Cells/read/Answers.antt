-- Assumes nothing.
use Rattle.std.proofs.Common.{length, take, drop, sym, ap, ◌∙◌, rules, arith, refl}
use Rattle.cells.proofs.Along.{no_notes, accepted, refused, cells_whole, within-content, within_small, same_units, some_due, read_none}
use Rattle.cells.specs.Meant.{meant}
use Rattle.cells.proofs.Paths.{sound_of}
use Rattle.cells.proofs.Stores.{bytes_content}
use Rattle.cells.proofs.Cells.read.Goals as goal

pub returns-then-is_nothing-clause-told : goal.returns-then-is_nothing-clause-told
returns-then-is_nothing-clause-told c n layer = rw (sym c.is_nothing.ensures ∙ c.if-is_nothing.true) refl

pub returns-then-is_nothing-clause-out : goal.returns-then-is_nothing-clause-out
returns-then-is_nothing-clause-out c n layer = read_none (meant c.args.self.now n) layer c.args.head c.args.at c.args.out.now (sym c.is_nothing.ensures ∙ c.if-is_nothing.true)

pub returns-in_err-holds-clause-told : goal.returns-in_err-holds-clause-told
returns-in_err-holds-clause-told c n layer = rw (some_due _ _ _ _ (sym c.is_nothing.ensures ∙ c.if-is_nothing.false), ← c.in_err-holds.ensures n layer) (search rules)

pub returns-clause-told : goal.returns-clause-told
returns-clause-told c n layer = rw (some_due _ _ _ _ (sym c.is_nothing.ensures ∙ c.if-is_nothing.false)) (c.in_ok-holds.ensures n layer)

pub returns-in_err-holds-clause-out : goal.returns-in_err-holds-clause-out
returns-in_err-holds-clause-out c n layer = refused _ _ _ _ (c.in_err-holds.ensures n layer)

pub read_chain-requires : goal.read_chain-requires
read_chain-requires c =
    let s = c.args.self.now in
    let due = accepted _ (c.in_ok-holds.ensures no_notes 0) in
    record { sound = cells_whole s; whole = within-content s no_notes c.args.head _ 0 due; fits = omega (arith, within_small s no_notes c.args.head _ 0 due) }

pub returns-clause-out : goal.returns-clause-out
returns-clause-out c n layer =
    let s = c.args.self.now in
    rw (accepted _ (c.in_ok-holds.ensures n layer))
    (c.read_chain.ensures.read ∙ ap (λ xs. take (length c.args.out.now) (drop c.args.at xs)) (sym (bytes_content s.notes (sound_of s) s.bytes s.filled n c.args.head)))

pub returns-clause-left : goal.returns-clause-left
returns-clause-left c = same_units c.args.self.now c.read_chain.new.s c.read_chain.ensures.same
