-- A fresh drawer is not refused: its table is read as the empty one.
-- Assumes nothing.
use Rattle.std.proofs.Common.{◌≡◌, ℕ, true, List, [], Ok, Err, Result, refl, sym, ap, ◌∙◌}
use Rattle.drawer.specs.Drawn.{drawn, fresh}
use Rattle.minifat.specs.Table.{table_in, table_of}
use Rattle.minifat.specs.Told.{Faulted, told_of, fault_of}
use Rattle.cfbook.proofs.minis.fresh.Goals as goal

empty_there : ◌≡◌ {A = Result (List ℕ) Faulted} (table_of fresh 2 true) (Ok [])
empty_there = refl

pub returns-in_default : goal.returns-in_default
returns-in_default c =
    let s = c.new-store.result in
    let h = ap (λ y. y.host) s.state.1 ∙ ap drawn c.new-store.ensures.host ∙ c.new.ensures in
    let q : ◌≡◌ {A = Result (List ℕ) Faulted} (Err (fault_of c.in_default.field-0)) (Ok []) =
    sym (ap (told_of table_in) c.in_default.is) ∙ c.read_table.ensures.told ∙ ap (λ y. table_of y 2 true) h ∙ empty_there in
    cc
