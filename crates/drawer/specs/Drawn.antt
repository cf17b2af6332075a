-- What a drawer means.
-- Assumes nothing.
use Rattle.std.specs.Prelude.{◌≡◌, ℕ, zero, suc, None, Result}
use Rattle.std.specs.Borrow.{MutBor}
use Rattle.links.specs.Links.{END}
use Rattle.store.specs.declared.faults.Refusal.{Refusal}
use Rattle.store.specs.Meaning.{Store, Notes}
use Rattle.cells.specs.Meant.{meant}
use Rattle.cells.specs.declared.Cells.{Cells}
use Rattle.drawer.specs.declared.Drawer.{Drawer}
use Rattle.drawer.specs.Entries.{all_empty}

-- its entries and words are its notes
abbrev pub noted : Drawer → Notes
noted d = record { entries = d.table.entries; words = d.words; others = λ k. None }

abbrev pub drawn : Drawer → Store
drawn d = meant d.cells (noted d)

-- a step taken n times
abbrev pub times : ℕ → (Store → Store) → Store → Store
times zero f m = m
times (suc n) f m = f (times n f m)

-- that calls on units, whatever notes they have, come to the step f
abbrev pub Steps : (MutBor Cells → Result (Unit {0}) Refusal → MutBor Cells → Type 0) → (Store → Store) → Type 0
Steps Called f =
    (p q : MutBor Cells) (r : Result (Unit {0}) Refusal) → Called p r q → (n : Notes) → meant q.now n ≡ f (meant p.now n)

-- a fresh one: no chain, 64 units of room, and empty entries
abbrev pub fresh : Store
fresh = record {
  unit = 512;
  chain = λ h. None;
  room = 64;
  notes = record { entries = all_empty; words = record { start = END; count = 0 }; others = λ k. None };
}
