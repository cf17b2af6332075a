-- What the units in memory mean.
-- Assumes nothing.
use Rattle.std.specs.Prelude.{◌≡◌, ℕ, ◌-◌, ◌<◌, cond, Some, None, Ok, Err, Option, Result, ◌==◌}
use Rattle.store.specs.declared.faults.Refusal.{Refusal}
use Rattle.store.specs.Meaning.{Store, Notes, zeros, with_chain, due_copy}
use Rattle.store.specs.Refusals.{Refused, number_of, answer}
use Rattle.cells.specs.declared.Cells.{Cells}
use Rattle.cells.specs.Stored.{stored}

-- as a store, with any notes
abbrev pub meant : Cells → Notes → Store
meant c n = stored c.notes c.bytes n

-- what a call told, as a store of that layer tells it, with the place
abbrev pub told_by : {A : Type 0} → ℕ → ℕ → Result A Refusal → Result A Refused
told_by layer place (Ok x) = Ok x
told_by layer place (Err r) = Err (record { number = number_of r; layer = layer; place = place })

-- that a call at a place told what is due there: of each layer, with any notes
abbrev pub Tells : Cells → ℕ → (Store → ℕ → Option Refused) → Result (Unit {0}) Refusal → Type 0
Tells c place due r = (n : Notes) (layer : ℕ) → told_by layer place r ≡ answer (due (meant c n) layer) tt

-- what is due for a copy of the bytes up to end: as of a store, but that none up to 0 can be copied of what is no head too
abbrev pub due_bytes : Store → ℕ → ℕ → ℕ → Option Refused
due_bytes m layer h end = cond (end == 0) None (due_copy m layer h end)

-- what a new head is: it was none, and its chain is one unit of zeros
abbrev pub Starts : Option ℕ → Store → Store → Type 0
Starts None m after = (m.room ≡ 0) × (after ≡ m)
Starts (Some h) m after =
    (0 < m.room) × (h < 64) × (m.chain h ≡ None) × (after ≡ with_chain m h (Some (zeros m 1)) (m.room - 1))
