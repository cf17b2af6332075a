-- What going along a chain of a mini store tells.
-- Assumes nothing.
use Rattle.std.specs.Prelude.{◌≡◌, ℕ, ◌*◌, ◌≤◌, Some, None, Ok, Err, Result}
use Rattle.links.specs.Walk.{chain_of, surveyed}
use Rattle.store.specs.declared.faults.Refusal.TheVariants.{NotHead}
use Rattle.store.specs.declared.faults.StoreFault.{StoreFault}
use Rattle.store.specs.Refusals.{refused_by}
use Rattle.store.specs.Meaning.{due_copy}
use Rattle.minialloc.specs.States.{State, figures_in, meant_in}
use Rattle.minialloc.specs.declared.Found.{Found}

-- the figures, and the units and the place at a rank of the chain of h; or 14, where h is no head
abbrev pub Looks : State → ℕ → ℕ → Result Found StoreFault → Type 0
Looks s h rank (Ok f) = (figures_in s ≡ Some f.ground) × (surveyed (chain_of s.links h) rank ≡ Some f.chain)
Looks s h rank (Err f) = (f ≡ record { refusal = NotHead; layer = 3; place = h }) × ((meant_in s).chain h ≡ None)

-- the chain of h was gone along and has the bytes up to end; or the refusal that is due for a copy of them
abbrev pub Holds : State → ℕ → ℕ → Result Unit StoreFault → Type 0
Holds s h end (Ok _) = (f : Found) × Looks s h 0 (Ok f) × (end ≤ f.chain.units * 64)
Holds s h end (Err f) = due_copy (meant_in s) 3 h end ≡ Some (refused_by f)
