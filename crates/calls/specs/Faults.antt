-- Why a text is not read.
-- Assumes nothing.
use Rattle.std.specs.Prelude.{◌≡◌, ℕ, List, None, Err, Option, Result}
use Rattle.calls.specs.declared.faults.Fault.{Fault}
use Rattle.calls.specs.declared.faults.Fault.TheVariants.{Wrong, Memory}

-- what a fault tells of a reading: that it ends with what is wrong, as it is named; nothing is known where there was no memory
abbrev pub Tells : {A E F : Type 0} → (E → F) → Fault E → Result A F → Type 0
Tells named (Wrong e) o = o ≡ Err (named e)
Tells named (Memory e) o = Unit {0}

-- how a fault is printed; the library does not say how it prints that there is no memory
abbrev pub fault_text : {E : Type 0} → (E → Option (List ℕ)) → Fault E → Option (List ℕ)
fault_text text (Wrong e) = text e
fault_text text (Memory e) = None
