-- A reading that goes on, or stops at a fault.
-- Assumes nothing.
use Rattle.std.proofs.Common.{◌≡◌, ℕ, List, Ok, Result, sym, ap, ◌∙◌}
use Rattle.calls.specs.Tables.{Stop, onward, Stops}
use Rattle.calls.specs.declared.tables.BadWord.{BadWord}
use Rattle.calls.specs.declared.faults.Fault.{Fault}
use Rattle.calls.specs.declared.faults.Fault.TheVariants.{Wrong, Memory}

-- what one step and the rest of a reading say, once the step is known
module _ (one : Result (List ℕ) Stop) (rest : List ℕ → Result (List ℕ) Stop) (all : Result (List ℕ) Stop) (here : onward one (λ s. s) rest ≡ all) where
  pub goes : (M : List ℕ) → one ≡ Ok M → rest M ≡ all
  goes M e = sym (ap (λ r. onward r (λ s. s) rest) e) ∙ here

  pub stops : (f : Fault BadWord) → Stops f one → Stops f all
  stops (Wrong b) e = sym here ∙ ap (λ r. onward r (λ s. s) rest) e
  stops (Memory x) e = tt
