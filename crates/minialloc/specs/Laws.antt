-- What always holds of a mini store, shut or open: the laws of the trait that it implements.
-- Assumes nothing.
use mathlib.Core.Path.{subst, sym}
use Rattle.std.proofs.Common.{ℕ, Bool}
use Rattle.links.specs.declared.stacked.Stacked.{Stacked}
use Rattle.store.specs.Meaning.{Store, Lawful}
use Rattle.mini.proofs.Laws.{stacked_lawful}
use Rattle.minialloc.specs.States.{State, Shown, state_in, meant_in}

pub lawful_shown : (o : Bool) (s : Store) (t : Stacked) (x : Shown (state_in o s t)) (most : ℕ) → Lawful most s → Lawful 4096 (meant_in x.0)
lawful_shown o s t x most ok = subst (λ (y : State). Lawful 4096 (meant_in y)) (sym x.1) (stacked_lawful t s most o ok)
