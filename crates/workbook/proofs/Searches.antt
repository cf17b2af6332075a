-- The loops that search for the first fault.
-- Assumes nothing.
use Rattle.std.proofs.Common.{◌≡◌, ℕ, ◌+◌, ◌<◌, ◌≤◌, Some, None, Ok, Err, Option, Result, sym, ap, ◌∙◌, ⊎_elim, arith}
use Rattle.std.proofs.lemmas.Bool.{cases_lt}
use Rattle.std.specs.Option.{option_or}
use Rattle.links.specs.Check.{first_of, settled}
use Rattle.links.proofs.Searches.{first_none, first_some, none_settled, some_settled}
use Rattle.minifat.specs.Told.{Faulted}
use Rattle.minialloc.specs.States.{State}

-- the ids below n have no fault, and the state is as it was
pub record Searched (F : State → ℕ → Option Faulted) (s x : State) (n : ℕ) : Type 0 where
  pub left : x ≡ s
  pub none : (k : ℕ) → k < n → F s k ≡ None

module _ (F : State → ℕ → Option Faulted) (s x : State) (k : ℕ) (so : Searched F s x k) where
  pub searched_some : (n : ℕ) (f : Faulted) → k < n → ◌≡◌ {A = Result (Unit {0}) Faulted} (Err f) (settled (F x k) tt)
      → ◌≡◌ {A = Result (Unit {0}) Faulted} (Err f) (settled (first_of (F s) n 0) tt)
  searched_some n f l t =
      let here : F s k ≡ Some f = ap (λ z. F z k) (sym so.left) ∙ some_settled _ tt f (sym t) in
      ap (λ o. settled o tt) (sym (first_some (F s) n 0 k f (omega arith) (omega arith) here so.none))

  pub searched_all : (n : ℕ) → n ≤ k → ◌≡◌ {A = Result (Unit {0}) Faulted} (Ok tt) (settled (first_of (F s) n 0) tt)
  searched_all n l = ap (λ o. settled o tt) (sym (first_none (F s) n 0 (λ j m. so.none j (omega arith))))

  -- and on to the next id
  pub searched_on : (y : State) → y ≡ x → ◌≡◌ {A = Result (Unit {0}) Faulted} (Ok tt) (settled (F x k) tt) → Searched F s y (k + 1)
  searched_on y e t =
      let here : F s k ≡ None = ap (λ z. F z k) (sym so.left) ∙ (none_settled (F x k) tt tt (sym t)).0 in
      record { left = e ∙ so.left; none = λ j l. ⊎_elim (λ q. so.none j q) (λ q. ap (F s) (omega (arith, l, q)) ∙ here) (cases_lt j k) }

-- a search after one that found nothing
pub then_settled : (o p : Option Faulted) (r : Result (Unit {0}) Faulted) → ◌≡◌ {A = Result (Unit {0}) Faulted} (Ok tt) (settled o tt) → r ≡ settled p tt → r ≡ settled (option_or o p) tt
then_settled o p r n e = e ∙ ap (λ x. settled (option_or x p) tt) (sym (none_settled o tt tt (sym n)).0)
