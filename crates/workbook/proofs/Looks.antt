-- What is found of one stream.
-- Assumes nothing.
use Rattle.std.proofs.Common.{◌≡◌, ℕ, ◌≢◌, Bool, true, false, not, eqb, cond, List, Some, None, Ok, Option, MatchOption, sym, ap, ◌∙◌}
use Rattle.std.specs.Prelude.{is_some}
use Rattle.std.specs.Option.{option_or}
use Rattle.std.proofs.lemmas.Bool.{ne_eqb, eq-eqb}
use Rattle.store.specs.declared.entries.Entry.{Entry}
use Rattle.store.specs.Extents.{possible}
use Rattle.minialloc.specs.States.{State}
use Rattle.workbook.specs.declared.homes.Home.{Home}
use Rattle.workbook.specs.Sights.{seen, home_of, needed}
use Rattle.workbook.specs.Refusals.{refuse}
use Rattle.workbook.specs.Opening.{fault_if, units_by, units_fault, extent_fault}

pub can_be : {X : Type 0} (o : Option X) (b : Bool) (R S : X → Type 0) → MatchOption o (b ≡ false) (λ x. (b ≡ true) × R x × S x) → is_some o ≡ true → b ≡ true
can_be None b R S m e = cc
can_be (Some x) b R S m e = m.0

-- start and length go together, and there are bytes: the chain's units were told, and those that are needed
module _ (s : State) (layer : ℕ) (L : List ℕ) (id : ℕ) (e : Entry) (can : possible e.start e.length ≡ true) (some : e.length ≢ 0)
    (home : Home) (is : home ≡ home_of e.length) (n want : ℕ) (told : Ok n ≡ units_by s layer L home e.start) (need : want ≡ needed (seen s) home e.length) where
  by_units : extent_fault s layer L id e ≡ units_fault (Ok n) want id
  by_units =
      ap (λ b. option_or (fault_if (not b) (refuse 11 id None)) (cond (eqb e.length 0) None (units_fault (units_by s layer L (home_of e.length) e.start) (needed (seen s) (home_of e.length) e.length) id))) can
      ∙ ap (λ b. cond b None (units_fault (units_by s layer L (home_of e.length) e.start) (needed (seen s) (home_of e.length) e.length) id)) (ne_eqb e.length 0 some)
      ∙ ap (λ h. units_fault (units_by s layer L h e.start) (needed (seen s) h e.length) id) (sym is)
      ∙ ap (λ r. units_fault r (needed (seen s) home e.length) id) (sym told)
      ∙ ap (λ w. units_fault (Ok n) w id) (sym need)

  pub wrong_units : n ≢ want → extent_fault s layer L id e ≡ Some (refuse 11 id None)
  wrong_units d = by_units ∙ ap (λ b. fault_if (not b) (refuse 11 id None)) (ne_eqb n want d)

  pub right_units : n ≡ want → extent_fault s layer L id e ≡ None
  right_units q = by_units ∙ ap (λ b. fault_if (not b) (refuse 11 id None)) (eq-eqb n want q)
