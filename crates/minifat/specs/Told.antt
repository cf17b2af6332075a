-- Faults of the layers above a store, by their numbers.
-- Assumes nothing.
use Rattle.std.specs.Prelude.{ℕ, Ok, Err, Option, Result}
use Rattle.std.specs.Option.{option_map}
use Rattle.store.specs.declared.faults.Fault.{Fault}
use Rattle.store.specs.declared.faults.Refusal.{Refusal}
use Rattle.store.specs.declared.faults.StoreFault.{StoreFault}
use Rattle.store.specs.Refusals.{Refused, number_of, refused_by}

-- number, layer, place, and the refusal of the store that caused it, where one did
pub record Faulted : Type 0 where
  pub number : ℕ
  pub layer : ℕ
  pub place : ℕ
  pub lower : Option Refused

-- those of a fault
abbrev pub fault_of : Fault → Faulted
fault_of f = record { number = number_of f.refusal; layer = f.layer; place = f.place; lower = option_map refused_by f.lower }

-- what a call told: what its answer means, or its fault by its numbers
abbrev pub told_of : {A B : Type 0} → (A → B) → Result A Fault → Result B Faulted
told_of f (Ok x) = Ok (f x)
told_of f (Err e) = Err (fault_of e)

-- a fault of the mini store, at no place of its own
abbrev pub fault_by : Refusal → Option StoreFault → Fault
fault_by k f = record { refusal = k; layer = 3; place = 0; lower = f }
