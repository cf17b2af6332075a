-- Refusals by their numbers.
-- Assumes nothing.
use Rattle.std.specs.Fmt.{decimal}
use Rattle.std.specs.Prelude.{ℕ, List, [], ◌++◌, codes, Some, None, Ok, Err, Option, Result}
use Rattle.store.specs.declared.faults.Refusal.{Refusal}
use Rattle.store.specs.declared.faults.Refusal.TheVariants.{Shut, NotStream, PastLength, TooLong, NoRoom, DanglingPointer, SharedPointer, TableOverRoot, BadMinifat, BadRoot, BadStream, SharedHead, BadImage, NotHead, PastEnd, BadCount, NoEntry}
use Rattle.store.specs.declared.faults.StoreFault.{StoreFault}
use Rattle.store.specs.declared.faults.Fault.{Fault}

-- the number of each refusal
abbrev pub number_of : Refusal → ℕ
number_of Shut = 1
number_of NotStream = 2
number_of PastLength = 3
number_of TooLong = 4
number_of NoRoom = 5
number_of DanglingPointer = 6
number_of SharedPointer = 7
number_of TableOverRoot = 8
number_of BadMinifat = 9
number_of BadRoot = 10
number_of BadStream = 11
number_of SharedHead = 12
number_of BadImage = 13
number_of NotHead = 14
number_of PastEnd = 15
number_of BadCount = 16
number_of NoEntry = 17

-- number, layer and place of a store's fault, as they are printed
abbrev pub place_text : StoreFault → List ℕ
place_text f = decimal (number_of f.refusal) ++ (codes " layer " ++ (decimal f.layer ++ (codes " place " ++ decimal f.place)))

-- how a store's fault is printed
abbrev pub fault_text : StoreFault → List ℕ
fault_text f = codes "refused " ++ place_text f

-- how the store's fault behind another is printed, where there is one
abbrev pub cause_text : Option StoreFault → List ℕ
cause_text None = []
cause_text (Some f) = codes " by " ++ place_text f

-- how the fault of a layer above is printed: as a store's fault, and with the one behind it
abbrev pub whole_text : Fault → List ℕ
whole_text f = fault_text (record { refusal = f.refusal; layer = f.layer; place = f.place }) ++ cause_text f.lower

-- a store's refusal: number, layer, place
pub record Refused : Type 0 where
  pub number : ℕ
  pub layer : ℕ
  pub place : ℕ

abbrev pub refused_by : StoreFault → Refused
refused_by f = record { number = number_of f.refusal; layer = f.layer; place = f.place }

-- what a store's call told: its answer, or its refusal by number, layer and place
abbrev pub told : {A : Type 0} → Result A StoreFault → Result A Refused
told (Ok x) = Ok x
told (Err f) = Err (refused_by f)

-- the answer v, or the refusal that is due
abbrev pub answer : {A : Type 0} → Option Refused → A → Result A Refused
answer None v = Ok v
answer (Some f) v = Err f

-- what is left: the old where a refusal is due, else the new
abbrev pub unless : {A : Type 0} → Option Refused → A → A → A
unless None old new = new
unless (Some f) old new = old
