-- What the calls on a chain make of the state, in the store that the chain is in. layer is the host's layer, most the most
-- units that it has.
-- Assumes nothing.
use Rattle.std.specs.Prelude.{◌≡◌, ℕ, Bool, true, false, List, Result}
use Rattle.store.specs.Refusals.{Refused}
use Rattle.store.specs.Meaning.{Store, wrote, extended, cut_to, freed, Begins}
use Rattle.minialloc.specs.States.{State, meant_in, SyncedIn, Sound, Writes, BeginsChain, ExtendsChain, CutsChain, FreesChain}
use Rattle.workbook.specs.declared.homes.Home.{Home}
use Rattle.workbook.specs.declared.homes.Home.TheVariants.{Mini, Host}

abbrev pub store_in : State → Home → Store
store_in s Mini = meant_in s
store_in s Host = s.host

abbrev pub layer_in : ℕ → Home → ℕ
layer_in layer Mini = 3
layer_in layer Host = layer

abbrev pub same_home : Home → Home → Bool
same_home Mini Mini = true
same_home Mini Host = false
same_home Host Mini = false
same_home Host Host = true

-- the state over another host
abbrev pub over : State → Store → State
over s m = record s { host = m }

-- what every call of the mini store keeps: that it is open over a host that bears it out, and that the MiniFAT's bytes are
-- its links
abbrev pub Keeps : State → State → Type 0
Keeps s after = (Sound s → Sound after) × (SyncedIn s → SyncedIn after)

abbrev pub WritesIn : ℕ → State → Home → ℕ → ℕ → List ℕ → Result (Unit {0}) Refused → State → Type 0
WritesIn layer s Mini h at ys r after = (meant_in after ≡ wrote (meant_in s) 3 h at ys) × Writes s h at ys r after × Keeps s after
WritesIn layer s Host h at ys r after = after ≡ over s (wrote s.host layer h at ys)

abbrev pub BeginsIn : ℕ → ℕ → State → Home → ℕ → Result ℕ Refused → State → Type 0
BeginsIn most layer s Mini n r after = Begins (meant_in s) 3 n r (meant_in after) × BeginsChain most layer s n r after × Keeps s after
BeginsIn most layer s Host n r after = Begins s.host layer n r after.host × (after ≡ over s after.host)

abbrev pub ExtendsIn : ℕ → ℕ → State → Home → ℕ → ℕ → Result (Unit {0}) Refused → State → Type 0
ExtendsIn most layer s Mini h n r after = (meant_in after ≡ extended (meant_in s) 3 h n) × ExtendsChain most layer s h n r after × Keeps s after
ExtendsIn most layer s Host h n r after = after ≡ over s (extended s.host layer h n)

abbrev pub CutsIn : ℕ → State → Home → ℕ → ℕ → Result (Unit {0}) Refused → State → Type 0
CutsIn layer s Mini h k r after = (meant_in after ≡ cut_to (meant_in s) 3 h k) × CutsChain layer s h k r after × Keeps s after
CutsIn layer s Host h k r after = after ≡ over s (cut_to s.host layer h k)

abbrev pub FreesIn : ℕ → State → Home → ℕ → Result (Unit {0}) Refused → State → Type 0
FreesIn layer s Mini h r after = (meant_in after ≡ freed (meant_in s) 3 h) × FreesChain layer s h r after × Keeps s after
FreesIn layer s Host h r after = after ≡ over s (freed s.host layer h)
