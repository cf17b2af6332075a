-- What the calls on streams leave. layer is the host's layer, and most the most units that it has.
-- Assumes nothing.
use Rattle.std.specs.Prelude.{◌≡◌, ℕ, ◌+◌, ◌-◌, ◌%◌, min, max, Bool, true, false, ◌==◌, List, length, replicate, Some, Ok, Err, Result}
use Rattle.store.specs.declared.entries.Entry.{Entry}
use Rattle.store.specs.Meaning.{Lawful, entered}
use Rattle.store.specs.Refusals.{Refused}
use Rattle.minifat.specs.Told.{Faulted}
use Rattle.minialloc.specs.States.{State}
use Rattle.workbook.specs.declared.plans.Plan.{Plan}
use Rattle.workbook.specs.Homes.{over, WritesIn}
use Rattle.workbook.specs.declared.homes.Home.{Home}
use Rattle.workbook.specs.Sights.{seen, home_of, unit_in}
use Rattle.workbook.specs.Refusals.{stream_of, fit_of, write_of}
use Rattle.workbook.specs.Steps.{PlanOf, Rebuilding, Writing}

-- the stream e has the chain that n bytes need, and its entry the start and the length; or it is refused, and nothing changes
abbrev pub FittedTo : ℕ → ℕ → State → ℕ → ℕ → Result Entry Faulted → Result ℕ Faulted → State → Type 0
FittedTo most layer s id n (Ok e) r after =
    (h : ℕ) × (r ≡ Ok h) × (p : Plan) × PlanOf s e n p × (mid : State) × Lawful most mid.host × Rebuilding most layer p s (Ok h) mid
    × (after ≡ over mid (entered mid.host layer id h n))
FittedTo most layer s id n (Err f) r after = (r ≡ Err f) × (after ≡ s)

abbrev pub Fitted : ℕ → ℕ → State → ℕ → ℕ → Result ℕ Faulted → State → Type 0
Fitted most layer s id n r after = FittedTo most layer s id n (fit_of s id n (stream_of s layer id)) r after

-- bytes are laid over a chain, where there are some
abbrev pub LaidBy : Bool → ℕ → State → Home → ℕ → ℕ → List ℕ → State → Type 0
LaidBy true layer s home h i ys after = after ≡ s
LaidBy false layer s home h i ys after = WritesIn layer s home h i ys (Ok tt) after

abbrev pub Laid : ℕ → State → Home → ℕ → ℕ → List ℕ → State → Type 0
Laid layer s home h i ys after = LaidBy (length ys == 0) layer s home h i ys after

-- the stream fits n bytes, and bytes are laid over its chain; or it is refused, and nothing changes
abbrev pub FilledTo : ℕ → ℕ → State → ℕ → ℕ → ℕ → List ℕ → Result Entry Faulted → Result (Unit {0}) Faulted → State → Type 0
FilledTo most layer s id n i ys (Ok e) r after =
    (r ≡ Ok tt) × (h : ℕ) × (mid : State) × FittedTo most layer s id n (Ok e) (Ok h) mid × Laid layer mid (home_of n) h i ys after
FilledTo most layer s id n i ys (Err f) r after = (r ≡ Err f) × (after ≡ s)

-- a store's refusal, carried up
abbrev pub carried : Result (Unit {0}) Refused → Result (Unit {0}) Faulted
carried (Ok x) = Ok x
carried (Err f) = Err (record { number = f.number; layer = f.layer; place = f.place; lower = Some f })

-- bytes are written over a chain, where there are some, and the answer is that of its store, which may refuse them
abbrev pub LaysBy : Bool → ℕ → ℕ → State → Home → ℕ → ℕ → List ℕ → Result (Unit {0}) Faulted → State → Type 0
LaysBy true most layer s home h i ys r after = (r ≡ Ok tt) × (after ≡ s)
LaysBy false most layer s home h i ys r after = (x : Result (Unit {0}) Refused) × (r ≡ carried x) × Writing most layer home h i ys s x after

-- so after a fit that was accepted; one that was refused is all
abbrev pub FillingBy : Result ℕ Faulted → ℕ → ℕ → State → ℕ → ℕ → List ℕ → Result (Unit {0}) Faulted → State → Type 0
FillingBy (Ok h) most layer s n i ys r after = LaysBy (length ys == 0) most layer s (home_of n) h i ys r after
FillingBy (Err f) most layer s n i ys r after = (r ≡ Err f) × (after ≡ s)

-- a fit, and then the bytes, wherever they would lie
abbrev pub Filling : ℕ → ℕ → State → ℕ → ℕ → ℕ → List ℕ → Result (Unit {0}) Faulted → State → Type 0
Filling most layer s id n i ys r after =
    (x : Result ℕ Faulted) × (mid : State) × Fitted most layer s id n x mid × FillingBy x most layer mid n i ys r after

-- a write: the stream reaches as far as the bytes
abbrev pub WrittenTo : ℕ → ℕ → State → ℕ → ℕ → List ℕ → Result Entry Faulted → Result (Unit {0}) Faulted → State → Type 0
WrittenTo most layer s id i ys (Ok e) r after = FilledTo most layer s id (max e.length (i + length ys)) i ys (Ok e) r after
WrittenTo most layer s id i ys (Err f) r after = (r ≡ Err f) × (after ≡ s)

abbrev pub Written : ℕ → ℕ → State → ℕ → ℕ → List ℕ → Result (Unit {0}) Faulted → State → Type 0
Written most layer s id i ys r after = WrittenTo most layer s id i ys (write_of s id i (length ys) (stream_of s layer id)) r after

-- how far the end of its unit is from k, where it is not at one's start
abbrev pub rest_of : ℕ → ℕ → ℕ
rest_of u k = (u - k % u) % u

-- a resize: of the unit where the bytes end that stay, the rest is zeros
abbrev pub ResizedTo : ℕ → ℕ → State → ℕ → ℕ → Result Entry Faulted → Result (Unit {0}) Faulted → State → Type 0
ResizedTo most layer s id n (Ok e) r after =
    FilledTo most layer s id n (min e.length n) (replicate (rest_of (unit_in (seen s) (home_of n)) (min e.length n)) 0) (Ok e) r after
ResizedTo most layer s id n (Err f) r after = (r ≡ Err f) × (after ≡ s)

abbrev pub Resized : ℕ → ℕ → State → ℕ → ℕ → Result (Unit {0}) Faulted → State → Type 0
Resized most layer s id n r after = ResizedTo most layer s id n (fit_of s id n (stream_of s layer id)) r after
