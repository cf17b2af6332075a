-- What adding sectors to the MiniFAT and to the mini stream leaves of a host. Which head a new chain has is the host's
-- choice.
-- Assumes nothing.
use Rattle.std.specs.Prelude.{◌≡◌, ℕ, zero, suc, ◌+◌, ◌*◌, ◌%◌, Bool, true, false, replicate, Ok, Err, Result, ◌==◌}
use Rattle.links.specs.Links.{END}
use Rattle.store.specs.Refusals.{Refused, answer}
use Rattle.store.specs.Meaning.{Store, Lawful, Begins, due_extend, extended, wrote, worded, entered}
use Rattle.rooms.specs.declared.Ground.{Ground}
use Rattle.rooms.specs.Rooms.{fats_needed, minis_needed}
use Rattle.mini.specs.Mini.{root_of, stream_at, fat_at}

-- n sectors more at the end of a chain, or as a new chain from END; the answer is its head
abbrev pub GrowsBy : Bool → Store → ℕ → ℕ → ℕ → Result ℕ Refused → Store → Type 0
GrowsBy true s layer start n r after = Begins s layer n r after
GrowsBy false s layer start n r after = (r ≡ answer (due_extend s layer start n) start) × (after ≡ extended s layer start n)

abbrev pub Grows : Store → ℕ → ℕ → ℕ → Result ℕ Refused → Store → Type 0
Grows s layer start n r after = GrowsBy (start == END) s layer start n r after

-- n sectors of a chain, from a rank on, hold FREE links
abbrev pub filled : ℕ → Store → ℕ → ℕ → ℕ → Store
filled zero s layer h rank = s
filled (suc n) s layer h rank = filled n (wrote s layer h (rank * s.unit) (replicate s.unit 255)) layer h (rank + 1)

-- what is left once the chain was grown: the words tell of it, and the new sectors are filled
abbrev pub fats_told : Result ℕ Refused → Store → ℕ → ℕ → ℕ → Store
fats_told (Ok h) s layer had n = filled n (worded s (record { start = h; count = (had + n) % 0x100000000 })) layer h had
fats_told (Err f) s layer had n = s

-- n sectors more in the MiniFAT; for none, nothing is done
abbrev pub AddsFatsBy : Bool → Store → ℕ → ℕ → Store → Type 0
AddsFatsBy true s layer n after = after ≡ s
AddsFatsBy false s layer n after =
    (r : Result ℕ Refused) × (mid : Store) × Grows s layer (fat_at s) n r mid × (after ≡ fats_told r mid layer s.notes.words.count n)

abbrev pub AddsFats : Store → ℕ → ℕ → Store → Type 0
AddsFats s layer n after = AddsFatsBy (n == 0) s layer n after

-- the root entry tells where the mini stream starts
abbrev pub minis_told : Result ℕ Refused → Store → ℕ → ℕ → Store
minis_told (Ok h) s layer long = entered s layer 0 h (long % 0x100000000)
minis_told (Err f) s layer long = s

-- n sectors more in the mini stream
abbrev pub AddsMinisBy : Bool → Store → ℕ → ℕ → Store → Type 0
AddsMinisBy true s layer n after = after ≡ s
AddsMinisBy false s layer n after =
    (r : Result ℕ Refused) × (mid : Store) × Grows s layer (stream_at s) n r mid × (after ≡ minis_told r mid layer (root_of s).length)

abbrev pub AddsMinis : Store → ℕ → ℕ → Store → Type 0
AddsMinis s layer n after = AddsMinisBy (n == 0) s layer n after

-- the sectors for a growth by k places, first those of the MiniFAT, then those of the mini stream; between the two it is a
-- store as any
abbrev pub Reserves : ℕ → Store → ℕ → Ground → ℕ → Store → Type 0
Reserves most s layer g k after =
    (mid : Store) × Lawful most mid × AddsFats s layer (fats_needed g k % 0x100000000) mid × AddsMinis mid layer (minis_needed g k % 0x100000000) after
