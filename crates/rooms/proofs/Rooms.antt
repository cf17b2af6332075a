-- How the growth of a mini store changes when sectors are added and when the table grows.
-- Assumes nothing.
use Rattle.std.proofs.Common.{◌≡◌, ℕ, zero, suc, ◌+◌, ◌-◌, ◌/◌, ◌<◌, ◌≤◌, Bool, true, false, ◌⊎◌, sym, ap, ◌∙◌, le-div_iff_mul-le, div-mul-le_self, arith}
use Rattle.rooms.specs.declared.Ground.{Ground}
use Rattle.rooms.specs.Rooms.{up, fats_needed, minis_needed, need, fits, largest, growth, reserved, taller}
use Rattle.std.proofs.lemmas.Bool.Decides.{nat_tests}
use Rattle.std.specs.Int.{div_ceil}
use Rattle.std.proofs.lemmas.Grind.{div_ceil_times}
use Rattle.std.proofs.Math.Nat.{div-eq_of_lt-le, add-mul, one-mul}
use native.Mathlib.Nat.{div-zero}

-- a ground that holds what its links and its root need
pub record Fair (g : Ground) : Type 0 where
  pub size : (g.unit ≡ 512) ⊎ (g.unit ≡ 4096)
  pub few : g.links ≤ 4096
  pub table : up g.links (g.unit / 4) ≤ g.fats
  pub stream : up g.root (g.unit / 64) ≤ g.minis

-- what the library's division rounds up to
pub ceil_up : (x y : ℕ) → 0 < y → div_ceil x y ≡ up x y
ceil_up x y p =
    let t = div_ceil_times x y p in
    sym (div-eq_of_lt-le {k = div_ceil x y} y {m = x + (y - 1)} (omega (arith, t.1)) (omega (arith, t.0, add-mul (div_ceil x y) 1 y, one-mul y)))

-- a larger length needs no fewer units
pub up_more : (y a b : ℕ) → a ≤ b → up a y ≤ up b y
up_more zero a b h = omega (arith, div-zero (a + (zero - 1)), div-zero (b + (zero - 1)))
up_more (suc y) a b h =
    (le-div_iff_mul-le {k = suc y} {x = up a (suc y)} {y = b + (suc y - 1)} (omega arith)).1 (omega (arith, div-mul-le_self (a + (suc y - 1)) (suc y)))

-- the largest number that passes a test: it passes unless it is 0, it is within the bound, and no larger one passes
pub largest_passes : (p : ℕ → Bool) (c : ℕ) → 0 < largest p c → p (largest p c) ≡ true
largest_passes p zero h = absurd (omega arith)
largest_passes p (suc c) h = grind (arith, largest_passes p c)

pub largest-within : (p : ℕ → Bool) (c : ℕ) → largest p c ≤ c
largest-within p zero = omega arith
largest-within p (suc c) = grind (arith, largest-within p c)

pub largest_above : (p : ℕ → Bool) (c k : ℕ) → k ≤ c → p k ≡ true → k ≤ largest p c
largest_above p zero k l h = l
largest_above p (suc c) k l h = grind (arith, largest_above p c k)

pub fits_parts : (g : Ground) (k : ℕ) → fits g k ≡ true → (g.links + k ≤ 4096) × (need g k ≤ g.spare)
fits_parts g k h = grind (arith, nat_tests)

pub fits_from : (g : Ground) (k : ℕ) → g.links + k ≤ 4096 → need g k ≤ g.spare → fits g k ≡ true
fits_from g k a b = grind (arith, nat_tests)

-- a larger growth needs no fewer sectors
parts_more : (g : Ground) (j k : ℕ) → j ≤ k → (fats_needed g j ≤ fats_needed g k) × (minis_needed g j ≤ minis_needed g k)
parts_more g j k h =
    let a = up_more (g.unit / 4) (g.links + j) (g.links + k) (omega arith) in
    let b = up_more (g.unit / 64) (g.root + j) (g.root + k) (omega arith) in
    (omega arith, omega arith)

-- whatever is smaller than a growth that fits, fits too
pub fits_down : (g : Ground) (j k : ℕ) → fits g k ≡ true → j ≤ k → fits g j ≡ true
fits_down g j k h l =
    let r = fits_parts g k h in
    let a = parts_more g j k l in
    fits_from g j (omega arith) (omega arith)

pub none_needed : (g : Ground) → Fair g → need g 0 ≡ 0
none_needed g f =
    let t = f.table in
    let s = f.stream in
    omega (arith, up_more (g.unit / 4) (g.links + 0) g.links (omega arith), up_more (g.unit / 64) (g.root + 0) g.root (omega arith))

pub none-fits : (g : Ground) → Fair g → fits g 0 ≡ true
none-fits g f =
    let l = f.few in
    let n = none_needed g f in
    fits_from g 0 (omega arith) (omega arith)

-- These three open the definition of the growth; all that follows goes by them.
pub growth_passes : (g : Ground) → 0 < growth g → fits g (growth g) ≡ true
unfolding growth
growth_passes g h = largest_passes (fits g) 4096 h

pub growth-within : (g : Ground) → growth g ≤ 4096
unfolding growth
growth-within g = largest-within (fits g) 4096

-- nothing larger than the growth fits
pub largest_most : (g : Ground) (k : ℕ) → fits g k ≡ true → k ≤ growth g
unfolding growth
largest_most g k h = let r = fits_parts g k h in largest_above (fits g) 4096 k (omega arith) h

-- where 0 fits, the growth fits
pub growth-fits : (g : Ground) → fits g 0 ≡ true → fits g (growth g) ≡ true
growth-fits g h = grind (arith, growth_passes)

pub largest-fits : (g : Ground) → Fair g → fits g (growth g) ≡ true
largest-fits g f = growth-fits g (none-fits g f)

pub growth_cap : (g : Ground) → Fair g → growth g + g.links ≤ 4096
growth_cap g f = omega (arith, (fits_parts g (growth g) (largest-fits g f)).0)

-- what does not fit is above the growth; 0 is left out, since the growth is 0 where nothing fits
pub growth_below : (g : Ground) (k : ℕ) → 0 < k → fits g k ≡ false → growth g < k
growth_below g k l h = grind (arith, growth_passes g, fits_down g k (growth g))

-- Adding the sectors for j places leaves nothing to add for them, and the growth as it was.
pub reserve_none : (g : Ground) (j : ℕ) → need (reserved g j) j ≡ 0
reserve_none g j = omega arith

-- past j, the sectors that are still needed are those that were not added
reserve_need : (g : Ground) (j k : ℕ) → j ≤ k → need (reserved g j) k + need g j ≡ need g k
reserve_need g j k h = let a = parts_more g j k h in omega arith

-- from j on, the same growths fit
reserve_fits : (g : Ground) (j k : ℕ) → fits g j ≡ true → j ≤ k → fits (reserved g j) k ≡ fits g k
reserve_fits g j k f l =
    let a = fits_parts g j f in
    let b = reserve_need g j k l in
    grind (arith, nat_tests)

pub reserve_same : (g : Ground) (j : ℕ) → fits g j ≡ true → growth (reserved g j) ≡ growth g
reserve_same g j f =
    let r = reserved g j in
    let here : fits r j ≡ true = reserve_fits g j j f (omega arith) ∙ f in
    let low : j ≤ growth g = largest_most g j f in
    let high : j ≤ growth r = largest_most r j here in
    let one : growth g ≤ growth r = largest_most r (growth g) (reserve_fits g j (growth g) f low ∙ growth-fits g (fits_down g 0 j f (omega arith))) in
    let two : growth r ≤ growth g = largest_most g (growth r) (sym (reserve_fits g j (growth r) f high) ∙ growth-fits r (fits_down r 0 j here (omega arith))) in
    omega arith

pub reserve_fair : (g : Ground) (j : ℕ) → Fair g → Fair (reserved g j)
reserve_fair g j f = record { size = f.size; few = f.few; table = let t = f.table in omega arith; stream = let s = f.stream in omega arith }

-- Growing by j places that need no sector takes j from the growth.
taller-fits : (g : Ground) (j k : ℕ) → fits (taller g j) k ≡ fits g (j + k)
taller-fits g j k =
    let a : (g.links + j) + k ≡ g.links + (j + k) = omega arith in
    let b : (g.root + j) + k ≡ g.root + (j + k) = omega arith in
    rw (a, b)

pub taller_less : (g : Ground) (j : ℕ) → need g j ≡ 0 → g.links + j ≤ 4096 → growth (taller g j) + j ≡ growth g
taller_less g j n l =
    let t = taller g j in
    let here : fits g j ≡ true = fits_from g j l (omega arith) in
    let low : j ≤ growth g = largest_most g j here in
    let top : fits g (growth g) ≡ true = growth-fits g (fits_down g 0 j here (omega arith)) in
    let m = growth g - j in
    let jm : j + m ≡ growth g = omega arith in
    let one : m ≤ growth t = largest_most t m (taller-fits g j m ∙ (ap (fits g) jm ∙ top)) in
    let j0 : j + 0 ≡ j = omega arith in
    let zero-fits : fits t 0 ≡ true = taller-fits g j 0 ∙ (ap (fits g) j0 ∙ here) in
    let two : j + growth t ≤ growth g = largest_most g (j + growth t) (sym (taller-fits g j (growth t)) ∙ growth-fits t zero-fits) in
    omega arith

pub taller_fair : (g : Ground) (j : ℕ) → Fair g → need g j ≡ 0 → g.links + j ≤ 4096 → Fair (taller g j)
taller_fair g j f n l = record { size = f.size; few = l; table = omega arith; stream = omega arith }

-- what the bisection needs
pub ruleset bisected = (growth-within, largest_most, growth_below)
