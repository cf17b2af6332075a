-- How far the table of a mini store can grow over a host.
-- Assumes nothing.
use Rattle.std.specs.Prelude.{ℕ, zero, suc, ◌+◌, ◌-◌, ◌/◌, Bool, cond, ◌&&◌, nat_le}
use Rattle.rooms.specs.declared.Ground.{Ground}

-- x / y, rounded up
abbrev pub up : ℕ → ℕ → ℕ
up x y = (x + (y - 1)) / y

-- the sectors of the MiniFAT, and of the mini stream, that growing by k places takes
abbrev pub fats_needed : Ground → ℕ → ℕ
fats_needed g k = up (g.links + k) (g.unit / 4) - g.fats

abbrev pub minis_needed : Ground → ℕ → ℕ
minis_needed g k = up (g.root + k) (g.unit / 64) - g.minis

abbrev pub need : Ground → ℕ → ℕ
need g k = fats_needed g k + minis_needed g k

-- growing by k places is possible
abbrev pub fits : Ground → ℕ → Bool
fits g k = nat_le (g.links + k) 4096 && nat_le (need g k) g.spare

-- the largest number up to n that passes a test; 0 where none does
abbrev pub largest : (ℕ → Bool) → ℕ → ℕ
largest p zero = zero
largest p (suc k) = cond (p (suc k)) (suc k) (largest p k)

unfoldable pub growth : Ground → ℕ
growth g = largest (fits g) 4096

-- the ground after the sectors for j places more were added
abbrev pub reserved : Ground → ℕ → Ground
reserved g j = record { unit = g.unit; links = g.links; root = g.root; fats = g.fats + fats_needed g j; minis = g.minis + minis_needed g j; spare = g.spare - need g j }

-- the ground after j places more
abbrev pub taller : Ground → ℕ → Ground
taller g j = record { unit = g.unit; links = g.links + j; root = g.root + j; fats = g.fats; minis = g.minis; spare = g.spare }
