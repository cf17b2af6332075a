-- Which starts and lengths go together.
-- Assumes nothing.
use Rattle.std.specs.Prelude.{ℕ, Bool, cond, not, ◌==◌}
use Rattle.links.specs.Links.{END}

-- length 0 goes with END, and every other length with another start
abbrev pub possible : ℕ → ℕ → Bool
possible start long = cond (start == END) (long == 0) (not (long == 0))
