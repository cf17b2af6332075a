-- Links as bytes: four to a link, the lowest first.
-- Assumes nothing.
use Rattle.std.specs.Prelude.{ℕ, ◌+◌, ◌*◌, ◌/◌, ◌%◌, List, [], ◌∷◌, slice_index}

-- the bytes of a link
abbrev pub bytes_of_link : ℕ → List ℕ
bytes_of_link v = (v % 256) ∷ (v / 256 % 256) ∷ (v / 65536 % 256) ∷ (v / 16777216 % 256) ∷ []

-- the link at a place
abbrev pub link_in : List ℕ → ℕ → ℕ
link_in ys p = slice_index ys (4 * p) + slice_index ys (4 * p + 1) * 256 + slice_index ys (4 * p + 2) * 65536 + slice_index ys (4 * p + 3) * 16777216
