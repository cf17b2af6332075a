-- What units that note head and rank mean as a store of chains.
-- Assumes nothing.
use Rattle.std.specs.Prelude.{ℕ, ◌+◌, ◌-◌, cond, List, [], ◌∷◌, ◌++◌, length, take, map, is_none, Some, None, count_by, Option, nat_lt}
use Rattle.store.specs.Meaning.{Store, Notes, bytes_of, zeros, with_chain}
use Rattle.chain.specs.Units.{View, chains_of}
use Rattle.cells.specs.declared.Note.{Note}
use Rattle.cells.specs.Noted.{path, joins}

-- a unit's note as numbers, none where it is on no chain
abbrev pub numbers : Option Note → List ℕ
numbers None = []
numbers (Some n) = n.head ∷ n.rank ∷ []

-- as units of 512 bytes, B being the bytes of all units
abbrev pub viewed : List (Option Note) → List ℕ → View
viewed N B = record { unit = 512; bytes = B; path = path N; kept = map numbers N; below = [] }

-- as a store, with these notes
abbrev pub stored : List (Option Note) → List ℕ → Notes → Store
stored N B n = record { unit = 512; chain = chains_of (viewed N B); room = count_by is_none N; notes = n }

-- one unit of zeros more at the end of the chain of h, which may have none yet
abbrev pub joined_to : Store → ℕ → Store
joined_to m h = with_chain m h (Some (bytes_of m h ++ zeros m 1)) (m.room - 1)

-- the unit u at the end of the chain of h, where it can go there
abbrev pub joined_or_left : List (Option Note) → ℕ → ℕ → Store → Store
joined_or_left N u h m = cond (joins N u h) (joined_to m h) m

-- one unit less at its end; its last unit takes the head along
abbrev pub but_last : List ℕ → Option (List ℕ)
but_last xs = cond (nat_lt 512 (length xs)) (Some (take (length xs - 512) xs)) None

abbrev pub shortened : Option (List ℕ) → Store → ℕ → Store
shortened None m h = m
shortened (Some xs) m h = with_chain m h (but_last xs) (m.room + 1)

abbrev pub taken_back : Store → ℕ → Store
taken_back m h = shortened (m.chain h) m h
