-- The bytes of a stream as the format has them read, from the host alone: its header words, its entries and its chains. No
-- table that is held in memory is asked.
-- Assumes nothing.
use Rattle.std.specs.Prelude.{ℕ, cond, nat_lt, List, length, take}
use Rattle.std.specs.List.{flat_map}
use Rattle.links.specs.Walk.{trace}
use Rattle.store.specs.declared.entries.Entry.{Entry}
use Rattle.store.specs.Meaning.{Store, bytes_of}
use Rattle.chain.specs.Units.{cell}
use Rattle.mini.specs.Mini.{stream_at, fat_at}
use Rattle.minifat.specs.Table.{all_links}

-- the MiniFAT: the chain that the header words name holds links of 32 bits, one for each mini sector
abbrev pub fat_links : Store → List ℕ
fat_links s = all_links (bytes_of s (fat_at s))

-- the mini sectors that the links lead to from p on, until a link is no place, as END
abbrev pub mini_places : Store → ℕ → List ℕ
mini_places s p = trace (length (fat_links s)) (fat_links s) p

-- their bytes: the mini sector p is the 64 bytes at 64 p of the mini stream, the chain that entry 0 names
abbrev pub mini_bytes : Store → ℕ → List ℕ
mini_bytes s p = flat_map (cell 64 (bytes_of s (stream_at s))) (mini_places s p)

-- a stream of fewer than 4,096 bytes lies in mini sectors, and a longer one is a chain of the host; of both the last unit
-- may be filled in part
abbrev pub stream_bytes : Store → Entry → List ℕ
stream_bytes s e = take e.length (cond (nat_lt e.length 4096) (mini_bytes s e.start) (bytes_of s e.start))
