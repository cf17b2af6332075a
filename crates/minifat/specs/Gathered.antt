-- Links that are gathered one after another: at most 4,096 are kept, and how many of all there are up to the last that is
-- not FREE is counted, up to 4,097.
-- Assumes nothing.
use Rattle.std.specs.Prelude.{ℕ, ◌+◌, ◌*◌, cond, List, [], ◌∷◌, ◌++◌, length, None, Ok, Err, fold, Option, Result, ◌==◌, nat_lt}
use Rattle.links.specs.Held.{links_of}
use Rattle.links.specs.Links.{free}
use Rattle.store.specs.declared.faults.StoreFault.{StoreFault}
use Rattle.store.specs.Refusals.{Refused, refused_by}
use Rattle.store.specs.Meaning.{Store, bytes_of, due_copy}
use Rattle.minifat.specs.declared.gathering.Gathered.{Gathered}
use Rattle.minifat.specs.Table.{all_links, before, words_of_fat}
use Rattle.minifat.specs.Told.{Faulted}

-- what was gathered
pub record Gathering : Type 0 where
  pub links : List ℕ
  pub used : ℕ

abbrev pub gathering_of : Gathered → Gathering
gathering_of g = record { links = links_of g.links; used = g.used }

-- nothing yet
abbrev pub none : Gathering
none = record { links = []; used = 0 }

-- what a call told that gathers from a store
abbrev pub gathering_in : Result Gathered StoreFault → Result Gathering Refused
gathering_in (Ok g) = Ok (gathering_of g)
gathering_in (Err f) = Err (refused_by f)

-- one link more
abbrev pub added : Gathering → ℕ → Gathering
added g x = record {
  links = cond (nat_lt (length g.links) 4096) (g.links ++ x ∷ []) g.links;
  used = cond (free x) g.used (length g.links + 1);
}

-- all links of a list
abbrev pub gathered : List ℕ → Gathering
gathered xs = fold added none xs

-- the refusal that is due where n blocks of 512 bytes of a chain are read
abbrev pub due_blocks : Store → ℕ → ℕ → ℕ → Option Refused
due_blocks s layer h n = cond (n == 0) None (due_copy s layer h (n * 512))

-- the links of the MiniFAT, or 9 where it is absent or of another count
abbrev pub gathered_fat : Store → ℕ → Result Gathering Faulted
gathered_fat s layer = before (words_of_fat s layer) (λ w. Ok (gathered (all_links (bytes_of s w.start))))
