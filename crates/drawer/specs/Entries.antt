-- The entries of a fresh drawer.
-- Assumes nothing.
use Rattle.std.specs.Prelude.{List, ◌∷◌, replicate}
use Rattle.links.specs.Links.{END}
use Rattle.store.specs.declared.entries.Entry.{Entry}
use Rattle.store.specs.declared.entries.ObjType.{ObjType}
use Rattle.store.specs.declared.entries.ObjType.TheVariants.{Stream, Root}

-- an entry of no bytes
abbrev pub empty : ObjType → Entry
empty kind = record { kind = kind; start = END; length = 0 }

-- entry 0 is the root and the others are streams, and all are empty
abbrev pub all_empty : List Entry
all_empty = empty Root ∷ replicate 15 (empty Stream)
