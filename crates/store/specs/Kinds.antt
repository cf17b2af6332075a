-- Kinds of directory entries by their bytes.
-- Assumes nothing.
use Rattle.std.specs.Prelude.{ℕ, cond, ◌==◌}
use Rattle.store.specs.declared.entries.ObjType.{ObjType}
use Rattle.store.specs.declared.entries.ObjType.TheVariants.{Unallocated, Storage, Stream, Root, Unknown}

-- the kind that a byte stands for
abbrev pub kind_of : ℕ → ObjType
kind_of b = cond (b == 0) Unallocated (cond (b == 1) Storage (cond (b == 2) Stream (cond (b == 5) Root (Unknown b))))

-- the byte of each kind
abbrev pub byte_of : ObjType → ℕ
byte_of Unallocated = 0
byte_of Storage = 1
byte_of Stream = 2
byte_of Root = 5
byte_of (Unknown b) = b
