-- Units of one size, and the chains that they make.
-- Assumes nothing.
use Rattle.std.specs.Prelude.{◌≡◌, ℕ, ◌+◌, ◌-◌, ◌*◌, ◌/◌, ◌%◌, ◌<◌, ◌≤◌, min, cond, List, length, take, drop, Some, None, Option, nat_lt, slice_index}
use Rattle.std.specs.List.{flat_map}
use Rattle.links.specs.Links.{In, Apart}
use Rattle.store.specs.Meaning.{Store, laid}
use Rattle.chain.specs.declared.pieces.Cursor.{Cursor}
use Rattle.chain.specs.declared.pieces.Piece.{Piece}

-- the size of a unit, the bytes of all units, one after the other, and the places of each head's chain;
-- and what copying changes nothing of: what else the store holds, and what lies below it
pub record View : Type 0 where
  pub unit : ℕ
  pub bytes : List ℕ
  pub path : ℕ → List ℕ
  pub kept : List (List ℕ)
  pub below : List Store

-- the bytes of the unit at a place
unfoldable pub cell : ℕ → List ℕ → ℕ → List ℕ
cell u bs p = take u (drop (p * u) bs)

-- the bytes of a head's chain
unfoldable pub content : View → ℕ → List ℕ
content v h = flat_map (cell v.unit v.bytes) (v.path h)

-- the chains of all heads: a head is what has a place on its chain
abbrev pub chains_of : View → ℕ → Option (List ℕ)
chains_of v h = cond (nat_lt 0 (length (v.path h))) (Some (content v h)) None

-- a chain begins with its head, comes to no place twice, and lies within the bytes
pub record Whole (v : View) : Type 0 where
  pub some : 0 < v.unit
  pub first : (h : ℕ) → 0 < length (v.path h) → slice_index (v.path h) 0 ≡ h
  pub apart : (h : ℕ) → Apart (v.path h)
  pub inner : (h p : ℕ) → In p (v.path h) → p * v.unit + v.unit ≤ length v.bytes

-- the units after a write into one of them
abbrev pub put : View → ℕ → ℕ → List ℕ → View
put v p i ys = record { unit = v.unit; bytes = laid v.bytes (p * v.unit + i) ys; path = v.path; kept = v.kept; below = v.below }

-- a cursor at the head, with nothing done
abbrev pub at_start : ℕ → ℕ → Cursor
at_start h a = record { head = h; at = a; place = h; rank = 0; done = 0 }

-- a cursor is at the unit of its rank, and has not come past its next byte
pub record On (v : View) (c : Cursor) : Type 0 where
  pub here : c.rank < length (v.path c.head) → c.place ≡ slice_index (v.path c.head) c.rank
  pub before : c.rank * v.unit ≤ c.at + c.done

-- the piece of a copy of n bytes that comes next at a cursor: what lies in one unit
abbrev pub piece : View → Cursor → ℕ → Option Piece
piece v c n =
    let x = c.at + c.done in
    let i = x % v.unit in
    let to = c.done + min (v.unit - i) (n - c.done) in
    cond (nat_lt c.done n) (Some (record { place = slice_index (v.path c.head) (x / v.unit); off = i; from = c.done; to = to })) None

-- the bytes that are done behind it
abbrev pub done_by : Cursor → Option Piece → ℕ
done_by c None = c.done
done_by c (Some p) = p.to

-- d is the cursor c moved on, to n bytes done
pub record Moved (v : View) (c d : Cursor) (n : ℕ) : Type 0 where
  pub head : d.head ≡ c.head
  pub at : d.at ≡ c.at
  pub done : d.done ≡ n
  pub on : On v d

-- w is v after a write of ys at a, along the chain of h
pub record Wrote (v w : View) (h a : ℕ) (ys : List ℕ) : Type 0 where
  pub unit : w.unit ≡ v.unit
  pub path : w.path ≡ v.path
  pub kept : w.kept ≡ v.kept
  pub below : w.below ≡ v.below
  pub long : length w.bytes ≡ length v.bytes
  pub chain : content w h ≡ laid (content v h) a ys
  pub other : (q : ℕ) → (In q (v.path h) → ⊥) → cell v.unit w.bytes q ≡ cell v.unit v.bytes q
