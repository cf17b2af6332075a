-- Units that are linked by a table, and what taking and giving back a unit do to them.
-- Assumes nothing.
use Rattle.std.specs.Prelude.{◌≡◌, ℕ, zero, suc, ◌+◌, ◌-◌, ◌*◌, ◌≤◌, cond, ◌≢◌, List, [], ◌∷◌, ◌++◌, length, take, replicate, Some, None, nat_lt, slice_set}
use Rattle.std.specs.Option.{unwrap_or}
use Rattle.links.specs.Links.{FREE, END, at, Checked, Head}
use Rattle.links.specs.Chains.{Extended}
use Rattle.links.specs.Walk.{chain_of}
use Rattle.store.specs.Meaning.{Store, Notes, bytes_of, zeros, with_chain}
use Rattle.chain.specs.Units.{View, cell, chains_of}

-- the size of a unit, the links, the bytes of all units, the stack of free places, the units that can be taken without more
-- ado, the room, what lies below, and the notes
pub record Web : Type 0 where
  pub unit : ℕ
  pub links : List ℕ
  pub bytes : List ℕ
  pub stack : List ℕ
  pub ready : ℕ
  pub room : ℕ
  pub below : List Store
  pub notes : Notes

-- the places of a head's chain
abbrev pub path_of : List ℕ → ℕ → List ℕ
path_of L h = unwrap_or (chain_of L h) []

-- as units, and as a store
abbrev pub viewed : Web → View
viewed w = record { unit = w.unit; bytes = w.bytes; path = path_of w.links; kept = w.links ∷ w.stack ∷ []; below = w.below }

abbrev pub stored : Web → Store
stored w = record { unit = w.unit; chain = chains_of (viewed w); room = w.room; notes = w.notes }

-- as a store with n units of zeros more behind the chain of h, and with a new chain h of so many
abbrev pub with_more : Web → ℕ → ℕ → Store
with_more w h n = with_chain (stored w) h (Some (bytes_of (stored w) h ++ zeros (stored w) n)) (w.room - n)

abbrev pub with_new : Web → ℕ → ℕ → Store
with_new w h n = with_chain (stored w) h (Some (zeros (stored w) n)) (w.room - n)

-- without the chain of h, which had n units, and with the first k of them alone
abbrev pub without : Web → ℕ → ℕ → Store
without w h n = with_chain (stored w) h None (w.room + n)

abbrev pub with_first : Web → ℕ → ℕ → ℕ → Store
with_first w h k n = with_chain (stored w) h (Some (take (k * w.unit) (bytes_of (stored w) h))) (w.room + (n - k))

-- what always holds: the table is checked, and each unit in use lies within the bytes
pub record Woven (w : Web) : Type 0 where
  pub few : length w.links ≤ 4096
  pub checked : Checked (at w.links)
  pub inner : (p : ℕ) → at w.links p ≢ FREE → p * w.unit + w.unit ≤ length w.bytes

-- v is w but for the links, and for the bytes of the unit f
pub record Beside (w v : Web) (f : ℕ) : Type 0 where
  pub unit : v.unit ≡ w.unit
  pub notes : v.notes ≡ w.notes
  pub other : (q : ℕ) → at w.links q ≢ FREE → q ≢ f → cell w.unit v.bytes q ≡ cell w.unit w.bytes q

-- the free unit f was taken and zeroed
pub record Took (w v : Web) (f : ℕ) : Type 0 where
  pub beside : Beside w v f
  pub free : at w.links f ≡ FREE
  pub zero : cell w.unit v.bytes f ≡ replicate w.unit 0
  pub room : v.room + 1 ≡ w.room
  pub ready : v.ready + 1 ≡ w.ready

-- a chain that ends with the place last
abbrev pub EndsWith : Web → ℕ → ℕ → List ℕ → Type 0
EndsWith w h last es = Head (at w.links) h (es ++ last ∷ [])

-- the unit f was put behind the place last, whatever chain that ends
pub record Behind (w v : Web) (last f : ℕ) : Type 0 where
  pub took : Took w v f
  pub longer : (h : ℕ) (es : List ℕ) → EndsWith w h last es → Extended (at w.links) (at v.links) h f (es ++ last ∷ [])

-- the unit f was given back
pub record Gave (w v : Web) (f : ℕ) : Type 0 where
  pub unit : v.unit ≡ w.unit
  pub notes : v.notes ≡ w.notes
  pub other : (q : ℕ) → q ≢ f → cell w.unit v.bytes q ≡ cell w.unit w.bytes q
  pub links : v.links ≡ slice_set w.links f FREE
  pub room : v.room ≡ w.room + 1
  pub ready : v.ready ≡ w.ready + 1

-- the chain ends at the place e
pub record Ended (w v : Web) (e : ℕ) : Type 0 where
  pub unit : v.unit ≡ w.unit
  pub notes : v.notes ≡ w.notes
  pub bytes : v.bytes ≡ w.bytes
  pub links : v.links ≡ slice_set w.links e END
  pub room : v.room ≡ w.room
  pub ready : v.ready ≡ w.ready

-- n units more, one after the other, behind a place
abbrev pub lengthened : (Web → ℕ) → (Web → ℕ → Web) → ℕ → Web → ℕ → Web
lengthened next put zero w last = w
lengthened next put (suc n) w last = lengthened next put n (put w last) (next w)

-- n units taken, the first of them the head h of a chain
abbrev pub begun : (Web → ℕ) → (Web → Web) → (Web → ℕ → Web) → ℕ → Web → ℕ → Web
begun next took put n w h = lengthened next put (n - 1) (took w) h

-- n units given back, one after the other, from a place on
abbrev pub released : (Web → ℕ → Web) → ℕ → Web → ℕ → Web
released gave zero w place = w
released gave (suc n) w place = released gave n (gave w place) (at w.links place)

-- a chain of n units, of which the first k stay, the last of them at a place
abbrev pub shortened : (Web → ℕ → Web) → (Web → ℕ → Web) → ℕ → ℕ → Web → ℕ → Web
shortened ended gave k n w place = cond (nat_lt k n) (released gave (n - k) (ended w place) (at w.links place)) w
