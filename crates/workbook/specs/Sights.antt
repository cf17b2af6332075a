-- What a workbook sees of host and mini store: the entries, and the chains that a stream can have.
-- Assumes nothing.
use Rattle.std.specs.Prelude.{◌≡◌, ℕ, ◌+◌, ◌-◌, ◌*◌, ◌/◌, Bool, true, cond, ◌≢◌, ◌⊎◌, ◌==◌, List, [], ◌++◌, length, take, replicate, Some, Option, nat_eq, nat_lt}
use Rattle.std.specs.List.{slice_get}
use Rattle.std.specs.Map.{update}
use Rattle.std.specs.Option.{unwrap_or}
use Rattle.links.specs.Links.{END}
use Rattle.store.specs.declared.entries.Entry.{Entry}
use Rattle.store.specs.Kinds.{byte_of}
use Rattle.mini.specs.Mini.{kept_part}
use Rattle.minialloc.specs.States.{State, meant_in}
use Rattle.workbook.specs.declared.homes.Home.{Home}
use Rattle.workbook.specs.declared.homes.Home.TheVariants.{Mini, Host}

-- the host's unit, its entries but for start and length of the root, its chains but for mini stream and MiniFAT, and the
-- chains of the mini store
pub record Sight : Type 0 where
  pub unit : ℕ
  pub entries : List Entry
  pub large : ℕ → Option (List ℕ)
  pub small : ℕ → Option (List ℕ)

abbrev pub seen : State → Sight
seen s = record {
  unit = s.host.unit;
  entries = (kept_part s.host).entries;
  large = (kept_part s.host).others;
  small = (meant_in s).chain;
}

-- a stream of fewer bytes than 4,096 lies in the mini store, a longer one in the host
abbrev pub home_of : ℕ → Home
home_of n = cond (nat_lt n 4096) Mini Host

abbrev pub unit_in : Sight → Home → ℕ
unit_in v Mini = 64
unit_in v Host = v.unit

abbrev pub chain_in : Sight → Home → ℕ → Option (List ℕ)
chain_in v Mini = v.small
chain_in v Host = v.large

-- the units that so many bytes need there
abbrev pub needed : Sight → Home → ℕ → ℕ
needed v home n = (n + (unit_in v home - 1)) / unit_in v home

-- the bytes of the units that a stream of n bytes needs
abbrev pub reach : Sight → ℕ → ℕ
reach v n = needed v (home_of n) n * unit_in v (home_of n)

-- the chain of h in a home is another
abbrev pub rechained : Sight → Home → ℕ → Option (List ℕ) → Sight
rechained v Mini h o = record v { small = update nat_eq v.small h o }
rechained v Host h o = record v { large = update nat_eq v.large h o }

abbrev pub is_stream : Entry → Bool
is_stream e = byte_of e.kind == 2

-- the chain of a stream is just what its length needs: none for no bytes
pub record Chained (v : Sight) (e : Entry) (xs : List ℕ) : Type 0 where
  pub some : e.length ≢ 0
  pub chain : chain_in v (home_of e.length) e.start ≡ Some xs
  pub units : length xs ≡ needed v (home_of e.length) e.length * unit_in v (home_of e.length)

abbrev pub Fits : Sight → Entry → Type 0
Fits v e = ((e.length ≡ 0) × (e.start ≡ END)) ⊎ ((xs : List ℕ) × Chained v e xs)

-- a stream that an id names
abbrev pub Stream : Sight → ℕ → Entry → Type 0
Stream v id e = (slice_get v.entries id ≡ Some e) × (is_stream e ≡ true)

-- two streams have one chain
pub record Shared (d e : Entry) : Type 0 where
  pub some : d.length ≢ 0
  pub other : e.length ≢ 0
  pub home : home_of d.length ≡ home_of e.length
  pub start : d.start ≡ e.start

-- each stream but that of id x has its chain, and no two have one
pub record Placed (v : Sight) (But : ℕ → Type 0) : Type 0 where
  pub fits : (i : ℕ) (e : Entry) → But i → Stream v i e → Fits v e
  pub apart : (i j : ℕ) (d e : Entry) → But i → But j → Stream v i d → Stream v j e → Shared d e → i ≡ j

-- a chain of h there is none of the streams' but that of id
abbrev pub Beside : Sight → ℕ → Home → ℕ → Type 0
Beside v id home h = (j : ℕ) (e : Entry) → j ≢ id → Stream v j e → e.length ≢ 0 → home_of e.length ≡ home → e.start ≢ h

-- no stream has the chain of h there
abbrev pub Unheld : Sight → Home → ℕ → Type 0
Unheld v home h = (j : ℕ) (e : Entry) → Stream v j e → e.length ≢ 0 → home_of e.length ≡ home → e.start ≢ h

-- the bytes of a stream
abbrev pub bytes_in : Sight → Entry → List ℕ
bytes_in v e = take e.length (unwrap_or (chain_in v (home_of e.length) e.start) [])

-- the first n bytes, and zeros behind where there are less
abbrev pub fitted : ℕ → List ℕ → List ℕ
fitted n xs = take n (xs ++ replicate (n - length xs) 0)
