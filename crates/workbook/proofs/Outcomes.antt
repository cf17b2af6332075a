-- What a call that changes a stream leaves, in few words: of its stream, of the others, and of the chains that no stream has.
-- Assumes nothing.
use Rattle.std.proofs.Common.{◌≡◌, ℕ, ◌≢◌, List, Some, ◌∙◌}
use Rattle.std.specs.List.{slice_get}
use Rattle.store.specs.declared.entries.Entry.{Entry}
use Rattle.chain.specs.Webs.{path_of}
use Rattle.minialloc.specs.States.{State}
use Rattle.workbook.specs.declared.homes.Home.{Home}
use Rattle.workbook.specs.declared.homes.Home.TheVariants.{Mini}
use Rattle.workbook.specs.Sights.{seen, chain_in, Stream, Unheld, bytes_in}
use Rattle.workbook.specs.Whole.{Whole}

-- the stream of id has the bytes xs, and all others are as they were
pub record Outcome (s z : State) (id : ℕ) (n : ℕ) (xs : List ℕ) : Type 0 where
  pub whole : Whole z
  pub entry : (e : Entry) × Stream (seen z) id e × (e.length ≡ n) × (bytes_in (seen z) e ≡ xs)
  pub entries : (j : ℕ) → j ≢ id → slice_get (seen z).entries j ≡ slice_get (seen s).entries j
  pub bytes : (j : ℕ) (e : Entry) → j ≢ id → Stream (seen s) j e → bytes_in (seen z) e ≡ bytes_in (seen s) e

-- each chain of z that no stream has is one of s that none had, at the same places
pub record Strays (s z : State) : Type 0 where
  pub unit : (seen z).unit ≡ (seen s).unit
  pub chain : (b : Home) (h : ℕ) (xs : List ℕ) → chain_in (seen z) b h ≡ Some xs → Unheld (seen z) b h → (chain_in (seen s) b h ≡ Some xs) × Unheld (seen s) b h
  pub places : (h : ℕ) (xs : List ℕ) → chain_in (seen z) Mini h ≡ Some xs → Unheld (seen z) Mini h → path_of z.links h ≡ path_of s.links h

pub strays_on : (s y z : State) → Strays s y → Strays y z → Strays s z
strays_on s y z a b = record {
  unit = b.unit ∙ a.unit;
  chain = λ c h xs e u. let t = b.chain c h xs e u in a.chain c h xs t.0 t.1;
  places = λ h xs e u. let t = b.chain Mini h xs e u in b.places h xs e u ∙ a.places h xs t.0 t.1;
}
