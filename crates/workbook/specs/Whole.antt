-- What holds of an open workbook.
-- Assumes nothing.
use Rattle.std.specs.Prelude.{◌≡◌, ℕ, ◌≤◌, true, length}
use Rattle.links.specs.Links.{at, Checked}
use Rattle.links.specs.Stack.{Stacks}
use Rattle.store.specs.Kinds.{byte_of}
use Rattle.store.specs.Meaning.{Lawful, Hosted}
use Rattle.mini.specs.Mini.{root_of}
use Rattle.minialloc.specs.States.{State, meant_in, Sound, SyncedIn}
use Rattle.workbook.specs.Sights.{seen, Placed}

-- the host bears the table out, the MiniFAT's bytes are its links, entry 0 is the root, and each stream has its own chain
pub record Whole (s : State) : Type 0 where
  pub sound : Sound s
  pub synced : SyncedIn s
  pub root : byte_of (root_of s.host).kind ≡ 5
  pub placed : Placed (seen s) (λ j. Unit {0})

-- of a shut one nothing
abbrev pub Holds : State → Type 0
Holds s = ∥ (s.opened ≡ true → Whole s) ∥₁

-- of every state, open or shut: the laws of host and mini store, and a table that is checked, with the stack of its FREE
-- places
pub record Meant (most : ℕ) (s : State) : Type 0 where
  pub lawful : Lawful most s.host
  pub hosted : Hosted s.host
  pub mini : Lawful 4096 (meant_in s)
  pub few : length s.links ≤ 4096
  pub checked : Checked (at s.links)
  pub stacks : Stacks s.links s.stack
