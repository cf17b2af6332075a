-- What becomes of a stream's chain, step by step: which calls of which store, one after the other. layer is the host's layer,
-- and most the most units that it has.
-- Assumes nothing.
use Rattle.std.specs.Prelude.{◌≡◌, ℕ, ◌+◌, ◌-◌, Bool, true, false, cond, List, length, min, take, Ok, Err, Result, nat_lt, ◌==◌}
use Rattle.links.specs.Links.{END}
use Rattle.store.specs.Refusals.{Refused, answer}
use Rattle.store.specs.declared.entries.Entry.{Entry}
use Rattle.workbook.specs.Sights.{seen, home_of, needed}
use Rattle.store.specs.Meaning.{Lawful, bytes_of, units_of, due_head, due_copy, due_extend, due_cut}
use Rattle.minialloc.specs.States.{State, meant_in, roomier}
use Rattle.workbook.specs.declared.homes.Home.{Home}
use Rattle.workbook.specs.declared.homes.Home.TheVariants.{Mini, Host}
use Rattle.workbook.specs.declared.plans.Plan.{Plan}
use Rattle.workbook.specs.Homes.{store_in, layer_in, same_home, WritesIn, BeginsIn, ExtendsIn, CutsIn, FreesIn}

-- a state, what is answered, and the state after
abbrev pub Step : Type 0 → Type 1
Step A = State → Result A Refused → State → Type 0

-- nothing is done
abbrev pub Done : {A : Type 0} → A → Step A
Done x s r after = (r ≡ Ok x) × (after ≡ s)

-- a step, and where it is accepted one that goes by its answer; a refusal is passed on
abbrev pub After : {A B : Type 0} → Result A Refused → (A → Step B) → Step B
After (Ok x) next s r after = next x s r after
After (Err f) next s r after = (r ≡ Err f) × (after ≡ s)

abbrev pub Choose : {A : Type 0} → Bool → Step A → Step A → Step A
Choose true one other = one
Choose false one other = other

module _ (most layer : ℕ) where
  -- in between it is a state as any
  abbrev pub Then : {A B : Type 0} → Step A → (A → Step B) → Step B
  Then {A} first next s r after = (x : Result A Refused) × (mid : State) × Lawful most mid.host × first s x mid × After x next mid r after

  abbrev pub Reading : Home → ℕ → ℕ → Step (List ℕ)
  Reading home h n s r after =
      (r ≡ answer (due_copy (store_in s home) (layer_in layer home) h n) (take n (bytes_of (store_in s home) h))) × (after ≡ s)

  abbrev pub Writing : Home → ℕ → ℕ → List ℕ → Step (Unit {0})
  Writing home h at ys s r after =
      (r ≡ answer (due_copy (store_in s home) (layer_in layer home) h (at + length ys)) tt) × WritesIn layer s home h at ys r after

  abbrev pub Beginning : Home → ℕ → Step ℕ
  Beginning home n s r after = BeginsIn most layer s home n r after

  abbrev pub Extending : Home → ℕ → ℕ → Step (Unit {0})
  Extending home h n s r after =
      (r ≡ answer (due_extend (store_in s home) (layer_in layer home) h n) tt) × ExtendsIn most layer s home h n r after

  abbrev pub Cutting : Home → ℕ → ℕ → Step (Unit {0})
  Cutting home h k s r after = (r ≡ answer (due_cut (store_in s home) (layer_in layer home) h k) tt) × CutsIn layer s home h k r after

  abbrev pub Freeing : Home → ℕ → Step (Unit {0})
  Freeing home h s r after = (r ≡ answer (due_head (store_in s home) (layer_in layer home) h) tt) × FreesIn layer s home h r after

  -- a chain of so many units has as many as are wanted
  abbrev pub Stretching : Home → ℕ → ℕ → ℕ → Step (Unit {0})
  Stretching home h have want =
      Choose (nat_lt have want) (Extending home h (want - have)) (Choose (nat_lt want have) (Cutting home h want) (Done tt))

  -- the first bytes of a chain are carried to a new one, when the old is gone
  abbrev pub Carrying : Plan → Step ℕ
  Carrying p =
      Then (Reading p.from p.start p.keep) (λ xs. Then (Freeing p.from p.start) (λ _. Then (Beginning p.to p.want) (λ h. Then (Writing p.to h 0 xs) (λ _. Done h))))

  -- a chain goes, comes, or becomes another; the answer is where the new one starts
  abbrev pub Rebuilding : Plan → Step ℕ
  Rebuilding p =
      Choose (p.want == 0) (Choose (p.have == 0) (Done END) (Then (Freeing p.from p.start) (λ _. Done END)))
      (Choose (p.have == 0) (Beginning p.to p.want)
      (Choose (same_home p.from p.to) (Then (Stretching p.to p.start p.have p.want) (λ _. Done p.start)) (Carrying p)))

-- the bytes of the old chain that are in the new one
abbrev pub stays : Plan → List ℕ → List ℕ
stays p xs = cond (same_home p.from p.to) xs (take p.keep xs)

-- the units that a plan needs, and the room for them: that of the store where they are to lie, when the units of the other
-- store are given back
abbrev pub need_for : Plan → ℕ
need_for p = cond (same_home p.from p.to) (p.want - p.have) p.want

abbrev pub room_by : State → Home → Home → ℕ → ℕ
room_by s Mini Mini have = (meant_in s).room
room_by s Mini Host have = s.host.room
room_by s Host Host have = s.host.room
room_by s Host Mini have = (meant_in (roomier s have)).room

abbrev pub room_for : State → Plan → ℕ
room_for s p = room_by s p.from p.to p.have

-- the plan for a stream e that is to have n bytes
pub record PlanOf (s : State) (e : Entry) (n : ℕ) (p : Plan) : Type 0 where
  pub from : p.from ≡ home_of e.length
  pub start : p.start ≡ e.start
  pub have : p.have ≡ units_of (store_in s (home_of e.length)) e.start
  pub to : p.to ≡ home_of n
  pub want : p.want ≡ needed (seen s) (home_of n) n
  pub keep : p.keep ≡ min (min e.length n) 4096
