-- A table held with its stack: what it means, and what its calls tell and leave.
-- Assumes nothing.
use Rattle.std.specs.Prelude.{◌≡◌, ℕ, List, Some, None, Ok, Err, if◌then◌else◌, MatchResult, Option, Result, slice_set}
use Rattle.links.specs.declared.checks.LinkFault.{LinkFault}
use Rattle.links.specs.declared.stacked.Stacked.{Stacked}
use Rattle.links.specs.Check.{verdict}
use Rattle.links.specs.Held.{links_of}
use Rattle.links.specs.Links.{END, at}
use Rattle.links.specs.Stack.{has_room, place_after, links_taken, stack_taken, joinable, onward, free_places}

-- its links
abbrev pub table_of : Stacked → List ℕ
table_of s = links_of s.links

-- its FREE places, the last laid last
abbrev pub stack_of : Stacked → List ℕ
stack_of s = links_of s.stack

-- loading the links L: they are checked, and their FREE places laid; or the check refuses them
abbrev pub Loads : List ℕ → Result Stacked LinkFault → Type 0
Loads L r =
    MatchResult r (λ s. (verdict L ≡ Ok tt) × (table_of s ≡ L) × (stack_of s ≡ free_places L)) (λ f. verdict L ≡ Err f)

-- the place that is taken, and the table then; nothing, and no change, where there is no room
abbrev pub place_taken : Stacked → Option ℕ
place_taken s = if has_room (table_of s) (stack_of s) then Some (place_after (table_of s) (stack_of s)) else None

abbrev pub table_taken : Stacked → List ℕ
table_taken s = if has_room (table_of s) (stack_of s) then links_taken (table_of s) (stack_of s) else table_of s

-- the same where it is put behind the place e, and the stack then; nothing, and no change, where it cannot be
abbrev pub place_joined : Stacked → ℕ → Option ℕ
place_joined s e =
    if joinable (table_of s) (stack_of s) e then Some (place_after (table_of s) (stack_of s)) else None

abbrev pub table_joined : Stacked → ℕ → List ℕ
table_joined s e =
    if joinable (table_of s) (stack_of s) e
    then slice_set (links_taken (table_of s) (stack_of s)) e (place_after (table_of s) (stack_of s))
    else table_of s

abbrev pub stack_joined : Stacked → ℕ → List ℕ
stack_joined s e = if joinable (table_of s) (stack_of s) e then stack_taken (stack_of s) else stack_of s

-- the link behind which a chain is cut off at the place p, and the table L then; nothing, and no change, where there is none
abbrev pub link_cut : List ℕ → ℕ → Option ℕ
link_cut L p = if onward (at L p) then Some (at L p) else None

abbrev pub table_cut : List ℕ → ℕ → List ℕ
table_cut L p = if onward (at L p) then slice_set L p END else L
