-- What the table tells of a place: which was taken, and the link at one of a chain.
-- Assumes nothing.
use Rattle.std.proofs.Common.{◌≡◌, ℕ, ◌+◌, ◌<◌, length, get_or, Some, Option, Bool, sym, ap, ◌∙◌}
use Rattle.std.proofs.lemmas.Option.{same_Some}
use Rattle.std.specs.List.{slice_get}
use Rattle.links.specs.Held.{links_of}
use Rattle.links.specs.Stacked.{table_of}
use Rattle.links.specs.declared.held.Links.{Links}
use Rattle.links.specs.declared.stacked.Stacked.{Stacked}
use Rattle.store.specs.Meaning.{Store}
use Rattle.chain.specs.Webs.{path_of}
use Rattle.mini.proofs.Copies.{next_is}
use Rattle.mini.proofs.Laws.{stacked_woven}
use Rattle.minialloc.specs.States.{state_in, web_in, Sound}

pub place_told : (o : Option ℕ) (p q : ℕ) → o ≡ Some q → o ≡ Some p → p ≡ q
place_told o p q a b = same_Some p q (sym b ∙ a)

pub next_told : (o : Bool) (m : Store) (t : Stacked) → Sound (state_in o m t) → (h r p : ℕ) → p ≡ get_or (path_of (table_of t) h) r 0 → r + 1 < length (path_of (table_of t) h)
    → (l : Links) (got : Option ℕ) → l ≡ t.links → got ≡ slice_get (links_of l) p → got ≡ Some (get_or (path_of (table_of t) h) (r + 1) 0)
next_told o m t sound h r p here more l got told is =
    is ∙ ap (λ x. slice_get (links_of x) p) told ∙ next_is (web_in (state_in o m t)) (stacked_woven t m sound.1) h r p here more
