-- The links below the bound, of those looked at, stand in front; those not looked at are as they were.
-- Assumes nothing.
use Rattle.std.proofs.Common.{◌≡◌, ltb}
use Rattle.std.proofs.lemmas.List.Filters.{FiltersInPlace}
use Rattle.links.proofs.held.Links.retain_below.Given as goal

abbrev pub invariant-loop-place : goal.invariant-loop-place
invariant-loop-place l = FiltersInPlace (λ x. ltb x l.bound) l.initial.self.links l.self.links l.kept l.place × (l.self.count ≡ l.initial.self.count)
