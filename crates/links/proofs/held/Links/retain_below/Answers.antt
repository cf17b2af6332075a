-- Assumes nothing.
use Rattle.std.proofs.Common.{◌≡◌, ℕ, ◌+◌, ◌<◌, ◌≤◌, ltb, List, length, get_or, take, set, filter, refl, ap, ◌∙◌, arith}
use Rattle.std.proofs.lemmas.List.Filters.{FiltersInPlace, FiltersInPlace-more_set, FiltersInPlace-more_no}
use Rattle.std.proofs.lemmas.Bool.{lt-ltb, le-ltb}
use Rattle.std.proofs.lemmas.List.{get_or_default}
use Rattle.links.proofs.held.Links.retain_below.Goals as goal
use Rattle.links.proofs.held.Links.retain_below.Goals.{then-link-bound, else-link-bound}

module _ (xs ys zs : List ℕ) (b k m i : ℕ) (h : FiltersInPlace (λ x. ltb x b) xs ys k i) (short : i < length ys) where
  below : get_or ys i 0 < b → zs ≡ set ys k (get_or ys i 0) → m ≡ k + 1 → FiltersInPlace (λ x. ltb x b) xs zs m (i + 1)
  below l e f = rw (e, f) (FiltersInPlace-more_set h short (lt-ltb _ b l) (get_or_default ys i 0 _ short))

  above : b ≤ get_or ys i 0 → zs ≡ ys → m ≡ k → FiltersInPlace (λ x. ltb x b) xs zs m (i + 1)
  above l e f = rw (e, f) (FiltersInPlace-more_no {x = get_or ys i 0} h short (le-ltb _ b l) (get_or_default ys i 0 _ short))

pub loop-place-init : goal.loop-place-init
loop-place-init c = (record { front = refl; rest = refl; behind = omega arith; within = omega arith; long = refl }, refl)

pub loop-place-preserved : goal.loop-place-preserved
loop-place-preserved c =
    let s = c.loop-place.self in
    let h = c.loop-place.invariant.0 in
    let t = c.loop-place.invariant.1 in
    let k : c.loop-place.place < length s.links = omega arith in
    elim c.if-link-bound.branch [
      | then-link-bound w ↦ (below _ _ _ c.args.bound _ _ _ h k w.if-link-bound.true (ap (λ s. s.links) w.self-is) w.kept-is, ap (λ s. s.count) w.self-is ∙ t)
      | else-link-bound w ↦ (above _ _ _ c.args.bound _ _ _ h k w.if-link-bound.false (ap (λ s. s.links) w.self-is) w.kept-is, ap (λ s. s.count) w.self-is ∙ t)
    ]

pub returns : goal.returns
returns c = c.loop-place.invariant.0.front ∙ ap (λ n. filter (λ x. ltb x c.args.bound) (take n c.args.self.now.links)) (omega arith)
