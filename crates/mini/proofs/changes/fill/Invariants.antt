-- What is left to fill makes the whole.
-- Assumes nothing.
use Rattle.std.proofs.Common.{◌≡◌, ◌+◌, ◌-◌, ◌≤◌}
use Rattle.mini.specs.Adding.{filled}
use Rattle.mini.proofs.changes.fill.Given as goal

abbrev pub invariant-loop-rank : goal.invariant-loop-rank
invariant-loop-rank g l =
    let means = g.H.ChainStore.meaning in
    let layer = g.H.ChainStore.LAYER in
    (filled (l.count - l.rank) (means l.host) layer l.head (l.from + l.rank) ≡ filled l.count (means l.initial.host) layer l.head l.from)
    × (l.unit ≡ (means l.host).unit) × (l.unit ≤ 4096)
