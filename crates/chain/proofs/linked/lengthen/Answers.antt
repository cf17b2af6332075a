-- Assumes nothing.
use Rattle.std.proofs.Common.{arith}
use Rattle.chain.proofs.Lengths.{growing_start, growing_more, growing_all, growing_end}
use Rattle.chain.proofs.linked.lengthen.Goals as goal

pub loop-init : goal.loop-init
loop-init g c = record {
  sound = c.requires.sound;
  keeps = λ k. k;
  growing = growing_start (g.S.Linked.woven _ c.requires.sound) c.requires.ends;
}

pub append-end-requires-clause-end : goal.append-end-requires-clause-end
append-end-requires-clause-end g c = growing_end c.loop.invariant.growing

pub loop-preserved : goal.loop-preserved
loop-preserved g c =
    let i = c.loop.invariant in
    let n = c.append-end.ensures in
    record {
      sound = n.sound;
      keeps = λ k. n.keeps (i.keeps k);
      growing = growing_more i.growing c.loop-test.true (g.S.Linked.woven _ i.sound) (g.S.Linked.woven _ n.sound) n.told n.left n.behind;
    }

pub returns : goal.returns
returns g c =
    let i = c.loop.invariant in
    let r = growing_all i.growing (omega arith) in
    record { sound = i.sound; keeps = i.keeps; left = r.0; means = r.1 }
