-- Assumes nothing.
use Rattle.std.proofs.Common.{arith}
use Rattle.chain.proofs.Releases.{path_head, releasing_start, releasing_at, releasing_more, releasing_all}
use Rattle.chain.proofs.linked.release.Goals as goal

pub loop-init : goal.loop-init
loop-init g c = record {
  sound = c.requires.sound;
  keeps = λ k. k;
  releasing = releasing_start (path_head _ (g.S.Linked.woven _ c.requires.sound) _ (omega (arith, c.requires.some, c.requires.units))) c.requires.units;
}

pub give_back-place-requires : goal.give_back-place-requires
give_back-place-requires g c =
    let i = c.loop.invariant in
    let r = releasing_at i.releasing c.loop-test.true in
    record { sound = i.sound; live = r.0; first = r.1 }

pub loop-preserved : goal.loop-preserved
loop-preserved g c =
    let i = c.loop.invariant in
    let n = c.give_back-place.ensures in
    record {
      sound = n.sound;
      keeps = λ k. n.keeps (i.keeps k);
      releasing = releasing_more i.releasing c.loop-test.true (g.S.Linked.woven _ i.sound) n.told n.left n.gave;
    }

pub returns : goal.returns
returns g c =
    let i = c.loop.invariant in
    let r = releasing_all i.releasing (g.S.Linked.woven _ c.requires.sound) (g.S.Linked.woven _ i.sound) (omega arith) in
    record { sound = i.sound; keeps = i.keeps; left = r.0; means = r.1 }
