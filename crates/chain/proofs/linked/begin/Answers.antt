-- Assumes nothing.
use Rattle.std.proofs.Common.{◌-◌, ap, ◌∙◌, arith}
use Rattle.chain.specs.Webs.{lengthened}
use Rattle.chain.proofs.Lengths.{begun}
use Rattle.chain.proofs.Strands.{free-none}
use Rattle.chain.proofs.linked.begin.Goals as goal

pub returns : goal.returns
returns g c =
    let S = g.S.Linked in
    let ww = S.woven _ c.requires.sound in
    let t = c.take-head.ensures in
    let n = c.lengthen.ensures in
    record {
      sound = n.sound;
      keeps = λ k. n.keeps (t.keeps k);
      told = t.told;
      left = n.left ∙ ap (λ w. lengthened S.next S.put (c.args.count - 1) w c.take-head.result) t.left;
      new = (free-none _ ww _ t.took.free, omega (arith, t.taken.new.place));
      means = begun (S.web c.lengthen.new.s) ww (S.woven _ t.sound) c.requires.some t.took t.taken n.means;
    }
