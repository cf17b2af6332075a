-- Assumes nothing.
use Rattle.std.proofs.Common.{◌-◌, refl, ◌∙◌, arith}
use Rattle.std.proofs.lemmas.Bool.{lt-ltb, le-ltb}
use Rattle.chain.specs.Webs.{released}
use Rattle.chain.proofs.Cuts.{cut_none, cut_points, cut_units, cut_means}
use Rattle.chain.proofs.linked.cut.Goals as goal

pub returns-then-keep-found : goal.returns-then-keep-found
returns-then-keep-found g c =
    let r = c.requires in
    record {
      sound = r.sound;
      keeps = λ k. k;
      left = rw (le-ltb c.args.keep c.args.found.units c.if-keep-found.true) refl;
      means = cut_none (g.S.Linked.woven _ r.sound) c.args.head r.some r.units r.place (omega (arith, r.fewer));
    }

pub cut_off-next-requires-clause-points : goal.cut_off-next-requires-clause-points
cut_off-next-requires-clause-points g c =
    let r = c.requires in
    cut_points (g.S.Linked.woven _ r.sound) c.args.head r.some r.units r.place c.if-keep-found.false

pub release-requires-clause-units : goal.release-requires-clause-units
release-requires-clause-units g c =
    let r = c.requires in
    let n = c.cut_off-next.ensures in
    cut_units (g.S.Linked.woven _ r.sound) c.args.head r.some r.units r.place c.if-keep-found.false (g.S.Linked.woven _ n.sound) n.ended n.told

pub returns : goal.returns
returns g c =
    let woven = g.S.Linked.woven in
    let r = c.requires in
    let n = c.cut_off-next.ensures in
    record {
      sound = c.release.ensures.sound;
      keeps = λ k. c.release.ensures.keeps (n.keeps k);
      left = rw (lt-ltb c.args.keep c.args.found.units c.if-keep-found.false)
          (c.release.ensures.left ∙ (λ i. released g.S.Linked.gave (c.args.found.units - c.args.keep) (n.left i) (n.told i)));
      means = cut_means (woven _ r.sound) c.args.head r.some r.units r.place c.if-keep-found.false (woven _ n.sound) n.ended n.told
          (g.S.Linked.web c.release.new.s) c.release.ensures.means;
    }
