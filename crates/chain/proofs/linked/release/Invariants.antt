-- What is left to give back goes as the whole.
-- Assumes nothing.
use Rattle.chain.specs.Webs.{path_of}
use Rattle.chain.proofs.Releases.{Releasing}
use Rattle.chain.proofs.linked.release.Given as goal

abbrev pub invariant-loop : goal.invariant-loop
invariant-loop g l =
    let S = g.S.Linked in
    let w = S.web l.initial.s in
    record {
      sound : S.sound l.s;
      keeps : S.keeps l.initial.s → S.keeps l.s;
      releasing : Releasing S.gave w l.head (path_of w.links l.head) l.units l.counter (S.web l.s) l.place;
    }
