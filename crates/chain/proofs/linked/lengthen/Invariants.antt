-- What is left to put behind the chain goes as the whole.
-- Assumes nothing.
use Rattle.chain.proofs.Lengths.{Growing}
use Rattle.chain.proofs.linked.lengthen.Given as goal

abbrev pub invariant-loop : goal.invariant-loop
invariant-loop g l =
    let S = g.S.Linked in
    record {
      sound : S.sound l.s;
      keeps : S.keeps l.initial.s → S.keeps l.s;
      growing : Growing S.next S.put (S.web l.initial.s) l.head l.last l.count l.counter (S.web l.s) l.end;
    }
