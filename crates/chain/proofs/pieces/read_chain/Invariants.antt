-- Assumes nothing.
use Rattle.std.proofs.Common.{◌≡◌, ◌-◌, ◌≤◌, length, take, drop}
use Rattle.chain.specs.Units.{On, content}
use Rattle.chain.proofs.pieces.read_chain.Given as goal

abbrev pub invariant-loop-p : goal.invariant-loop-p
invariant-loop-p g l =
    let v = g.S.Units.view l.initial.s in
    record {
      sound : g.S.Units.sound l.s;
      same : g.S.Units.view l.s ≡ v;
      head : l.c.head ≡ l.head;
      at : l.c.at ≡ l.at;
      on : On v l.c;
      some : l.c.done ≤ length l.out;
      read : take l.c.done l.out ≡ take l.c.done (drop l.at (content v l.head));
    }

abbrev pub decreases-loop-p : goal.decreases-loop-p
decreases-loop-p g l = length l.initial.out - l.c.done
