-- Assumes nothing.
use Rattle.std.proofs.Common.{◌≡◌, ◌+◌, ◌-◌, ◌≤◌, length, take}
use Rattle.chain.specs.Units.{On, Wrote, content}
use Rattle.chain.proofs.pieces.write_chain.Given as goal

abbrev pub invariant-loop-p : goal.invariant-loop-p
invariant-loop-p g l =
    let v = g.S.Units.view l.s in
    record {
      sound : g.S.Units.sound l.s;
      head : l.c.head ≡ l.head;
      at : l.c.at ≡ l.at;
      on : On v l.c;
      whole : l.at + length l.src ≤ length (content v l.head);
      wrote : Wrote (g.S.Units.view l.initial.s) v l.head l.at (take l.c.done l.src);
    }

abbrev pub decreases-loop-p : goal.decreases-loop-p
decreases-loop-p g l = length l.src - l.c.done
