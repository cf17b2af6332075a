-- Assumes nothing.
use Rattle.std.proofs.Common.{◌≡◌, ◌+◌, ◌/◌, ◌<◌, ◌≤◌, length, get_or}
use Rattle.chain.proofs.pieces.Cursor.next_piece.Given as goal

abbrev pub invariant-loop-rank : goal.invariant-loop-rank
invariant-loop-rank g l =
    let v = g.S.Units.view l.initial.s in
    let c = l.initial.self in
    record {
      sound : g.S.Units.sound l.s;
      same : g.S.Units.view l.s ≡ v;
      head : l.self.head ≡ c.head;
      at : l.self.at ≡ c.at;
      done : l.self.done ≡ c.done;
      low : l.rank ≤ (c.at + c.done) / v.unit;
      here : l.rank < length (v.path c.head) → l.self.place ≡ get_or (v.path c.head) l.rank 0;
    }
