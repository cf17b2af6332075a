-- Assumes nothing.
use Rattle.std.proofs.Common.{◌≤◌, length, ◌∙◌, arith, rules}
use Rattle.std.proofs.lemmas.List.{take_all}
use Rattle.chain.proofs.Views.{lies, piece_none, wrote_none, wrote_turn}
use Rattle.chain.proofs.pieces.write_chain.Goals as goal

pub loop-p-init : goal.loop-p-init
loop-p-init g c = record {
  sound = c.requires.sound;
  head = search rules;
  at = search rules;
  on = search rules;
  whole = c.requires.whole;
  wrote = rw c.new-c.ensures (wrote_none _ _ _);
}

pub write_unit-requires-clause-unit : goal.write_unit-requires-clause-unit
write_unit-requires-clause-unit g c =
    let i = c.loop-p.invariant in
    let l = lies _ c.loop-p.c _ c.in-Some.p (g.S.Units.whole _ i.sound) (rw i.head (omega arith)) c.in-Some.ensures.told in
    rw c.next_piece.ensures.same l.unit

pub loop-p-preserved : goal.loop-p-preserved
loop-p-preserved g c =
    let i = c.loop-p.invariant in
    let m = c.in-Some.ensures.moved in
    let l = lies _ c.loop-p.c _ c.in-Some.p (g.S.Units.whole _ i.sound) (rw i.head (omega arith)) c.in-Some.ensures.told in
    let e = rw c.next_piece.ensures.same at c.write_unit.ensures.put in
    let t = wrote_turn _ c.args.head c.args.at c.args.src.now (omega arith) c.requires.whole i.wrote i.head i.at l e in
    record {
      sound = c.write_unit.ensures.sound;
      head = m.head ∙ i.head;
      at = m.at ∙ i.at;
      on = t.2 _ m.on;
      whole = t.1;
      wrote = rw m.done t.0;
    }

pub returns-clause-wrote : goal.returns-clause-wrote
returns-clause-wrote g c =
    let i = c.loop-p.invariant in
    let n : length c.args.src.now ≤ c.loop-p.c.done = omega (arith, piece_none (g.S.Units.view c.loop-p.s) c.loop-p.c _ c.in_default.ensures.told) in
    rw (c.in_default.ensures.same, ← take_all _ _ n) i.wrote
