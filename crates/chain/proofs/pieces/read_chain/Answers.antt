-- Assumes nothing.
use Rattle.std.proofs.Common.{◌≡◌, length, sym, ◌∙◌, arith, rules}
use Rattle.std.proofs.lemmas.List.{take_all}
use Rattle.chain.proofs.Views.{lies, piece_none, read_turn}
use Rattle.chain.proofs.pieces.read_chain.Goals as goal

pub read_unit-requires-clause-unit : goal.read_unit-requires-clause-unit
read_unit-requires-clause-unit g c =
    let i = c.loop-p.invariant in
    let l = lies _ c.loop-p.c _ c.in-Some.p (g.S.Units.whole _ i.sound) (rw (i.same, i.head) (omega arith)) c.in-Some.ensures.told in
    rw c.next_piece.ensures.same l.unit

pub loop-p-preserved : goal.loop-p-preserved
loop-p-preserved g c =
    let i = c.loop-p.invariant in
    let m = rw i.same at c.in-Some.ensures.moved in
    let s = c.next_piece.ensures.same ∙ i.same in
    let ok = g.S.Units.whole _ i.sound in
    let l = rw i.same at (lies _ c.loop-p.c _ c.in-Some.p ok (rw (i.same, i.head) (omega arith)) c.in-Some.ensures.told) in
    let r = read_turn c.args.head c.args.at c.loop-p.out c.read_unit.new.out (omega arith) i.read i.head i.at l (rw s at c.read_unit.ensures.read) in
    record {
      sound = c.read_unit.ensures.sound;
      same = c.read_unit.ensures.same ∙ s;
      head = m.head ∙ i.head;
      at = m.at ∙ i.at;
      on = m.on;
      some = search rules;
      read = rw m.done r;
    }

pub returns-clause-read : goal.returns-clause-read
returns-clause-read g c =
    let i = c.loop-p.invariant in
    let n : c.loop-p.c.done ≡ length c.args.out.now = omega (arith, piece_none (g.S.Units.view c.loop-p.s) c.loop-p.c _ c.in_default.ensures.told) in
    sym (take_all _ _ (omega (arith, n))) ∙ rw n at i.read
