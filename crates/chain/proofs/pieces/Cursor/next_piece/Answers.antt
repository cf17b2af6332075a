-- Assumes nothing.
use Rattle.std.proofs.Common.{◌≡◌, ◌+◌, ◌-◌, ◌*◌, ◌/◌, ◌%◌, ◌≤◌, min, get_or, refl, ap, ◌∙◌, subst, arith}
use Rattle.std.proofs.lemmas.Bool.{lt-ltb}
use Rattle.std.proofs.Math.Nat.{div-mul-le_self}
use Rattle.chain.proofs.Views.{units_in}
use Rattle.chain.proofs.pieces.Cursor.next_piece.Goals as goal

pub next-self-requires-clause-here : goal.next-self-requires-clause-here
next-self-requires-clause-here g c =
    let i = c.loop-rank.invariant in
    let b = c.args.self.now in
    let n = units_in _ (g.S.Units.whole _ c.requires.sound) b.head (b.at + b.done) (omega arith) in
    rw (i.same, i.head) (i.here (omega arith))

pub next-self-requires-clause-more : goal.next-self-requires-clause-more
next-self-requires-clause-more g c =
    let i = c.loop-rank.invariant in
    let b = c.args.self.now in
    let n = units_in _ (g.S.Units.whole _ c.requires.sound) b.head (b.at + b.done) (omega arith) in
    rw (i.same, i.head) (omega (arith, n, rw c.unit_len-unit.ensures at c.loop-rank-test.true))

pub returns : goal.returns
returns g c =
    let i = c.loop-rank.invariant in
    let b = c.args.self.now in
    let v = g.S.Units.view c.args.s.now in
    let x = b.at + b.done in
    let k = c.unit_len-unit.result in
    let u = c.unit_len-unit.ensures in
    let n = units_in v (g.S.Units.whole _ c.requires.sound) b.head x (omega arith) in
    let r : c.loop-rank.rank ≡ x / k = omega (arith, rw (← u) at i.low, c.loop-rank-test.false) in
    let m : c.min.result ≡ min (k - x % k) (c.args.total - c.loop-rank.self.done) = c.min.ensures in
    let h = i.here (omega (arith, n, i.low)) in
    record {
      sound = i.sound;
      same = i.same;
      told = rw (lt-ltb b.done c.args.total (omega arith)) (cc (u, m, i.done, rw r at h));
      moved = record {
        head = i.head;
        at = i.at;
        done = refl;
        on = record {
          here = rw i.head (λ m. h ∙ ap (λ j. get_or (v.path b.head) j 0) (omega (arith, r)));
          before = omega (arith, i.at, i.done, subst (λ w. x / k * w ≤ x) u (div-mul-le_self x k));
        };
      };
    }
