-- Assumes nothing.
use Rattle.cells.proofs.Joins.{yes, joined_sound, joined-filled, joined-stored}
use Rattle.cells.proofs.Paths.{sound_of}
use Rattle.cells.proofs.Cells.join.Goals as goal

pub invariant_of-self : goal.invariant_of-self
invariant_of-self c =
    let s = c.args.self.now in
    let fill = c.fill.ensures.after (λ y e. e) in
    let k = joined_sound s.notes s.bytes (sound_of s) s.filled c.args.unit c.args.head c.in_ok-rank.rank c.fill.new.self fill c.in_ok-rank.ensures in
    let f = joined-filled s.notes s.bytes (sound_of s) s.filled c.args.unit c.args.head c.in_ok-rank.rank c.fill.new.self fill c.in_ok-rank.ensures in
    record { counted = k.counted; filled = f; unique = k.unique; down = k.down; named = k.named }

pub returns-clause-left : goal.returns-clause-left
returns-clause-left c n =
    let s = c.args.self.now in
    let fill = c.fill.ensures.after (λ y e. e) in
    rw (yes s.notes s.bytes (sound_of s) s.filled c.args.unit c.args.head c.in_ok-rank.rank c.fill.new.self fill c.in_ok-rank.ensures)
    (joined-stored s.notes s.bytes (sound_of s) s.filled c.args.unit c.args.head c.in_ok-rank.rank c.fill.new.self fill c.in_ok-rank.ensures n)
