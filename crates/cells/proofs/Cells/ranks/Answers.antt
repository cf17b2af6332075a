-- Assumes nothing.
use Rattle.std.proofs.Common.{rules, ◌≡◌, ◌∙◌, count_by}
use Rattle.cells.proofs.Heads.{heads, noted-ranks}
use Rattle.cells.proofs.Paths.{sound_of}
use Rattle.cells.proofs.Cells.ranks.Goals as goal

pub returns : goal.returns
returns c =
    let s = c.args.self.now in
    let k : c.count.result ≡ count_by (heads c.args.head) s.notes = search rules in
    k ∙ noted-ranks s.notes c.args.head (sound_of s)
