-- Assumes nothing.
use Rattle.std.proofs.Common.{◌∙◌}
use Rattle.cells.proofs.Paths.{ranks-path, some_counted}
use Rattle.cells.proofs.Cells.units.Goals as goal

pub returns : goal.returns
returns c =
    let s = c.args.self.now in
    c.then_some.ensures ∙ some_counted _ _ (c.ranks-count.ensures ∙ ranks-path s.notes c.args.head s.counted)
