-- Assumes nothing.
use Rattle.std.proofs.Common.{ap, ◌∙◌}
use Rattle.links.specs.Links.{at}
use Rattle.links.proofs.Stacks.{kept_of, told_kept}
use Rattle.links.proofs.Tables.{trim}
use Rattle.links.proofs.Trimmings.{trimmed_off}
use Rattle.links.proofs.stacked.Stacked.trim.Goals as goal

pub invariant_of-self : goal.invariant_of-self
invariant_of-self c =
    let k = c.trimmed_count-kept.ensures in
    told_kept _ _ (trimmed_off _ _ _ _ _ (kept_of c.args.self.now) k.told k.past c.truncate.ensures c.retain_below.ensures)

pub returns-clause-same : goal.returns-clause-same
returns-clause-same c = ap at c.truncate.ensures ∙ trim _ _ c.trimmed_count-kept.ensures.past
