-- Assumes nothing.
use Rattle.std.proofs.Common.{ap, ◌∙◌, arith}
use Rattle.links.specs.Held.{links_of}
use Rattle.links.proofs.Stacks.{told_kept, few_of}
use Rattle.links.proofs.Layings.{laying_yes, laying_no, laying_all, laid_kept, laid-told}
use Rattle.links.proofs.stacked.Stacked.load.Goals as goal
use Rattle.links.proofs.stacked.Stacked.load.Goals.{then-link_or_free, else-link_or_free}

pub loop-place-preserved : goal.loop-place-preserved
loop-place-preserved c =
    let L = links_of c.args.links in
    elim c.if-link_or_free.branch [
      | then-link_or_free w ↦ laying_yes L _ _ _ _ c.loop-place.invariant (omega arith) c.link_or_free.ensures _ (few_of c.args.links)
          w.if-link_or_free.true w.push.ensures.told (ap links_of w.stack-is ∙ w.push.ensures.after)
      | else-link_or_free w ↦ laying_no L _ _ _ _ c.loop-place.invariant (omega arith) c.link_or_free.ensures w.if-link_or_free.false (ap links_of w.stack-is)
    ]

pub invariant_of-result : goal.invariant_of-result
invariant_of-result c =
    let L = links_of c.args.links in
    told_kept _ _ (laid_kept L _ c.in_ok-check.ensures.told (laying_all L _ _ c.loop-place.invariant (omega arith)))

pub returns : goal.returns
returns c =
    let L = links_of c.args.links in
    laid-told L _ c.in_ok-check.ensures.told (laying_all L _ _ c.loop-place.invariant (omega arith))
