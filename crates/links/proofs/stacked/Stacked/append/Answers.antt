-- Assumes nothing.
use Rattle.std.proofs.Common.{sym, ◌∙◌}
use Rattle.links.proofs.Stacks.{kept_of, few_of, told_kept}
use Rattle.links.proofs.Takings.{joined}
use Rattle.links.proofs.stacked.Stacked.append.Goals as goal

pub invariant_of-self : goal.invariant_of-self
invariant_of-self c =
    let s = c.args.self.now in
    told_kept _ _ (joined _ _ _ _ _ c.args.last _ (few_of s.links) (kept_of s) (kept_of c.take.new.self) (sym c.link_or_free.ensures ∙ c.if-link_or_free.false) c.in_ok-place.ensures.told c.take.ensures.table c.take.ensures.places c.set.ensures.after)
