-- Assumes nothing.
use Rattle.std.proofs.Common.{arith}
use Rattle.links.proofs.Stacks.{kept_of, told_kept, kept_cut}
use Rattle.links.proofs.stacked.Stacked.cut_off.Goals as goal

pub invariant_of-self : goal.invariant_of-self
invariant_of-self c =
    told_kept _ _ (kept_cut _ _ _ c.args.place _ (kept_of c.args.self.now) c.link_or_free-link.ensures (omega arith) c.set.ensures.after)
