-- Assumes nothing.
use Rattle.links.proofs.Stacks.{kept_of, few_of, told_kept, given_back}
use Rattle.links.proofs.stacked.Stacked.give_back.Goals as goal

pub invariant_of-self : goal.invariant_of-self
invariant_of-self c =
    let s = c.args.self.now in
    told_kept _ _ (given_back _ _ _ _ c.args.place _ (few_of s.links) (kept_of s) c.requires.used c.requires.first c.push.ensures.told c.set.ensures.after c.push.ensures.after)
