-- Assumes nothing.
use Rattle.links.proofs.Stacks.{kept_of, few_of, told_kept}
use Rattle.links.proofs.Takings.{took_popped, took_grown, took_kept}
use Rattle.links.proofs.stacked.Stacked.take.Goals as goal

pub invariant_of-self : goal.invariant_of-self
invariant_of-self c =
    let s = c.args.self.now in
    told_kept _ _ (took_popped _ _ _ _ c.in-Some.place (few_of s.links) (kept_of s) c.in-Some.ensures.told c.pop.ensures.after c.set.ensures.after).1

pub invariant_of-self-in-None : goal.invariant_of-self-in-None
invariant_of-self-in-None c =
    let s = c.args.self.now in
    told_kept _ _ (took_kept _ _ _ _ _ (kept_of s) c.in-None.ensures.told c.pop.ensures.after c.push.ensures.told c.push.ensures.after)

pub returns-in-Some : goal.returns-in-Some
returns-in-Some c =
    let s = c.args.self.now in
    (took_popped _ _ _ _ c.in-Some.place (few_of s.links) (kept_of s) c.in-Some.ensures.told c.pop.ensures.after c.set.ensures.after).0

pub returns-in-None : goal.returns-in-None
returns-in-None c =
    let s = c.args.self.now in
    (took_grown _ _ _ _ _ (kept_of s) c.in-None.ensures.told c.pop.ensures.after c.push.ensures.told c.push.ensures.after _ _ c.count-place.ensures.told c.then_some.ensures).0
