-- Assumes nothing.
use Rattle.links.proofs.Stacks.{kept_of}
use Rattle.links.proofs.stacked.Stacked.free.Goals as goal

pub returns-clause-stacks : goal.returns-clause-stacks
returns-clause-stacks c = (kept_of c.args.self.now).stacks
