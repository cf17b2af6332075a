-- Assumes nothing.
use Rattle.links.proofs.Stacks.{kept_of}
use Rattle.links.proofs.stacked.Stacked.links.Goals as goal

pub returns-clause-checked : goal.returns-clause-checked
returns-clause-checked c = (kept_of c.args.self.now).checked
