-- Assumes nothing.
use Rattle.std.proofs.Common.{sym, arith, take-take}
use Rattle.std.proofs.lemmas.List.{length-take-le, take_all}
use Rattle.links.proofs.held.Links.truncate.Goals as goal

pub returns-then-count-self : goal.returns-then-count-self
returns-then-count-self c = let s = c.args.self.now in sym (take-take c.args.count s.count s.links (omega arith))

pub returns-else-count-self : goal.returns-else-count-self
returns-else-count-self c =
    let s = c.args.self.now in
    let k = length-take-le s.count s.links (omega arith) in
    sym (take_all c.args.count _ (omega arith))
