-- Assumes nothing.
use Rattle.std.proofs.Common.{sym, arith}
use Rattle.std.proofs.lemmas.List.{length-take-le, take_more_set}
use Rattle.std.proofs.lemmas.Bool.{lt-ltb}
use Rattle.links.proofs.held.Links.push.Goals as goal

pub returns : goal.returns
returns c =
    let s = c.args.self.now in
    let k = length-take-le s.count s.links (omega arith) in
    record { told = sym (lt-ltb _ 4096 (omega arith)); after = take_more_set s.links s.count c.args.link (omega arith) }
