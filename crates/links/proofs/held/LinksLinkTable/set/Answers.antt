-- Assumes nothing.
use Rattle.std.proofs.Common.{sym, arith}
use Rattle.std.proofs.lemmas.List.{length-take-le}
use Rattle.std.proofs.lemmas.Bool.{lt-ltb, le-ltb}
use Rattle.links.proofs.Prefix.{held_set, held_past}
use Rattle.links.proofs.held.LinksLinkTable.set.Goals as goal

pub returns-then-place-self : goal.returns-then-place-self
returns-then-place-self c =
    let s = c.args.self.now in
    let k = length-take-le s.count s.links (omega arith) in
    record { told = sym (le-ltb c.args.place _ (omega arith)); after = held_past s.links s.count (omega arith) c.args.place c.args.link (omega arith) }

pub returns : goal.returns
returns c =
    let s = c.args.self.now in
    let k = length-take-le s.count s.links (omega arith) in
    record { told = sym (lt-ltb c.args.place _ (omega arith)); after = held_set s.links s.count (omega arith) c.args.place c.args.link (omega arith) }
