-- Assumes nothing.
use Rattle.std.proofs.Common.{◌+◌, ◌*◌, ◌<◌, ◌∙◌, sym, subst}
use Rattle.std.proofs.lemmas.Bool.{leb-false}
use Rattle.minialloc.proofs.Copies.{past_due}
use Rattle.minialloc.proofs.Lasting.{lasting, seen}
use Rattle.minialloc.proofs.MiniStore.holds.Goals as goal

pub returns-then-not-within-clause-told : goal.returns-then-not-within-clause-told
returns-then-not-within-clause-told g c =
    let a = seen (lasting g.H.ChainStore.lawful g.met.H.Host.hosted c.look.new.self) c.look.ensures.left c.args.head 0 c.in_ok-found.found c.in_ok-found.ensures.told in
    let past : c.in_ok-found.found.chain.units * 64 < c.args.at + c.args.count =
    subst (λ n. n < c.args.at + c.args.count) (λ i. c.from.ensures i * c.from-2.ensures i) (leb-false (c.args.at + c.args.count) _ (sym c.within.ensures ∙ c.if-not-within.true)) in
    rw c.at.ensures (past_due a (c.args.at + c.args.count) past)
