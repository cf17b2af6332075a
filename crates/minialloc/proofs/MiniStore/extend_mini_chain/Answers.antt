-- Assumes nothing.
use Rattle.std.proofs.Common.{ap, ◌∙◌, arith}
use Rattle.std.proofs.lemmas.Result.{err_from_is_err_and}
use Rattle.chain.proofs.Dues.{extend_no, told_no, left_no}
use Rattle.minialloc.specs.States.{meant_in}
use Rattle.minialloc.proofs.Copies.{chain_here}
use Rattle.minialloc.proofs.Growing.{ends_of, room_of, ready, extended_yes, extended_takes}
use Rattle.minialloc.proofs.Lasting.{lasting, seen, still, stays}
use Rattle.minialloc.proofs.MiniStore.extend_mini_chain.Goals as goal

pub returns-in_err-prepare : goal.returns-in_err-prepare
returns-in_err-prepare g c =
    let b = seen (lasting g.H.ChainStore.lawful g.met.H.Host.hosted c.look.new.self) c.look.ensures.left c.args.head 4294967295 c.in_ok-found.found c.in_ok-found.ensures.told in
    let p = err_from_is_err_and c.from_residual-in_err-prepare.result c.from_residual-in_err-prepare.ensures.1 in
    let due = extend_no (meant_in c.args.self.now.state.0) 3 c.args.head _ (chain_here b) c.args.count (omega (arith, room_of b.base, rw c.look.ensures.left at c.in_err-prepare.ensures.0)) in
    let same = c.in_err-prepare.ensures.2 ∙ c.look.ensures.left in
    rw (p.1, p.2) (record {
      told = told_no _ _ _ tt c.in_err-prepare.ensures.1 due;
      left = left_no _ _ _ _ _ due (ap meant_in same);
      taken = same;
      sound = still same;
      stays = stays same;
    })

pub lengthen-requires : goal.lengthen-requires
lengthen-requires g c =
    let b = seen (lasting g.H.ChainStore.lawful g.met.H.Host.hosted c.look.new.self) c.look.ensures.left c.args.head 4294967295 c.in_ok-found.found c.in_ok-found.ensures.told in
    let a = ready g.H.ChainStore.LAYER b.base c.args.count c.look.ensures.left (lasting g.H.ChainStore.lawful g.met.H.Host.hosted c.prepare.new.self) c.in_ok-prepare.ensures in
    record { sound = a.sound; ready = a.enough; room = a.roomy; ends = ends_of b (omega (arith, b.few)) a.over }

pub returns : goal.returns
returns g c =
    let b = seen (lasting g.H.ChainStore.lawful g.met.H.Host.hosted c.look.new.self) c.look.ensures.left c.args.head 4294967295 c.in_ok-found.found c.in_ok-found.ensures.told in
    let a = ready g.H.ChainStore.LAYER b.base c.args.count c.look.ensures.left (lasting g.H.ChainStore.lawful g.met.H.Host.hosted c.prepare.new.self) c.in_ok-prepare.ensures in
    let ok = lasting g.H.ChainStore.lawful g.met.H.Host.hosted c.lengthen.new.s in
    let h = c.lengthen.ensures in
    let y = extended_yes a ok h.sound b h.means in
    rw c.lengthen.new.s.state.1 (record {
      told = y.0;
      left = y.1;
      taken = extended_takes a ok h.sound b (omega (arith, b.few)) h.left;
      sound = λ k. h.keeps (a.synced k);
      stays = λ k. h.sound;
    })
