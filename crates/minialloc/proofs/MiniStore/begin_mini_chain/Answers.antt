-- Assumes nothing.
use Rattle.std.proofs.Common.{Some, sym, ap, ◌∙◌, arith}
use Rattle.std.proofs.lemmas.Result.{err_from_is_err_and}
use Rattle.store.specs.Refusals.{refused_by}
use Rattle.chain.proofs.Dues.{begin_no}
use Rattle.minialloc.specs.States.{meant_in}
use Rattle.minialloc.proofs.Growing.{room_of, ready, begun_yes, begun_takes}
use Rattle.minialloc.proofs.Lasting.{lasting, based, still, stays}
use Rattle.minialloc.proofs.MiniStore.begin_mini_chain.Goals as goal

pub returns-in_err-prepare : goal.returns-in_err-prepare
returns-in_err-prepare g c =
    let b = based (lasting g.H.ChainStore.lawful g.met.H.Host.hosted c.figures.new.self) c.figures.ensures.left c.in_ok-ground.ground
    (sym c.figures.ensures.told ∙ c.in_ok-ground.ensures.ok_part) in
    let p = err_from_is_err_and c.from_residual-in_err-prepare.result c.from_residual-in_err-prepare.ensures.1 in
    let same = c.in_err-prepare.ensures.2 ∙ c.figures.ensures.left in
    rw (p.1, p.2) (record {
      begins = (
        begin_no (meant_in c.args.self.now.state.0) 3 c.args.count c.if-count-eq0.false (omega (arith, room_of b, rw c.figures.ensures.left at c.in_err-prepare.ensures.0)) ∙ ap (λ x. Some (refused_by x)) (sym c.in_err-prepare.ensures.1),
        ap meant_in same,
      );
      taken = same;
      sound = still same;
      stays = stays same;
    })

pub begin-requires : goal.begin-requires
begin-requires g c =
    let b = based (lasting g.H.ChainStore.lawful g.met.H.Host.hosted c.figures.new.self) c.figures.ensures.left c.in_ok-ground.ground
    (sym c.figures.ensures.told ∙ c.in_ok-ground.ensures.ok_part) in
    let a = ready g.H.ChainStore.LAYER b c.args.count c.figures.ensures.left (lasting g.H.ChainStore.lawful g.met.H.Host.hosted c.prepare.new.self) c.in_ok-prepare.ensures in
    record { sound = a.sound; some = omega (arith, c.if-count-eq0.false); ready = a.enough; room = a.roomy }

pub returns : goal.returns
returns g c =
    let b = based (lasting g.H.ChainStore.lawful g.met.H.Host.hosted c.figures.new.self) c.figures.ensures.left c.in_ok-ground.ground
    (sym c.figures.ensures.told ∙ c.in_ok-ground.ensures.ok_part) in
    let a = ready g.H.ChainStore.LAYER b c.args.count c.figures.ensures.left (lasting g.H.ChainStore.lawful g.met.H.Host.hosted c.prepare.new.self) c.in_ok-prepare.ensures in
    let ok = lasting g.H.ChainStore.lawful g.met.H.Host.hosted c.begin.new.s in
    let h = c.begin.ensures in
    rw c.begin.new.s.state.1 (record {
      begins = begun_yes a ok h.sound c.begin.result c.if-count-eq0.false h.new.0 h.new.1 h.means;
      taken = begun_takes a ok h.sound c.begin.result h.told h.left;
      sound = λ k. h.keeps (a.synced k);
      stays = λ k. h.sound;
    })
