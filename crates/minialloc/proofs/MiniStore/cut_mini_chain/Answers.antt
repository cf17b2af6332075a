-- Assumes nothing.
use Rattle.std.proofs.Common.{ap, arith, sym, ◌∙◌}
use Rattle.chain.proofs.Dues.{told_no, left_no}
use Rattle.minialloc.specs.States.{meant_in}
use Rattle.minialloc.proofs.Lasting.{lasting, seen, still, stays}
use Rattle.minialloc.proofs.Shrinking.{cut_due, cut_place, cut_yes, cut_cuts, trim_sound, trim_synced}
use Rattle.minialloc.proofs.MiniStore.cut_mini_chain.Goals as goal

pub returns-then-count-eq0 : goal.returns-then-count-eq0
returns-then-count-eq0 g c =
    let a = seen (lasting g.H.ChainStore.lawful g.met.H.Host.hosted c.look.new.self) c.look.ensures.left c.args.head c.saturating_sub.result c.in_ok-found.found c.in_ok-found.ensures.told in
    let due = cut_due a c.args.count c.then-count-eq0.either in
    record {
      told = told_no _ _ _ tt c.at.ensures due;
      left = left_no _ _ _ _ _ due (ap meant_in c.look.ensures.left);
      cuts = c.look.ensures.left;
      sound = still c.look.ensures.left;
      stays = stays c.look.ensures.left;
    }

pub cut-requires : goal.cut-requires
cut-requires g c =
    let a = seen (lasting g.H.ChainStore.lawful g.met.H.Host.hosted c.look.new.self) c.look.ensures.left c.args.head c.saturating_sub.result c.in_ok-found.found c.in_ok-found.ensures.told in
    record {
      sound = a.base.sound;
      some = omega (arith, c.if-count-eq0.false);
      fewer = c.if-count-found.false;
      units = a.units;
      place = cut_place a c.args.count c.saturating_sub.ensures c.if-count-eq0.false c.if-count-found.false;
    }

pub returns : goal.returns
returns g c =
    let a = seen (lasting g.H.ChainStore.lawful g.met.H.Host.hosted c.look.new.self) c.look.ensures.left c.args.head c.saturating_sub.result c.in_ok-found.found c.in_ok-found.ensures.told in
    let okx = lasting g.H.ChainStore.lawful g.met.H.Host.hosted c.cut.new.s in
    let oky = lasting g.H.ChainStore.lawful g.met.H.Host.hosted c.trim.new.self in
    let trims = rw (c.cut.new.s.state.1, c.trim.new.self.state.1) at c.trim.ensures.trims in
    let same = rw (c.cut.new.s.state.1, c.trim.new.self.state.1) at c.trim.ensures.same in
    let y = cut_yes g.H.ChainStore.LAYER a okx oky c.cut.ensures.sound trims same c.args.count c.if-count-eq0.false c.if-count-found.false c.cut.ensures.means in
    rw c.trim.new.self.state.1 (record {
      told = y.0;
      left = y.1;
      cuts = cut_cuts g.H.ChainStore.LAYER a okx oky c.cut.ensures.sound trims same c.args.count
          (cut_place a c.args.count c.saturating_sub.ensures c.if-count-eq0.false c.if-count-found.false) c.cut.ensures.left;
      sound = λ k. trim_synced g.H.ChainStore.LAYER a okx oky c.cut.ensures.sound trims same (c.cut.ensures.keeps (still (sym c.look.new.self.state.1 ∙ c.look.ensures.left) k));
      stays = λ k. trim_sound g.H.ChainStore.LAYER a okx oky c.cut.ensures.sound trims same;
    })
