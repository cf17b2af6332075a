-- Assumes nothing.
use Rattle.std.proofs.Common.{sym, ◌∙◌}
use Rattle.minialloc.proofs.Lasting.{lasting, seen, still}
use Rattle.minialloc.proofs.Shrinking.{freed_yes, freed_frees, trim_sound, trim_synced}
use Rattle.minialloc.proofs.MiniStore.free_mini_chain.Goals as goal

pub release-requires : goal.release-requires
release-requires g c =
    let a = seen (lasting g.H.ChainStore.lawful g.met.H.Host.hosted c.look.new.self) c.look.ensures.left c.args.head 0 c.in_ok-found.found c.in_ok-found.ensures.told in
    record { sound = a.base.sound; some = a.chained.some; units = a.units }

pub returns : goal.returns
returns g c =
    let a = seen (lasting g.H.ChainStore.lawful g.met.H.Host.hosted c.look.new.self) c.look.ensures.left c.args.head 0 c.in_ok-found.found c.in_ok-found.ensures.told in
    let okx = lasting g.H.ChainStore.lawful g.met.H.Host.hosted c.release.new.s in
    let oky = lasting g.H.ChainStore.lawful g.met.H.Host.hosted c.trim.new.self in
    let trims = rw (c.release.new.s.state.1, c.trim.new.self.state.1) at c.trim.ensures.trims in
    let same = rw (c.release.new.s.state.1, c.trim.new.self.state.1) at c.trim.ensures.same in
    let y = freed_yes g.H.ChainStore.LAYER a okx oky c.release.ensures.sound trims same c.release.ensures.means in
    rw c.trim.new.self.state.1 (record {
      told = y.0;
      left = y.1;
      frees = freed_frees g.H.ChainStore.LAYER a okx oky c.release.ensures.sound trims same c.release.ensures.left;
      sound = λ k. trim_synced g.H.ChainStore.LAYER a okx oky c.release.ensures.sound trims same (c.release.ensures.keeps (still (sym c.look.new.self.state.1 ∙ c.look.ensures.left) k));
      stays = λ k. trim_sound g.H.ChainStore.LAYER a okx oky c.release.ensures.sound trims same;
    })
