-- Assumes nothing.
use Rattle.std.proofs.Common.{length, ◌∙◌}
use Rattle.minialloc.proofs.Copies.{copy_whole, copy_fits, read_yes, read_left}
use Rattle.minialloc.proofs.Lasting.{lasting, seen}
use Rattle.minialloc.proofs.MiniStore.read_mini_chain.Goals as goal

pub read_chain-requires : goal.read_chain-requires
read_chain-requires g c =
    let k = c.in_ok-holds.ensures.told in
    let a = seen (lasting g.H.ChainStore.lawful g.met.H.Host.hosted c.holds.new.self) c.holds.ensures.left c.args.head 0 k.0 k.1 in
    record {
      sound = a.base.sound;
      whole = copy_whole a c.args.at (length c.args.out.now) k.2;
      fits = copy_fits a c.args.at (length c.args.out.now) k.2;
    }

pub returns : goal.returns
returns g c =
    let k = c.in_ok-holds.ensures.told in
    let a = seen (lasting g.H.ChainStore.lawful g.met.H.Host.hosted c.holds.new.self) c.holds.ensures.left c.args.head 0 k.0 k.1 in
    let y = read_yes a c.args.at c.args.out.now c.read_chain.new.out k.2 c.read_chain.ensures.read in
    record {
      told = y.0;
      out = y.1;
      left = c.read_chain.new.s.state.1 ∙ read_left a (lasting g.H.ChainStore.lawful g.met.H.Host.hosted c.read_chain.new.s) c.read_chain.ensures.sound c.read_chain.ensures.same;
    }
