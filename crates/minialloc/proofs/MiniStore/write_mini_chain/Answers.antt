-- Assumes nothing.
use Rattle.std.proofs.Common.{length}
use Rattle.minialloc.proofs.Copies.{copy_whole, copy_fits, write_yes, write_writes, write_sound}
use Rattle.minialloc.proofs.Lasting.{lasting, seen}
use Rattle.minialloc.proofs.MiniStore.write_mini_chain.Goals as goal

pub write_chain-requires : goal.write_chain-requires
write_chain-requires g c =
    let k = c.in_ok-holds.ensures.told in
    let a = seen (lasting g.H.ChainStore.lawful g.met.H.Host.hosted c.holds.new.self) c.holds.ensures.left c.args.head 0 k.0 k.1 in
    record {
      sound = a.base.sound;
      whole = copy_whole a c.args.at (length c.args.src.now) k.2;
      fits = copy_fits a c.args.at (length c.args.src.now) k.2;
    }

pub returns : goal.returns
returns g c =
    let k = c.in_ok-holds.ensures.told in
    let a = seen (lasting g.H.ChainStore.lawful g.met.H.Host.hosted c.holds.new.self) c.holds.ensures.left c.args.head 0 k.0 k.1 in
    let ok = lasting g.H.ChainStore.lawful g.met.H.Host.hosted c.write_chain.new.s in
    let sound = c.write_chain.ensures.sound in
    let w = c.write_chain.ensures.wrote in
    let y = write_yes a ok sound c.args.at c.args.src.now w k.2 in
    rw c.write_chain.new.s.state.1 (record {
      told = y.0;
      left = y.1;
      writes = write_writes a ok sound c.args.at c.args.src.now w;
      sound = write_sound a ok sound c.args.at c.args.src.now w;
      stays = λ k. sound;
    })
