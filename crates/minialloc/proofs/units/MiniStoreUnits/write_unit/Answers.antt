-- Assumes nothing.
use Rattle.std.proofs.Common.{◌+◌, ◌*◌, length, ◌∙◌}
use Rattle.store.specs.Meaning.{wrote}
use Rattle.mini.specs.Mini.{stream_at}
use Rattle.mini.proofs.Copies.{write_of_unit, write_borne}
use Rattle.links.specs.Stacked.{table_of, stack_of}
use Rattle.minialloc.proofs.units.MiniStoreUnits.write_unit.Goals as goal

pub returns : goal.returns
returns g c =
    let self = c.args.self.now in
    let m = g.H.ChainStore.meaning self.host in
    let s = g.H.ChainStore.meaning c.write_stream.new.host in
    let layer = g.H.ChainStore.LAYER in
    let src = c.args.src.now in
    let L = table_of self.table in
    let e = c.write_stream.ensures ∙ (λ i. wrote m layer (stream_at m) (c.from.ensures i * c.from-2.ensures i + c.args.at) src) in
    record {
      put = write_of_unit m layer c.args.place c.args.at c.requires.unit src c.requires.inside s L (stack_of self.table) e;
      sound = (c.requires.sound.0, write_borne m layer c.args.place c.args.at c.requires.unit src c.requires.inside s (length L) e c.requires.sound.1);
    }
