-- Assumes nothing.
use Rattle.std.proofs.Common.{◌+◌, ◌*◌, ◌∙◌}
use Rattle.store.specs.Meaning.{read_into}
use Rattle.mini.specs.Mini.{stream_at}
use Rattle.mini.proofs.Copies.{read_of_unit}
use Rattle.minialloc.proofs.units.MiniStoreUnits.read_unit.Goals as goal

pub returns-clause-read : goal.returns-clause-read
returns-clause-read g c =
    let m = g.H.ChainStore.meaning c.args.self.now.host in
    let layer = g.H.ChainStore.LAYER in
    let out = c.args.out.now in
    c.read_stream.ensures.out ∙ (λ i. read_into m layer (stream_at m) (c.from.ensures i * c.from-2.ensures i + c.args.at) out) ∙ read_of_unit m layer c.args.place c.args.at c.requires.unit out c.requires.inside
