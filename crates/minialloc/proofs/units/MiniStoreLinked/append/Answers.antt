-- Assumes nothing.
use Rattle.std.proofs.Common.{eqb, refl, ap, ◌∙◌}
use Rattle.links.specs.Stacked.{table_of, stack_of}
use Rattle.links.proofs.Stacks.{kept_of, few_of}
use Rattle.mini.proofs.Calls.{join_is, join_done}
use Rattle.minialloc.proofs.units.MiniStoreLinked.append.Goals as goal

pub unwrap-place-requires : goal.unwrap-place-requires
unwrap-place-requires g c =
    let t = c.args.self.now.table in
    let host = c.args.self.now.host in
    rw (c.append.ensures.told ∙ join_is _ _ (g.H.ChainStore.lawful host) (g.met.H.Host.hosted host) (table_of t) (few_of t.links) c.requires.sound.1 (stack_of t) g.H.ChainStore.LAYER _ (kept_of t)
    c.requires.ready (ap (λ n. eqb n 0) c.free-fresh.ensures.told) c.args.last c.requires.end) refl

pub returns : goal.returns
returns g c =
    let t = c.args.self.now.table in
    let host = c.args.self.now.host in
    let h = c.requires.sound in
    let d = join_done _ _ (g.H.ChainStore.lawful host) (g.met.H.Host.hosted host) (table_of t) (few_of t.links) h.1 (stack_of t) g.H.ChainStore.LAYER _ (kept_of t) c.requires.ready (ap (λ n. eqb n 0) c.free-fresh.ensures.told)
    c.args.last c.requires.end _ _ _ _ _ _ c.append.ensures.told c.unwrap-place.ensures c.append.ensures.table c.append.ensures.places (kept_of c.append.new.self) c.occupy.ensures c.write_link.ensures in
    record { sound = (h.0, d.made.borne); keeps = d.made.synced; told = d.told; left = d.made.web; behind = d.behind }
