-- Assumes nothing.
use Rattle.std.proofs.Common.{◌∙◌, arith}
use Rattle.links.specs.Stacked.{table_of, stack_of}
use Rattle.links.proofs.Stacks.{kept_of, few_of}
use Rattle.mini.proofs.Calls.{cut_is, cut_table, cut_ended}
use Rattle.mini.proofs.Takes.{ended_made}
use Rattle.minialloc.proofs.Links.{place_told}
use Rattle.minialloc.proofs.units.MiniStoreLinked.cut_off.Goals as goal

pub returns : goal.returns
returns g c =
    let t = c.args.self.now.table in
    let u = c.cut_off.new.self in
    let host = c.args.self.now.host in
    let m = g.H.ChainStore.meaning host in
    let s = g.H.ChainStore.meaning c.write_link.new.host in
    let h = c.requires.sound in
    let points = c.requires.points in
    let L = table_of t in
    let S = stack_of t in
    let M = table_of u in
    let T = stack_of u in
    let made = ended_made _ g.H.ChainStore.LAYER m (g.H.ChainStore.lawful host) (g.met.H.Host.hosted host) L S (few_of t.links) (kept_of t) h.1 c.args.place (omega (arith, points)) s M T
    c.write_link.ensures (cut_table _ points _ _ _ c.cut_off.ensures.table) c.cut_off.ensures.places (kept_of u) in
    record {
      sound = (h.0, made.borne);
      keeps = made.synced;
      told = place_told c.cut_off.result _ _ (c.cut_off.ensures.told ∙ cut_is _ points) c.unwrap-link.ensures;
      left = made.web;
      ended = cut_ended m L S (few_of t.links) (kept_of t) s M T c.args.place made;
    }
