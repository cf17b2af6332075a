-- Assumes nothing.
use Rattle.std.proofs.Common.{refl}
use Rattle.links.specs.Stacked.{table_of, stack_of}
use Rattle.links.specs.Links.{FREE}
use Rattle.links.proofs.Stacks.{kept_of, few_of}
use Rattle.mini.specs.Steps.{link_wrote}
use Rattle.mini.proofs.Calls.{back_gave}
use Rattle.mini.proofs.Takes.{gave_made, place_bytes}
use Rattle.minialloc.proofs.units.MiniStoreLinked.give_back.Goals as goal

pub returns : goal.returns
returns g c =
    let t = c.args.self.now.table in
    let u = c.give_back-link.new.self in
    let host = c.args.self.now.host in
    let m = g.H.ChainStore.meaning host in
    let s = g.H.ChainStore.meaning c.vacate.new.host in
    let ok = g.H.ChainStore.lawful host in
    let layer = g.H.ChainStore.LAYER in
    let h = c.requires.sound in
    let live = c.requires.live in
    let L = table_of t in
    let S = stack_of t in
    let M = table_of u in
    let T = stack_of u in
    let p = c.args.place in
    let made = gave_made _ layer m ok (g.met.H.Host.hosted host) L S (few_of t.links) (kept_of t) h.1 p live (link_wrote m layer p FREE) s M T
    refl c.vacate.ensures c.give_back-link.ensures.table c.give_back-link.ensures.places (kept_of u) in
    record {
      sound = (h.0, made.borne);
      keeps = made.synced;
      told = c.give_back-link.ensures.told;
      left = made.web;
      gave = back_gave m L S (few_of t.links) (kept_of t) s M T p (place_bytes _ layer m ok (g.met.H.Host.hosted host) L S (few_of t.links) (kept_of t) h.1 p live) made;
    }
