-- Assumes nothing.
use Rattle.std.proofs.Common.{min, sym, refl, ap, ◌∙◌, subst, arith}
use Rattle.store.specs.Meaning.{units_of}
use Rattle.workbook.specs.Homes.{store_in, layer_in}
use Rattle.workbook.specs.Sights.{seen, home_of, needed}
use Rattle.workbook.specs.Whole.{Holds}
use Rattle.workbook.proofs.Carries.{steady}
use Rattle.workbook.proofs.Found.{some_there, had_units, needs}
use Rattle.workbook.proofs.Workbook.plan.Goals as goal

pub invariant_of-self : goal.invariant_of-self
invariant_of-self g c = record { whole = subst Holds (sym (c.unit-unit.ensures.left ∙ c.units.ensures.left)) c.args.self.now.whole }

pub div_ceil-requires : goal.div_ceil-requires
div_ceil-requires g c =
    let t = some_there g.H.ChainStore.MOST c.args.self.now.store.state.0 (steady g.H.ChainStore.lawful c.args.self.now.store) c.of-to.result in
    omega (arith, t, rw c.units.ensures.left at c.unit-unit.ensures.told)

pub returns-clause-told : goal.returns-clause-told
returns-clause-told g c =
    let s = c.args.self.now.store.state.0 in
    let n = c.args.len in
    let to = c.of-to.ensures ∙ ap home_of c.from.ensures in
    record {
      from = c.of-from.ensures;
      start = refl;
      have = c.unwrap_or-have.ensures ∙ had_units (store_in s c.of-from.result) (layer_in g.H.ChainStore.LAYER c.of-from.result) c.args.entry.start c.units.result c.units.ensures.told ∙ ap (λ b. units_of (store_in s b) c.args.entry.start) c.of-from.ensures;
      to = to;
      want = needs g.H.ChainStore.MOST s (steady g.H.ChainStore.lawful c.args.self.now.store) c.of-to.result n c.unit-unit.result c.div_ceil.result (rw c.units.ensures.left at c.unit-unit.ensures.told) c.div_ceil.ensures ∙ ap (λ b. needed (seen s) b n) to;
      keep = c.min-keep.ensures ∙ ap (λ x. min x 4096) (c.min.ensures ∙ ap (min c.args.entry.length) c.from-2.ensures);
    }
