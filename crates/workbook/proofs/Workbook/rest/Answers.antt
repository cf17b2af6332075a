-- Assumes nothing.
use Rattle.std.proofs.Common.{◌%◌, ◌<◌, replicate, sym, ap, ◌∙◌, subst, arith}
use Rattle.std.proofs.Math.Nat.{mod-lt}
use Rattle.std.proofs.lemmas.List.{take-replicate}
use Rattle.workbook.specs.Calls.{rest_of}
use Rattle.workbook.specs.Whole.{Holds}
use Rattle.workbook.proofs.Carries.{steady}
use Rattle.workbook.proofs.Found.{some_there, unit_told}
use Rattle.workbook.proofs.Rests.{rest_few}
use Rattle.workbook.proofs.Workbook.rest.Goals as goal

pub invariant_of-self : goal.invariant_of-self
invariant_of-self g c = record { whole = subst Holds (sym c.unit.ensures.left) c.args.self.now.whole }

pub nonzero_rem-count : goal.nonzero_rem-count
nonzero_rem-count g c =
    let some = some_there g.H.ChainStore.MOST c.args.self.now.store.state.0 (steady g.H.ChainStore.lawful c.args.self.now.store) c.of.result in
    omega (arith, some, c.unit.ensures.told, c.from-unit.ensures)

pub overflow_sub-count : goal.overflow_sub-count
overflow_sub-count g c =
    let some = some_there g.H.ChainStore.MOST c.args.self.now.store.state.0 (steady g.H.ChainStore.lawful c.args.self.now.store) c.of.result in
    let u = c.from-unit.result in
    let less : c.args.at % u < u = mod-lt c.args.at (omega (arith, some, c.unit.ensures.told, c.from-unit.ensures)) in
    omega (arith, less)

pub nonzero_rem-count-2 : goal.nonzero_rem-count-2
nonzero_rem-count-2 g c =
    let some = some_there g.H.ChainStore.MOST c.args.self.now.store.state.0 (steady g.H.ChainStore.lawful c.args.self.now.store) c.of.result in
    omega (arith, some, c.unit.ensures.told, c.from-unit.ensures)

pub shared_ref_as_front-result : goal.shared_ref_as_front-result
shared_ref_as_front-result g c =
    rest_few g.H.ChainStore.MOST c.args.self.now.store.state.0 (steady g.H.ChainStore.lawful c.args.self.now.store) c.of.result c.from-unit.result c.args.at (c.from-unit.ensures ∙ c.unit.ensures.told)

pub returns-clause-told : goal.returns-clause-told
returns-clause-told g c =
    let s = c.args.self.now.store.state.0 in
    let few = rest_few g.H.ChainStore.MOST s (steady g.H.ChainStore.lawful c.args.self.now.store) c.of.result c.from-unit.result c.args.at (c.from-unit.ensures ∙ c.unit.ensures.told) in
    let unit = c.from-unit.ensures ∙ unit_told s s (λ i. s) c.of.result _ c.of.ensures c.unit.result c.unit.ensures.told in
    take-replicate (rest_of c.from-unit.result c.args.at) 4096 0 few ∙ ap (λ x. replicate (rest_of x c.args.at) 0) unit
