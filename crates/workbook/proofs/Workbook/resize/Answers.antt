-- Assumes nothing.
use Rattle.std.proofs.Common.{ℕ, List, replicate, ◌∙◌, subst}
use Rattle.std.proofs.lemmas.Result.{err_from_is_err_and}
use Rattle.minifat.specs.Told.{told_of}
use Rattle.minialloc.specs.States.{State}
use Rattle.workbook.specs.Calls.{Filling, ResizedTo, rest_of}
use Rattle.workbook.specs.Refusals.{fit_of}
use Rattle.workbook.specs.Sights.{seen, home_of, unit_in}
use Rattle.workbook.proofs.Laying.{resized_is}
use Rattle.workbook.proofs.Promises.{promise, passed, meant_by}
use Rattle.workbook.proofs.Workbook.resize.Goals as goal

pub returns-in_err-entry : goal.returns-in_err-entry
returns-in_err-entry g c =
    let most = g.H.ChainStore.MOST in
    let layer = g.H.ChainStore.LAYER in
    let s = c.args.self.now.store.state.0 in
    let r = told_of (λ x. x) c.from_residual.result in
    promise g.H.ChainStore.lawful g.met.H.Host.hosted layer c.args.self.now c.stream.new.self.store _
    (subst (λ x. ResizedTo most layer s c.args.id c.args.len (fit_of s c.args.id c.args.len x) r c.stream.new.self.store.state.0) c.in_err-entry.ensures.told
    (passed (λ x. x) _ _ (err_from_is_err_and c.from_residual.result c.from_residual.ensures.1), c.in_err-entry.ensures.left))

pub returns : goal.returns
returns g c =
    let most = g.H.ChainStore.MOST in
    let layer = g.H.ChainStore.LAYER in
    let st = c.args.self.now.store in
    let z = c.fill.new.self.store in
    let r = told_of (λ x. x) c.fill.result in
    let n = c.args.len in
    let a = meant_by g.H.ChainStore.lawful g.met.H.Host.hosted st in
    let same = c.rest-rest.ensures.left ∙ c.stream.ensures.left in
    let zs = c.rest-rest.ensures.told ∙ (λ i. replicate (rest_of (unit_in (seen (c.stream.ensures.left i)) (home_of n)) (c.min-kept.ensures i)) 0) in
    promise g.H.ChainStore.lawful g.met.H.Host.hosted layer c.args.self.now z _
    (resized_is most layer st.state.0 z.state.0 a c.args.self.now.whole c.args.id c.in_ok-entry.entry c.in_ok-entry.ensures.told r n
    (subst (λ (q : State × ℕ × List ℕ). Filling most layer q.0 c.args.id n q.1 q.2 r z.state.0) (λ i. (same i, c.min-kept.ensures i, zs i)) c.fill.ensures))
