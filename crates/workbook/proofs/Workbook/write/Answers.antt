-- Assumes nothing.
use Rattle.std.proofs.Common.{length, max, Err, ap, ◌∙◌, subst, arith}
use Rattle.std.proofs.lemmas.Result.{err_from_is_err_and}
use Rattle.minifat.specs.Told.{told_of}
use Rattle.workbook.specs.Calls.{Filling, WrittenTo}
use Rattle.workbook.specs.Refusals.{write_of}
use Rattle.workbook.proofs.Laying.{past_is, written_is}
use Rattle.workbook.proofs.Promises.{promise, passed, meant_by}
use Rattle.workbook.proofs.Workbook.write.Goals as goal

pub returns-in_err-entry : goal.returns-in_err-entry
returns-in_err-entry g c =
    let most = g.H.ChainStore.MOST in
    let layer = g.H.ChainStore.LAYER in
    let s = c.args.self.now.store.state.0 in
    let ys = c.args.src.now in
    let r = told_of (λ x. x) c.from_residual.result in
    promise g.H.ChainStore.lawful g.met.H.Host.hosted layer c.args.self.now c.stream.new.self.store _
    (subst (λ x. WrittenTo most layer s c.args.id c.args.at ys (write_of s c.args.id c.args.at (length ys) x) r c.stream.new.self.store.state.0) c.in_err-entry.ensures.told
    (passed (λ x. x) _ _ (err_from_is_err_and c.from_residual.result c.from_residual.ensures.1), c.in_err-entry.ensures.left))

pub returns-then-at-entry : goal.returns-then-at-entry
returns-then-at-entry g c =
    let st = c.args.self.now.store in
    let a = meant_by g.H.ChainStore.lawful g.met.H.Host.hosted st in
    promise g.H.ChainStore.lawful g.met.H.Host.hosted g.H.ChainStore.LAYER c.args.self.now c.stream.new.self.store _
    (past_is g.H.ChainStore.MOST g.H.ChainStore.LAYER st.state.0 c.stream.new.self.store.state.0 a c.args.self.now.whole c.args.id c.in_ok-entry.entry c.in_ok-entry.ensures.told _
    c.args.at c.args.src.now c.if-at-entry.true (ap Err c.refused.ensures) c.in_ok-entry.ensures.left)

pub returns : goal.returns
returns g c =
    let most = g.H.ChainStore.MOST in
    let layer = g.H.ChainStore.LAYER in
    let st = c.args.self.now.store in
    let z = c.fill.new.self.store in
    let r = told_of (λ x. x) c.fill.result in
    let a = meant_by g.H.ChainStore.lawful g.met.H.Host.hosted st in
    promise g.H.ChainStore.lawful g.met.H.Host.hosted layer c.args.self.now z _
    (written_is most layer st.state.0 z.state.0 a c.args.self.now.whole c.args.id c.in_ok-entry.entry c.in_ok-entry.ensures.told r
    c.args.at c.max-len.result c.args.src.now (omega (arith, c.if-at-entry.false)) (c.max-len.ensures ∙ ap (max c.in_ok-entry.entry.length) c.saturating_add.ensures)
    (subst (λ x. Filling most layer x c.args.id c.max-len.result c.args.at c.args.src.now r z.state.0) c.stream.ensures.left c.fill.ensures))
