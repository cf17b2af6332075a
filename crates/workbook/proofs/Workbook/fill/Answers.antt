-- Assumes nothing.
use Rattle.std.proofs.Common.{refl, subst}
use Rattle.std.proofs.lemmas.Result.{err_from_is_err_and}
use Rattle.store.specs.Refusals.{told}
use Rattle.workbook.specs.Steps.{Writing}
use Rattle.workbook.proofs.Carries.{steady}
use Rattle.workbook.proofs.Laying.{holds_there}
use Rattle.workbook.proofs.Promises.{meant_by, passed}
use Rattle.workbook.proofs.Workbook.fill.Goals as goal

pub invariant_of-self : goal.invariant_of-self
invariant_of-self g c =
    let most = g.H.ChainStore.MOST in
    let layer = g.H.ChainStore.LAYER in
    let a = meant_by g.H.ChainStore.lawful g.met.H.Host.hosted c.args.self.now.store in
    let b = meant_by g.H.ChainStore.lawful g.met.H.Host.hosted c.fit.new.self.store in
    let y = c.fit.new.self.store.state.0 in
    let z = c.write.new.store in
    let step = subst (λ b. Writing most layer b c.in_ok-start.start c.args.at c.args.src.now y (told c.write.result) z.state.0) c.of.ensures (c.write.ensures.told, c.write.ensures.left) in
    record {
      whole = holds_there most layer c.args.self.now.store.state.0 a c.args.self.now.whole c.args.id c.args.len y c.in_ok-start.start c.in_ok-start.ensures b.mini
          z.state.0 (steady g.H.ChainStore.lawful z) c.args.at c.args.src.now (told c.write.result) step;
    }

pub returns-in_err-start : goal.returns-in_err-start
returns-in_err-start g c = (_, c.fit.new.self.store.state.0, c.in_err-start.ensures, (passed (λ x. x) _ _ (err_from_is_err_and c.from_residual.result c.from_residual.ensures.1), refl))
