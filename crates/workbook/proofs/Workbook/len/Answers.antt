-- Assumes nothing.
use Rattle.std.proofs.Common.{ap, ◌∙◌}
use Rattle.std.proofs.lemmas.Result.{err_from_is_err_and}
use Rattle.workbook.specs.Refusals.{length_of}
use Rattle.workbook.proofs.Promises.{promise, passed}
use Rattle.workbook.proofs.Workbook.len.Goals as goal

pub returns-in_err-entry : goal.returns-in_err-entry
returns-in_err-entry g c = promise g.H.ChainStore.lawful g.met.H.Host.hosted g.H.ChainStore.LAYER c.args.self.now c.stream.new.self.store _
    (passed (λ n. n) _ _ (err_from_is_err_and c.from_residual.result c.from_residual.ensures.1) ∙ ap length_of c.in_err-entry.ensures.told, c.in_err-entry.ensures.left)

pub returns : goal.returns
returns g c = promise g.H.ChainStore.lawful g.met.H.Host.hosted g.H.ChainStore.LAYER c.args.self.now c.stream.new.self.store _ (ap length_of c.in_ok-entry.ensures.told, c.in_ok-entry.ensures.left)
