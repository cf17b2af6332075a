-- Assumes nothing.
use Rattle.std.proofs.Common.{◌≡◌, ◌-◌, ◌++◌, drop, take, length, min, Ok, sym, ap, ◌∙◌, subst, arith}
use Rattle.std.proofs.lemmas.List.{length-take-le}
use Rattle.std.proofs.lemmas.Result.{err_from_is_err_and}
use Rattle.workbook.specs.Refusals.{count_of, buffer_of}
use Rattle.workbook.specs.Sights.{seen, bytes_in}
use Rattle.workbook.specs.Whole.{Holds}
use Rattle.workbook.proofs.Carries.{steady}
use Rattle.workbook.proofs.Fitting.{not_err}
use Rattle.workbook.proofs.Found.{due_none, got}
use Rattle.workbook.proofs.Promises.{promise, passed}
use Rattle.workbook.proofs.Workbook.read.Goals as goal

pub invariant_of-self : goal.invariant_of-self
invariant_of-self g c = record { whole = subst Holds (sym (c.read.ensures.left ∙ c.stream.ensures.left)) c.args.self.now.whole }

pub returns-in_err-entry : goal.returns-in_err-entry
returns-in_err-entry g c = promise g.H.ChainStore.lawful g.met.H.Host.hosted g.H.ChainStore.LAYER c.args.self.now c.stream.new.self.store _ (
  passed (λ n. n) _ _ (err_from_is_err_and c.from_residual.result c.from_residual.ensures.1) ∙ ap (λ x. count_of x c.args.at (length c.args.out.now)) c.in_err-entry.ensures.told,
  ap (λ x. buffer_of (seen c.args.self.now.store.state.0) x c.args.at c.args.out.now) c.in_err-entry.ensures.told,
  c.in_err-entry.ensures.left,
)

pub returns-in_err-read : goal.returns-in_err-read
returns-in_err-read g c = absurd (not_err _ _ (due_none g.H.ChainStore.MOST g.H.ChainStore.LAYER c.args.self.now.store.state.0 c.stream.new.self.store.state.0 (steady g.H.ChainStore.lawful c.args.self.now.store) c.args.self.now.whole c.args.id c.in_ok-entry.entry c.in_ok-entry.ensures.told
    c.of.result c.of.ensures c.args.at c.min-count.result c.if-count-gt0.true (omega (arith, c.min-count.ensures, c.saturating_sub.ensures)) _ (length-take-le c.min-count.result c.args.out.now (omega (arith, c.min-count.ensures))) c.stream.ensures.left) c.in_err-read.ensures.told)

pub returns-in_ok-read : goal.returns-in_ok-read
returns-in_ok-read g c =
    let n = c.min-count.result in
    let e = c.in_ok-entry.entry in
    let new = got g.H.ChainStore.MOST g.H.ChainStore.LAYER c.args.self.now.store.state.0 c.stream.new.self.store.state.0 (steady g.H.ChainStore.lawful c.args.self.now.store) c.args.self.now.whole c.args.id e c.in_ok-entry.ensures.told
    c.of.result c.of.ensures c.args.at n c.if-count-gt0.true (omega (arith, c.min-count.ensures, c.saturating_sub.ensures)) _ (length-take-le n c.args.out.now (omega (arith, c.min-count.ensures))) c.stream.ensures.left c.read.new.out c.in_ok-read.ensures.out in
    let v = seen c.args.self.now.store.state.0 in
    let m = c.min-count.ensures ∙ ap (λ x. min x (length c.args.out.now)) c.saturating_sub.ensures in
    let told = ap Ok m ∙ ap (λ x. count_of x c.args.at (length c.args.out.now)) c.in_ok-entry.ensures.told in
    let out = ap (λ xs. xs ++ drop n c.args.out.now) new ∙ ap (λ k. take k (drop c.args.at (bytes_in v e)) ++ drop k c.args.out.now) m
    ∙ ap (λ x. buffer_of v x c.args.at c.args.out.now) c.in_ok-entry.ensures.told in
    promise g.H.ChainStore.lawful g.met.H.Host.hosted g.H.ChainStore.LAYER c.args.self.now c.read.new.store _ (told, out, c.in_ok-read.ensures.left ∙ c.stream.ensures.left)

pub returns-else-count-gt0 : goal.returns-else-count-gt0
returns-else-count-gt0 g c =
    let m = c.min-count.ensures ∙ ap (λ x. min x (length c.args.out.now)) c.saturating_sub.ensures in
    let none : 0 ≡ min (c.in_ok-entry.entry.length - c.args.at) (length c.args.out.now) = omega (arith, m, c.if-count-gt0.false) in
    promise g.H.ChainStore.lawful g.met.H.Host.hosted g.H.ChainStore.LAYER c.args.self.now c.stream.new.self.store _ (
      ap Ok m ∙ ap (λ x. count_of x c.args.at (length c.args.out.now)) c.in_ok-entry.ensures.told,
      ap (λ k. take k (drop c.args.at (bytes_in (seen c.args.self.now.store.state.0) c.in_ok-entry.entry)) ++ drop k c.args.out.now) none
          ∙ ap (λ x. buffer_of (seen c.args.self.now.store.state.0) x c.args.at c.args.out.now) c.in_ok-entry.ensures.told,
      c.stream.ensures.left,
    )
