-- Assumes nothing.
use Rattle.std.proofs.Common.{Ok, Err, sym, refl, arith}
use denote.Enum.Bare.{differs_false, differs_true}
use Rattle.workbook.specs.contracts.homes.Home.{the_type}
use Rattle.std.proofs.lemmas.Result.{err_from_is_err_and}
use Rattle.store.specs.Refusals.{refused_by}
use Rattle.workbook.proofs.Carries.{steady, by_stretching, by_freeing, by_carrying}
use Rattle.workbook.proofs.changes.rebuild.Goals as goal

pub returns-in_err-free : goal.returns-in_err-free
returns-in_err-free g c =
    let q = err_from_is_err_and c.from_residual.result c.from_residual.ensures.1 in
    by_freeing g.H.ChainStore.MOST g.H.ChainStore.LAYER c.args.plan _ _ _ c.if-plan-eq0.true (omega (arith, c.if-plan-gt0.true))
    (rw (q.1, q.2) (Err (refused_by c.in_err-free.field-0.0), _, steady g.H.ChainStore.lawful c.free.new.store, (c.in_err-free.ensures.told, c.in_err-free.ensures.left), (refl, refl)))

pub returns-in_ok-free : goal.returns-in_ok-free
returns-in_ok-free g c =
    by_freeing g.H.ChainStore.MOST g.H.ChainStore.LAYER c.args.plan _ _ _ c.if-plan-eq0.true (omega (arith, c.if-plan-gt0.true))
    (Ok c.in_ok-free.field-0, _, steady g.H.ChainStore.lawful c.free.new.store, (c.in_ok-free.ensures.told, c.in_ok-free.ensures.left), (refl, refl))

pub returns-in_err-stretch : goal.returns-in_err-stretch
returns-in_err-stretch g c =
    let q = err_from_is_err_and c.from_residual-in_err-stretch.result c.from_residual-in_err-stretch.ensures.1 in
    by_stretching g.H.ChainStore.MOST g.H.ChainStore.LAYER c.args.plan _ _ _ c.if-plan-eq0.false c.if-plan-eq0-2.false (differs_false the_type tt c.args.plan.from c.args.plan.to (sym c.if-ne.ensures))
    (rw (q.1, q.2) (Err (refused_by c.in_err-stretch.field-0.0), _, steady g.H.ChainStore.lawful c.stretch.new.store, c.in_err-stretch.ensures, (refl, refl)))

pub returns : goal.returns
returns g c =
    by_stretching g.H.ChainStore.MOST g.H.ChainStore.LAYER c.args.plan _ _ _ c.if-plan-eq0.false c.if-plan-eq0-2.false (differs_false the_type tt c.args.plan.from c.args.plan.to (sym c.if-ne.ensures))
    (Ok c.in_ok-stretch.field-0, _, steady g.H.ChainStore.lawful c.stretch.new.store, c.in_ok-stretch.ensures, (refl, refl))

pub returns-then-ne : goal.returns-then-ne
returns-then-ne g c =
    by_carrying g.H.ChainStore.MOST g.H.ChainStore.LAYER c.args.plan _ _ _ c.if-plan-eq0.false c.if-plan-eq0-2.false (differs_true the_type c.args.plan.from c.args.plan.to (sym c.if-ne.ensures)) c.carry.ensures
