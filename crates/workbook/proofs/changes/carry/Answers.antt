-- Assumes nothing.
use Rattle.std.proofs.Common.{Ok, Err, refl}
use Rattle.std.proofs.lemmas.List.{length-take-le}
use Rattle.std.proofs.lemmas.Result.{err_from_is_err_and}
use Rattle.store.specs.Refusals.{refused_by}
use Rattle.workbook.proofs.Carries.{unread, reads, steady}
use Rattle.workbook.proofs.changes.carry.Goals as goal

pub returns-in_err-read : goal.returns-in_err-read
returns-in_err-read g c =
    let q = err_from_is_err_and c.from_residual.result c.from_residual.ensures.1 in
    rw (q.1, q.2) (Err (refused_by c.in_err-read.field-0.0), _, steady g.H.ChainStore.lawful c.read.new.store, unread g.H.ChainStore.MOST g.H.ChainStore.LAYER c.args.plan.from c.args.plan.start c.args.plan.keep c.args.store.now.state.0 c.read.new.store.state.0 _ (refused_by c.in_err-read.field-0.0) (length-take-le c.args.plan.keep _ c.args.plan.few) c.in_err-read.ensures.told c.in_err-read.ensures.left, (refl, refl))

pub returns-in_err-free : goal.returns-in_err-free
returns-in_err-free g c =
    let p = c.args.plan in
    let q = err_from_is_err_and c.from_residual-in_err-free.result c.from_residual-in_err-free.ensures.1 in
    let read = reads g.H.ChainStore.MOST g.H.ChainStore.LAYER p.from p.start p.keep c.args.store.now.state.0 c.read.new.store.state.0 _ c.read.new.out (length-take-le p.keep _ p.few) c.in_ok-read.ensures.told c.in_ok-read.ensures.out c.in_ok-read.ensures.left in
    rw (q.1, q.2) (Ok c.read.new.out, _, steady g.H.ChainStore.lawful c.read.new.store, read, (Err (refused_by c.in_err-free.field-0.0), _, steady g.H.ChainStore.lawful c.free.new.store, (c.in_err-free.ensures.told, c.in_err-free.ensures.left), (refl, refl)))

pub returns-in_err-start : goal.returns-in_err-start
returns-in_err-start g c =
    let p = c.args.plan in
    let q = err_from_is_err_and c.from_residual-in_err-start.result c.from_residual-in_err-start.ensures.1 in
    let read = reads g.H.ChainStore.MOST g.H.ChainStore.LAYER p.from p.start p.keep c.args.store.now.state.0 c.read.new.store.state.0 _ c.read.new.out (length-take-le p.keep _ p.few) c.in_ok-read.ensures.told c.in_ok-read.ensures.out c.in_ok-read.ensures.left in
    rw (q.1, q.2) (Ok c.read.new.out, _, steady g.H.ChainStore.lawful c.read.new.store, read, (Ok c.in_ok-free.field-0, _, steady g.H.ChainStore.lawful c.free.new.store, (c.in_ok-free.ensures.told, c.in_ok-free.ensures.left), (Err (refused_by c.in_err-start.field-0.0), _, steady g.H.ChainStore.lawful c.begin.new.store, c.in_err-start.ensures.left, (refl, refl))))

pub returns-in_err-write : goal.returns-in_err-write
returns-in_err-write g c =
    let p = c.args.plan in
    let q = err_from_is_err_and c.from_residual-in_err-write.result c.from_residual-in_err-write.ensures.1 in
    let read = reads g.H.ChainStore.MOST g.H.ChainStore.LAYER p.from p.start p.keep c.args.store.now.state.0 c.read.new.store.state.0 _ c.read.new.out (length-take-le p.keep _ p.few) c.in_ok-read.ensures.told c.in_ok-read.ensures.out c.in_ok-read.ensures.left in
    rw (q.1, q.2) (Ok c.read.new.out, _, steady g.H.ChainStore.lawful c.read.new.store, read, (Ok c.in_ok-free.field-0, _, steady g.H.ChainStore.lawful c.free.new.store, (c.in_ok-free.ensures.told, c.in_ok-free.ensures.left), (Ok c.in_ok-start.start, _, steady g.H.ChainStore.lawful c.begin.new.store, c.in_ok-start.ensures.left, (Err (refused_by c.in_err-write.field-0.0), _, steady g.H.ChainStore.lawful c.write.new.store, (c.in_err-write.ensures.told, c.in_err-write.ensures.left), (refl, refl)))))

pub returns : goal.returns
returns g c =
    let p = c.args.plan in
    let read = reads g.H.ChainStore.MOST g.H.ChainStore.LAYER p.from p.start p.keep c.args.store.now.state.0 c.read.new.store.state.0 _ c.read.new.out (length-take-le p.keep _ p.few) c.in_ok-read.ensures.told c.in_ok-read.ensures.out c.in_ok-read.ensures.left in
    (Ok c.read.new.out, _, steady g.H.ChainStore.lawful c.read.new.store, read, (Ok c.in_ok-free.field-0, _, steady g.H.ChainStore.lawful c.free.new.store, (c.in_ok-free.ensures.told, c.in_ok-free.ensures.left), (Ok c.in_ok-start.start, _, steady g.H.ChainStore.lawful c.begin.new.store, c.in_ok-start.ensures.left, (Ok c.in_ok-write.field-0, _, steady g.H.ChainStore.lawful c.write.new.store, (c.in_ok-write.ensures.told, c.in_ok-write.ensures.left), (refl, refl)))))
