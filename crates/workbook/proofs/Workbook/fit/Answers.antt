-- Assumes nothing.
use Rattle.std.proofs.Common.{ap, arith}
use Rattle.store.specs.Refusals.{told, refused_by}
use Rattle.workbook.proofs.Refitting.{unrefused, entry_found, fit_holds, fit_done}
use Rattle.workbook.proofs.Workbook.fit.Goals as goal

pub invariant_of-self : goal.invariant_of-self
invariant_of-self g c =
    absurd (unrefused g.H.ChainStore.lawful c.args.self.now.store c.rebuild.new.store c.args.self.now.whole c.args.id c.in_ok-entry.ensures.told c.stream.ensures.left c.plan-plan.ensures.told c.plan-plan.ensures.left
    c.need.ensures c.room_for.ensures.told c.room_for.ensures.left c.if-need-room_for.false (told c.rebuild.result) c.rebuild.ensures (refused_by c.in_err-start.field-0.0) (ap told c.in_err-start.was))

pub returns-in_err-start : goal.returns-in_err-start
returns-in_err-start g c =
    absurd (unrefused g.H.ChainStore.lawful c.args.self.now.store c.rebuild.new.store c.args.self.now.whole c.args.id c.in_ok-entry.ensures.told c.stream.ensures.left c.plan-plan.ensures.told c.plan-plan.ensures.left
    c.need.ensures c.room_for.ensures.told c.room_for.ensures.left c.if-need-room_for.false (told c.rebuild.result) c.rebuild.ensures (refused_by c.in_err-start.field-0.0) (ap told c.in_err-start.was))

pub invariant_of-self-2 : goal.invariant_of-self-2
invariant_of-self-2 g c = record {
  whole = fit_holds g.H.ChainStore.lawful c.args.self.now.store c.rebuild.new.store c.args.self.now.whole c.args.id c.in_ok-entry.ensures.told c.stream.ensures.left c.plan-plan.ensures.told c.plan-plan.ensures.left
      c.need.ensures c.room_for.ensures.told c.room_for.ensures.left c.if-need-room_for.false (told c.rebuild.result) c.rebuild.ensures c.in_ok-start.start (ap told c.in_ok-start.was) c.set_entry.new.self c.set_entry.ensures.left;
}

pub returns-in_err-set_entry : goal.returns-in_err-set_entry
returns-in_err-set_entry g c =
    absurd (entry_found g.H.ChainStore.lawful c.args.self.now.store c.rebuild.new.store c.args.self.now.whole c.args.id c.in_ok-entry.ensures.told c.stream.ensures.left c.plan-plan.ensures.told c.plan-plan.ensures.left
    c.need.ensures c.room_for.ensures.told c.room_for.ensures.left c.if-need-room_for.false (told c.rebuild.result) c.rebuild.ensures _ c.in_err-set_entry.ensures.told)

pub returns : goal.returns
returns g c =
    fit_done g.H.ChainStore.lawful c.args.self.now.store c.rebuild.new.store c.args.self.now.whole c.args.id c.in_ok-entry.ensures.told c.stream.ensures.left c.plan-plan.ensures.told c.plan-plan.ensures.left
    c.need.ensures c.room_for.ensures.told c.room_for.ensures.left c.if-need-room_for.false (told c.rebuild.result) c.rebuild.ensures c.in_ok-start.start (ap told c.in_ok-start.was) c.set_entry.new.self c.set_entry.ensures.left (omega (arith, c.if-len-from.false, c.from.ensures))
