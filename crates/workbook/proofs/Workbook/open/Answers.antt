-- Assumes nothing.
use Rattle.std.proofs.Common.{true, Ok, refl, ap, ◌∙◌, subst}
use Rattle.std.proofs.lemmas.Result.{err_from_is_err_and}
use Rattle.links.specs.Stacked.{stack_of}
use Rattle.minifat.specs.Table.{strictly, table_in}
use Rattle.minifat.specs.Told.{told_of}
use Rattle.minialloc.specs.States.{State, as_shown}
use Rattle.workbook.specs.Opening.{opening_of, OpenedBy}
use Rattle.workbook.proofs.Openings.{opens}
use Rattle.workbook.proofs.Promises.{promise, passed, meant_by}
use Rattle.workbook.proofs.Workbook.open.Goals as goal

pub returns-in_err-table : goal.returns-in_err-table
returns-in_err-table g c =
    let s = c.args.self.now.store.state.0 in
    let told = c.in_err-table.ensures.told ∙ ap (λ (x : State). opening_of x g.H.ChainStore.LAYER (strictly c.args.validation)) c.shut.ensures in
    promise g.H.ChainStore.lawful g.met.H.Host.hosted g.H.ChainStore.LAYER c.args.self.now c.sound_table.new.store _
    (subst (λ x. OpenedBy s x (told_of (λ u. u) c.from_residual.result) (as_shown c.sound_table.new.store.state.0)) told
    (passed (λ u. u) _ _ (err_from_is_err_and c.from_residual.result c.from_residual.ensures.1), ap as_shown (c.in_err-table.ensures.left ∙ c.shut.ensures)))

pub invariant_of-self-2 : goal.invariant_of-self-2
invariant_of-self-2 g c =
    let st = c.args.self.now.store in
    let m = meant_by g.H.ChainStore.lawful g.met.H.Host.hosted st in
    let t = c.in_ok-table.table in
    let told = c.in_ok-table.ensures.told ∙ ap (λ (x : State). opening_of x g.H.ChainStore.LAYER (strictly c.args.validation)) c.shut.ensures in
    let left = c.in_ok-table.ensures.left ∙ c.shut.ensures in
    record {
      whole = opens g.H.ChainStore.MOST g.H.ChainStore.LAYER st.state.0 c.install.new.self.state.0 (strictly c.args.validation) (table_in t) (stack_of t) m.lawful m.hosted told
          c.in_ok-table.ensures.stack (c.install.ensures ∙ ap (λ (x : State). record { opened = true; host = x.host; links = table_in t; stack = stack_of t }) left);
    }

pub returns : goal.returns
returns g c =
    let s = c.args.self.now.store.state.0 in
    let t = c.in_ok-table.table in
    let told = c.in_ok-table.ensures.told ∙ ap (λ (x : State). opening_of x g.H.ChainStore.LAYER (strictly c.args.validation)) c.shut.ensures in
    let left = c.in_ok-table.ensures.left ∙ c.shut.ensures in
    let z = c.install.ensures ∙ ap (λ (x : State). record { opened = true; host = x.host; links = table_in t; stack = stack_of t }) left
    ∙ ap (λ k. record { opened = true; host = s.host; links = table_in t; stack = k }) c.in_ok-table.ensures.stack in
    promise g.H.ChainStore.lawful g.met.H.Host.hosted g.H.ChainStore.LAYER c.args.self.now c.install.new.self _
    (subst (λ x. OpenedBy s x (Ok tt) (as_shown c.install.new.self.state.0)) told (refl, ap as_shown z))
