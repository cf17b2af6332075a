-- Assumes nothing.
use Rattle.std.proofs.Common.{◌≡◌, ℕ, Result, Ok, Err, None, refl, sym, ap, ◌∙◌, subst}
use Rattle.std.specs.Prelude.{not}
use Rattle.minialloc.specs.States.{State, meant_in}
use Rattle.minifat.specs.Told.{Faulted}
use Rattle.workbook.specs.Refusals.{row, refuse}
use Rattle.workbook.specs.Whole.{Holds}
use Rattle.workbook.proofs.Promises.{promise}
use Rattle.workbook.proofs.Workbook.room.Goals as goal

pub invariant_of-self : goal.invariant_of-self
invariant_of-self g c = record { whole = subst Holds (sym (c.mini_room-mini.ensures.left ∙ c.host_room-host.ensures.left)) c.args.self.now.whole }

pub returns-then-not-is_open : goal.returns-then-not-is_open
returns-then-not-is_open g c =
    let s = c.args.self.now.store.state.0 in
    promise g.H.ChainStore.lawful g.met.H.Host.hosted g.H.ChainStore.LAYER c.args.self.now c.args.self.now.store _
    (ap Err c.refused.ensures ∙ ap (λ b. row (not b) (refuse 1 0 None) (Ok (s.host.room, (meant_in s).room))) c.if-not-is_open.ensures, refl)

pub returns : goal.returns
returns g c =
    let s = c.args.self.now.store.state.0 in
    let mini = c.mini_room-mini.ensures.told ∙ ap (λ (x : State). (meant_in x).room) c.host_room-host.ensures.left in
    let rooms : ◌≡◌ {A = Result (ℕ × ℕ) Faulted} (Ok (c.host_room-host.result, c.mini_room-mini.result)) (Ok (s.host.room, (meant_in s).room)) = (λ i. Ok (c.host_room-host.ensures.told i, mini i)) in
    promise g.H.ChainStore.lawful g.met.H.Host.hosted g.H.ChainStore.LAYER c.args.self.now c.mini_room-mini.new.self _
    (rooms ∙ ap (λ b. row (not b) (refuse 1 0 None) (Ok (s.host.room, (meant_in s).room))) c.if-not-is_open.ensures, c.mini_room-mini.ensures.left ∙ c.host_room-host.ensures.left)
