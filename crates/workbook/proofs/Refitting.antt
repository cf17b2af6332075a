-- A plan was made for a stream and its room looked for, and then its chain was rebuilt: nothing is refused from there on.
-- Assumes nothing.
use Rattle.std.proofs.Common.{◌≡◌, ℕ, ◌≤◌, Ok, Err, Result, refl, ap, ◌∙◌, subst, arith}
use Rattle.store.specs.declared.entries.Entry.{Entry}
use Rattle.store.specs.declared.stores.ChainStore.{Ghosts}
use Rattle.store.specs.Meaning.{Lawful, entered, due_entry}
use Rattle.store.specs.Refusals.{Refused, answer}
use Rattle.minifat.specs.Told.{Faulted}
use Rattle.minialloc.specs.Laws.{lawful_shown}
use Rattle.minialloc.specs.States.{State, meant_in}
use Rattle.minialloc.specs.declared.MiniStore.{MiniStore}
use Rattle.workbook.specs.declared.plans.Plan.{Plan}
use Rattle.workbook.specs.Calls.{Fitted, FittedTo}
use Rattle.workbook.specs.Homes.{over}
use Rattle.workbook.specs.Refusals.{stream_of}
use Rattle.workbook.specs.Steps.{PlanOf, need_for, room_for, Rebuilding}
use Rattle.workbook.specs.Whole.{Holds}
use Rattle.workbook.proofs.Carries.{steady}
use Rattle.workbook.proofs.Fitting.{never, entry_due, holds_then, not_err, fit_is}

-- a is the mini store before, and b when the chain is rebuilt; x, y and z are the states when the stream is found, the plan
-- made and the room told
module _ {X : Type 0} {K : Ghosts X} (lawful : (x : X) → Lawful K.MOST (K.meaning x)) (a b : MiniStore X K) (hold : Holds a.state.0) (id : ℕ) {e : Entry} (q : ◌≡◌ {A = Result Entry Faulted} (Ok e) (stream_of a.state.0 K.LAYER id))
    {x y z : State} (found : x ≡ a.state.0) {n : ℕ} {p : Plan} (plan : PlanOf x e n p) (left : y ≡ x) {need room : ℕ} (needs : need ≡ need_for p) (rooms : room ≡ room_for y p) (stay : z ≡ y) (within : need ≤ room)
    (r : Result ℕ Refused) (t : Rebuilding K.MOST K.LAYER p z r b.state.0) where
  abbrev s : State
  s = a.state.0

  abbrev m : State
  m = b.state.0

  ok : Lawful K.MOST s.host
  ok = steady lawful a

  okm : Lawful K.MOST m.host
  okm = steady lawful b

  mini : Lawful 4096 (meant_in s)
  mini = lawful_shown a.opened (K.meaning a.host) a.table a.state K.MOST (lawful a.host)

  po : PlanOf s e n p
  po = subst (λ i. PlanOf i e n p) found plan

  enough : need_for p ≤ room_for s p
  enough = let k = rooms ∙ ap (λ i. room_for i p) (left ∙ found) in omega (arith, needs, k, within)

  step : Rebuilding K.MOST K.LAYER p s r m
  step = subst (λ i. Rebuilding K.MOST K.LAYER p i r m) (stay ∙ left ∙ found) t

  pub unrefused : (f : Refused) → r ≡ Err f → ⊥
  unrefused = never K.MOST K.LAYER s m ok okm mini hold id e q n p po enough r step

  pub entry_found : (f : Refused) → ◌≡◌ {A = Result (Unit {0}) Refused} (Err f) (answer (due_entry m.host K.LAYER id) tt) → ⊥
  entry_found f k = not_err _ f (entry_due K.MOST K.LAYER s m ok okm mini hold id e q n p po enough r step) k

  -- its entry is set
  module _ (h : ℕ) (k : r ≡ Ok h) (c : MiniStore X K) (is : c.state.0 ≡ over m (entered m.host K.LAYER id h n)) where
    pub fit_holds : Holds c.state.0
    fit_holds = holds_then K.MOST K.LAYER s m ok okm mini hold id e q n p po enough r step h k c.state.0 is (steady lawful c)

    pub fit_done : n ≤ 16777216 → Fitted K.MOST K.LAYER s id n (Ok h) c.state.0
    fit_done few =
        subst (λ i. FittedTo K.MOST K.LAYER s id n i (Ok h) c.state.0) (fit_is s e n p po K.LAYER id q few enough)
        (h, refl, p, po, m, okm, subst (λ i. Rebuilding K.MOST K.LAYER p s i m) k step, is)
