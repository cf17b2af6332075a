-- What each call promises, from what its definition says of it.
-- Assumes nothing.
use Rattle.std.proofs.Common.{◌≡◌, ℕ, ◌≤◌, [], length, None, Err, Result, ap, ◌∙◌, sym, subst}
use Rattle.links.specs.Links.{at, Checked}
use Rattle.links.specs.Stack.{Stacks}
use Rattle.links.proofs.Stacks.{kept_of, few_of}
use Rattle.store.specs.declared.stores.ChainStore.{Ghosts}
use Rattle.store.specs.declared.faults.Fault.{Fault}
use Rattle.store.specs.Meaning.{Store, Lawful, Hosted}
use Rattle.minifat.specs.Told.{told_of, fault_of}
use Rattle.minialloc.specs.declared.MiniStore.{MiniStore}
use Rattle.minialloc.specs.Laws.{lawful_shown}
use Rattle.minialloc.specs.States.{State, as_shown}
use Rattle.workbook.specs.Events.{Event}
use Rattle.workbook.specs.Laws.{Called, Made, Upheld}
use Rattle.workbook.specs.Histories.{made_over, Run, made, History}
use Rattle.workbook.specs.Promises.{state_of}
use Rattle.workbook.specs.Whole.{Meant}
use Rattle.workbook.specs.declared.Workbook.{Workbook}
use Rattle.workbook.proofs.Carries.{steady}
use Rattle.workbook.proofs.Laws.{called_by}
use Rattle.workbook.proofs.Showing.{meant_shown, Performed, shown_performs}

-- the laws of host and mini store hold of every value of a mini store
module _ {X : Type 0} {K : Ghosts X} (lawful : (x : X) → Lawful K.MOST (K.meaning x)) (hosted : (x : X) → Hosted (K.meaning x)) where
  pub meant_by : (m : MiniStore X K) → Meant K.MOST m.state.0
  meant_by m = record {
    lawful = steady lawful m;
    hosted = subst (λ (y : State). Hosted y.host) (sym m.state.1) (hosted m.host);
    mini = lawful_shown m.opened (K.meaning m.host) m.table m.state K.MOST (lawful m.host);
    few = subst (λ (y : State). length y.links ≤ 4096) (sym m.state.1) (few_of m.table.links);
    checked = subst (λ (y : State). Checked (at y.links)) (sym m.state.1) (kept_of m.table).checked;
    stacks = subst (λ (y : State). Stacks y.links y.stack) (sym m.state.1) (kept_of m.table).stacks;
  }

  -- so a call on the workbook w that performs as its definition says keeps what is promised
  pub promise : (layer : ℕ) (w : Workbook X K) (m : MiniStore X K) (e : Event) → Performed K.MOST layer w.store.state.0 e m.state.0 → Called K.MOST layer (state_of w) e (as_shown m.state.0)
  promise layer w m e t = called_by K.MOST layer (state_of w) e (as_shown m.state.0) (meant_shown (meant_by m))
      (shown_performs K.MOST layer w.store.state.0 m.state.0 (meant_by w.store) (meant_by m) w.whole e t)

  -- and one that is made begins every history
  pub making : (layer : ℕ) (m : MiniStore X K) (h : Store) → m.state.0 ≡ made_over h → Made K.MOST layer h (as_shown m.state.0)
  making layer m h shut =
      let e : as_shown m.state.0 ≡ made_over h = ap as_shown shut in
      let ok = subst (Meant K.MOST) e (meant_shown (meant_by m)) in
      record {
        state = e;
        begins = subst (λ y. History K.MOST layer h [] y None) (sym e) (made ok);
        upholds = subst (λ y. Run K.MOST layer (Upheld layer) h [] y None) (sym e) (made ok);
      }

-- a fault that is passed on
pub passed : {A B : Type 0} (g : A → B) (r : Result A Fault) (f : Fault) → (y : Fault) × (r ≡ Err y) × (y ≡ f) → told_of g r ≡ Err (fault_of f)
passed g r f q = ap (told_of g) q.1 ∙ ap (λ y. Err (fault_of y)) q.2
