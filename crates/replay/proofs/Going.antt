-- A list of calls makes a history, call by call.
-- Assumes nothing.
use Rattle.std.proofs.Common.{ℕ, List, [], ◌∷◌, ◌++◌, None, Option, Result}
use Rattle.store.specs.Meaning.{Store}
use Rattle.minifat.specs.Told.{Faulted}
use Rattle.minialloc.specs.States.{State}
use Rattle.edits.specs.Scripts.{Said}
use Rattle.replay.specs.Replays.{Reply, Tells, Happened, Replayed}
use Rattle.workbook.specs.Events.{Event}
use Rattle.workbook.specs.Histories.{Ledger, Run, History, booked}
use Rattle.workbook.specs.Laws.{Upheld, Called, Made}

-- the calls cs were made, and told of by rs; s is the state then
pub record Went (most layer : ℕ) (m : Store) (s : State) (cs : List Said) (rs : List (Result Reply Faulted)) : Type 0 where
  pub events : List Event
  pub ledger : Option Ledger
  pub happened : Happened cs rs events
  pub history : History most layer m events s ledger
  pub upheld : Run most layer (Upheld layer) m events s ledger

one_more : (cs : List Said) (rs : List (Result Reply Faulted)) (es : List Event) (c : Said) (r : Result Reply Faulted) (e : Event)
    → Happened cs rs es → Tells c r e → Happened (cs ++ c ∷ []) (rs ++ r ∷ []) (es ++ e ∷ [])
one_more [] [] [] c r e h t = (t, tt)
one_more [] [] (x ∷ es) c r e h t = absurd h
one_more [] (x ∷ rs) es c r e h t = absurd h
one_more (x ∷ cs) [] es c r e h t = absurd h
one_more (x ∷ cs) (y ∷ rs) [] c r e h t = absurd h
one_more (x ∷ cs) (y ∷ rs) (z ∷ es) c r e h t = (h.0, one_more cs rs es c r e h.1 t)

module _ (most layer : ℕ) (m : Store) where
  pub went_none : (s : State) → Made most layer m s → Went most layer m s [] []
  went_none s b = record { events = []; ledger = None; happened = tt; history = b.begins; upheld = b.upholds }

  pub went_more : (s z : State) (cs : List Said) (rs : List (Result Reply Faulted)) (c : Said) (r : Result Reply Faulted) → Went most layer m s cs rs
      → (e : Event) × Tells c r e × Called most layer s e z → Went most layer m z (cs ++ c ∷ []) (rs ++ r ∷ [])
  went_more s z cs rs c r w t = record {
    events = w.events ++ t.0 ∷ [];
    ledger = booked z t.0 w.ledger;
    happened = one_more cs rs w.events c r t.0 w.happened t.1;
    history = t.2.continues m w.events w.ledger w.history;
    upheld = t.2.upholds m w.events w.ledger w.history;
  }

  pub went_all : (s : State) (cs : List Said) (rs : List (Result Reply Faulted)) → Went most layer m s cs rs → Replayed most layer m cs rs
  went_all s cs rs w = record { events = w.events; state = s; ledger = w.ledger; happened = w.happened; upheld = w.upheld }
