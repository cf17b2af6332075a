-- What the making of a workbook promises, and each call on one, by the workbook before and after.
-- Assumes nothing.
use Rattle.store.specs.declared.stores.ChainStore.{Ghosts}
use Rattle.store.specs.Meaning.{Store}
use Rattle.minialloc.specs.States.{State, as_shown}
use Rattle.workbook.specs.declared.Workbook.{Workbook}
use Rattle.workbook.specs.Events.{Event}
use Rattle.workbook.specs.Laws.{Called, Made}

module _ {X : Type 0} {K : Ghosts X} where
  -- host, table and stack, as the mini store shows them
  abbrev pub state_of : Workbook X K → State
  state_of w = as_shown w.store.state.0

  -- that it is made over the host m
  abbrev pub Begins : Store → Workbook X K → Type 0
  Begins m w = Made K.MOST K.LAYER m (state_of w)

  -- that it makes of the workbook w the workbook z
  abbrev pub Promised : Workbook X K → Event → Workbook X K → Type 0
  Promised w e z = Called K.MOST K.LAYER (state_of w) e (state_of z)
