-- The calls so far are told of, and made a history.
-- Assumes nothing.
use Rattle.std.proofs.Common.{map, take}
use Rattle.edits.specs.Scripts.{asked}
use Rattle.minifat.specs.Told.{told_of}
use Rattle.replay.specs.Replays.{reply}
use Rattle.replay.proofs.Going.{Went}
use Rattle.workbook.specs.Promises.{state_of}
use Rattle.replay.proofs.replays.replay.Given as goal

abbrev pub invariant-loop-edit : goal.invariant-loop-edit
invariant-loop-edit g l =
    Went g.H.ChainStore.MOST g.H.ChainStore.LAYER (g.H.ChainStore.meaning l.fn.host) (state_of l.book) (take l.edit-index (map asked l.edits)) (map (told_of reply) l.answers.items)
