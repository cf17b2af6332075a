-- The blocks so far were read and gathered.
-- Assumes nothing.
use Rattle.minifat.proofs.Blocks.{Reading}
use Rattle.minifat.specs.Gathered.{gathering_of}
use Rattle.minifat.proofs.gathering.gather.Given as goal

abbrev pub invariant-loop-rank : goal.invariant-loop-rank
invariant-loop-rank g l = Reading (g.S.ChainStore.meaning l.initial.store) (g.S.ChainStore.meaning l.store) g.S.ChainStore.LAYER l.head l.rank (gathering_of l.all)
