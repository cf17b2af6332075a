-- Assumes nothing.
use Rattle.std.proofs.Common.{replicate, refl, arith}
use Rattle.minifat.proofs.Blocks.{answer_due, block_more}
use Rattle.minifat.proofs.gathering.gather.Goals as goal

pub loop-rank-preserved : goal.loop-rank-preserved
loop-rank-preserved g c =
    block_more (g.S.ChainStore.meaning c.args.store.now) g.S.ChainStore.LAYER c.args.head _ _ c.loop-rank.rank _ _ _ _ (replicate 512 0)
    c.loop-rank.invariant (omega arith) refl (answer_due _ _ _ c.in_ok-read.ensures.told) c.read.ensures.out c.read.ensures.left c.add_block.ensures
