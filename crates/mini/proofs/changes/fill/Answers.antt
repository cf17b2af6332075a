-- Assumes nothing.
use Rattle.std.proofs.Common.{◌+◌, ◌*◌, sym, ap, ◌∙◌, arith}
use Rattle.std.proofs.lemmas.List.{take-replicate}
use Rattle.mini.proofs.Fillings.{wrote_unit, filling_more}
use Rattle.mini.proofs.changes.fill.Goals as goal

pub loop-rank-preserved : goal.loop-rank-preserved
loop-rank-preserved g c =
    let i = c.loop-rank.invariant in
    let means = g.H.ChainStore.meaning in
    let e = c.write.ensures.left in (
      filling_more g.H.ChainStore.LAYER c.args.head c.args.from c.args.count _ (means c.loop-rank.host) (means c.write.new.self) c.loop-rank.rank i.0 _ c.unit-unit.result _
          (omega arith) i.1 (λ t. (c.from.ensures t + c.from-in-loop-rank.ensures t) * c.from-in-loop-rank-2.ensures t) (take-replicate c.unit-unit.result 4096 255 i.2) e,
      i.1 ∙ sym (ap (λ s. s.unit) e ∙ wrote_unit (means c.loop-rank.host) _ _ _ _),
      i.2,
    )
