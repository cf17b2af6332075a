-- Assumes nothing.
use Rattle.std.proofs.Common.{ltb, ap, ◌∙◌, arith}
use Rattle.std.specs.Bool.{then_some}
use Rattle.std.proofs.lemmas.Bool.{ne_eqb}
use Rattle.links.proofs.Traces.{place_past, place_none, place_met}
use Rattle.links.proofs.walks.place_at.Goals as goal
use Rattle.links.proofs.walks.place_at.Goals.{then-front-rank, else-front-rank}

pub returns-then-rank-count : goal.returns-then-rank-count
returns-then-rank-count g c = place_past _ c.args.rank (g.T.LinkTable.links c.args.table.now) c.args.from (omega arith)

pub returns : goal.returns
returns g c =
    let L = g.T.LinkTable.links c.args.table.now in
    let s = c.walk-front.result.stop in
    c.then_some.ensures ∙ elim c.if-front-rank.branch [
      | then-front-rank w ↦ ap (λ b. then_some b s) (w.then_some-is ∙ ap (ltb s) c.count-count.ensures.told)
          ∙ place_met _ c.args.rank L c.args.from _ s c.walk-front.ensures.places c.walk-front.ensures.stop w.if-front-rank.true (omega arith)
      | else-front-rank w ↦ ap (λ b. then_some b s) (w.then_some-is ∙ ne_eqb _ _ w.if-front-rank.false)
          ∙ place_none _ c.args.rank L c.args.from _ s c.walk-front.ensures.places c.walk-front.ensures.stop w.if-front-rank.false
    ]
