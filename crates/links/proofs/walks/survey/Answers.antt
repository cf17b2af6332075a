-- Assumes nothing.
use Rattle.std.proofs.Common.{inl, inr, arith}
use Rattle.links.proofs.Traces.{surveying, survey_none, survey_last, survey_here, trace_short}
use Rattle.links.proofs.walks.survey.Goals as goal
use Rattle.links.proofs.walks.survey.Goals.{then-units-eq0-via-then-units-eq0, then-units-eq0-via-else-units-eq0+then-rest, then-units-eq0-via-else-units-eq0+else-rest+then-has_link}

pub overflow_sub-count : goal.overflow_sub-count
overflow_sub-count g c =
    omega (arith, c.walk-front.ensures.places, c.min.ensures, trace_short c.min.result (g.T.LinkTable.links c.args.table.now) c.args.head)

pub overflow_add-units : goal.overflow_add-units
overflow_add-units g c =
    let t = surveying (g.T.LinkTable.links c.args.table.now) c.args.head c.args.rank _ _ _ _ _ _ _
    c.count-count.ensures.told c.min.ensures c.walk-front.ensures.places c.walk-front.ensures.stop c.walk-front.ensures.last
    c.walk-rest.ensures.places c.walk-rest.ensures.stop in
    omega (arith, t.short, c.count-count.ensures.few)

pub returns-then-units-eq0 : goal.returns-then-units-eq0
returns-then-units-eq0 g c =
    let t = surveying (g.T.LinkTable.links c.args.table.now) c.args.head c.args.rank _ _ _ _ _ _ _
    c.count-count.ensures.told c.min.ensures c.walk-front.ensures.places c.walk-front.ensures.stop c.walk-front.ensures.last
    c.walk-rest.ensures.places c.walk-rest.ensures.stop in
    record {
      told = survey_none _ _ _ _ _ _ _ _ t (elim c.then-units-eq0.branch [
        | then-units-eq0-via-then-units-eq0 w ↦ inl w.if-units-eq0.true
        | then-units-eq0-via-else-units-eq0+then-rest w ↦ inr (inl w.if-rest.true)
        | then-units-eq0-via-else-units-eq0+else-rest+then-has_link w ↦ inr (inr w.if-has_link.ensures)
      ]);
      few = c.count-count.ensures.few;
    }

pub returns-then-rest-eq0 : goal.returns-then-rest-eq0
returns-then-rest-eq0 g c =
    let t = surveying (g.T.LinkTable.links c.args.table.now) c.args.head c.args.rank _ _ _ _ _ _ _
    c.count-count.ensures.told c.min.ensures c.walk-front.ensures.places c.walk-front.ensures.stop c.walk-front.ensures.last
    c.walk-rest.ensures.places c.walk-rest.ensures.stop in
    record { told = survey_last _ _ _ _ _ _ _ _ t c.if-units-eq0.false c.if-rest.false c.if-has_link.ensures c.if-rest-eq0.true; few = c.count-count.ensures.few }

pub returns-else-rest-eq0 : goal.returns-else-rest-eq0
returns-else-rest-eq0 g c =
    let t = surveying (g.T.LinkTable.links c.args.table.now) c.args.head c.args.rank _ _ _ _ _ _ _
    c.count-count.ensures.told c.min.ensures c.walk-front.ensures.places c.walk-front.ensures.stop c.walk-front.ensures.last
    c.walk-rest.ensures.places c.walk-rest.ensures.stop in
    record { told = survey_here _ _ _ _ _ _ _ _ t c.if-units-eq0.false c.if-rest.false c.if-has_link.ensures c.if-rest-eq0.false; few = c.count-count.ensures.few }
