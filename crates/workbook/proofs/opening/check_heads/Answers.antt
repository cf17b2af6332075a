-- Assumes nothing.
use Rattle.std.proofs.Common.{length, ap, ◌∙◌, arith}
use Rattle.std.proofs.lemmas.Result.{err_from_is_err_and}
use Rattle.links.specs.Check.{first_of, settled}
use Rattle.workbook.specs.Opening.{head_fault}
use Rattle.workbook.proofs.Searches.{searched_some, searched_all, then_settled}
use Rattle.workbook.proofs.opening.check_heads.Goals as goal

pub returns-in_err-check_head-clause-told : goal.returns-in_err-check_head-clause-told
returns-in_err-check_head-clause-told g c =
    let l = c.loop-id in
    let n = length c.args.store.now.state.0.host.notes.entries in
    let left = c.entries-id-end.ensures.left ∙ c.check_bases.ensures.left in
    let long = c.entries-id-end.ensures.told ∙ ap (λ s. length s.host.notes.entries) c.check_bases.ensures.left in
    let q = err_from_is_err_and c.from_residual-in_err-check_head.result c.from_residual-in_err-check_head.ensures.1 in
    rw (q.1, q.2) (then_settled _ _ _ c.in_ok-check_bases.ensures.told
    (searched_some head_fault c.entries-id-end.new.self.state.0 l.store.state.0 l.id l.invariant n _ (omega (arith, long)) c.in_err-check_head.ensures.told
    ∙ ap (λ s. settled (first_of (head_fault s) n 0) tt) left))

pub returns-clause-told : goal.returns-clause-told
returns-clause-told g c =
    let l = c.loop-id in
    let n = length c.args.store.now.state.0.host.notes.entries in
    let left = c.entries-id-end.ensures.left ∙ c.check_bases.ensures.left in
    let long = c.entries-id-end.ensures.told ∙ ap (λ s. length s.host.notes.entries) c.check_bases.ensures.left in
    then_settled _ _ _ c.in_ok-check_bases.ensures.told
    (searched_all head_fault c.entries-id-end.new.self.state.0 l.store.state.0 l.id l.invariant n (omega (arith, long))
    ∙ ap (λ s. settled (first_of (head_fault s) n 0) tt) left)
