-- Assumes nothing.
use Rattle.std.proofs.Common.{ap, ◌∙◌}
use Rattle.std.proofs.lemmas.Result.{err_from_is_err_and}
use Rattle.links.specs.Check.{settled}
use Rattle.minifat.specs.Table.{strictly, table_in}
use Rattle.minialloc.specs.States.{State}
use Rattle.workbook.specs.Opening.{streams_fault, heads_fault}
use Rattle.workbook.proofs.Openings.{streams_amiss, heads_amiss, nothing_amiss}
use Rattle.workbook.proofs.Promises.{passed}
use Rattle.workbook.proofs.opening.sound_table.Goals as goal

pub returns-in_err-check_streams-clause-told : goal.returns-in_err-check_streams-clause-told
returns-in_err-check_streams-clause-told g c =
    let layer = g.H.ChainStore.LAYER in
    let L = table_in c.in_ok-table.table in
    passed table_in _ _ (err_from_is_err_and c.from_residual-in_err-check_streams.result c.from_residual-in_err-check_streams.ensures.1)
    ∙ streams_amiss layer c.args.store.now.state.0 (strictly c.args.validation) L c.in_ok-table.ensures.told _
    (c.in_err-check_streams.ensures.told ∙ ap (λ (x : State). settled (streams_fault x layer L) tt) c.read_table.ensures.left)

pub returns-in_err-check_heads-clause-told : goal.returns-in_err-check_heads-clause-told
returns-in_err-check_heads-clause-told g c =
    let layer = g.H.ChainStore.LAYER in
    let L = table_in c.in_ok-table.table in
    passed table_in _ _ (err_from_is_err_and c.from_residual-in_err-check_heads.result c.from_residual-in_err-check_heads.ensures.1)
    ∙ heads_amiss layer c.args.store.now.state.0 (strictly c.args.validation) L c.in_ok-table.ensures.told
    (c.in_ok-check_streams.ensures.told ∙ ap (λ (x : State). settled (streams_fault x layer L) tt) c.read_table.ensures.left) _
    (c.in_err-check_heads.ensures.told ∙ ap (λ (x : State). settled (heads_fault x) tt) (c.check_streams.ensures.left ∙ c.read_table.ensures.left))

pub returns-clause-told : goal.returns-clause-told
returns-clause-told g c =
    let layer = g.H.ChainStore.LAYER in
    let L = table_in c.in_ok-table.table in
    nothing_amiss layer c.args.store.now.state.0 (strictly c.args.validation) L c.in_ok-table.ensures.told
    (c.in_ok-check_streams.ensures.told ∙ ap (λ (x : State). settled (streams_fault x layer L) tt) c.read_table.ensures.left)
    (c.in_ok-check_heads.ensures.told ∙ ap (λ (x : State). settled (heads_fault x) tt) (c.check_streams.ensures.left ∙ c.read_table.ensures.left))
