-- Assumes nothing.
use Rattle.std.proofs.Common.{◌≡◌, ◌+◌, ◌++◌, ◌∷◌, [], map, take, ap, ◌∙◌, subst, sym, arith}
use Rattle.std.proofs.lemmas.List.{take_more, length-map, get_or-map, map-append}
use Rattle.edits.specs.Scripts.{asked}
use Rattle.minifat.specs.Told.{told_of}
use Rattle.replay.specs.Replays.{reply}
use Rattle.workbook.specs.Promises.{state_of}
use Rattle.replay.proofs.Going.{Went, went_none, went_more}
use Rattle.replay.proofs.replays.replay.Goals as goal

pub loop-edit-init : goal.loop-edit-init
loop-edit-init g c =
    subst (λ vs. Went g.H.ChainStore.MOST g.H.ChainStore.LAYER (g.H.ChainStore.meaning c.args.host) (state_of c.new-book.result) [] (map (told_of reply) vs))
    (sym c.new-answers.ensures.items) (went_none _ _ _ _ c.new-book.ensures)

pub loop-edit-preserved : goal.loop-edit-preserved
loop-edit-preserved g c =
    let es = c.args.edits.now in
    let i = c.loop-edit.edit-index in
    let e = c.edit-item.result in
    let went = went_more _ _ _ (state_of c.loop-edit.book) (state_of c.ask.new.book) _ _ (asked e) (told_of reply c.in_ok-answer.answer) c.loop-edit.invariant c.in_ok-answer.ensures in
    let asks : take i (map asked es) ++ asked e ∷ [] ≡ take (i + 1) (map asked es) =
    ap (λ x. take i (map asked es) ++ x ∷ []) (ap asked c.edit-item.is ∙ sym (get_or-map asked es i e (asked e) c.loop-edit-test.true)) ∙ sym (take_more (map asked es) i (asked e) (omega (arith, c.loop-edit-test.true, length-map es asked))) in
    let told = sym (ap (map (told_of reply)) c.in_ok-push.ensures.items ∙ map-append (told_of reply) c.loop-edit.answers.items (c.in_ok-answer.answer ∷ [])) in
    subst (λ cs. Went g.H.ChainStore.MOST g.H.ChainStore.LAYER (g.H.ChainStore.meaning c.args.host) (state_of c.ask.new.book) cs (map (told_of reply) c.push.new.self.items)) asks
    (subst (λ rs. Went g.H.ChainStore.MOST g.H.ChainStore.LAYER (g.H.ChainStore.meaning c.args.host) (state_of c.ask.new.book) (take i (map asked es) ++ asked e ∷ []) rs) told went)
