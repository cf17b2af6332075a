-- Assumes nothing.
use Rattle.std.proofs.Common.{rules, refl, sym, ◌∙◌}
use Rattle.std.proofs.lemmas.Iterator.{YieldsList-from_slice}
use Rattle.std.proofs.lemmas.Bool.{cond-false}
use borrow.Author.Tests.{tests}
use Rattle.script.specs.Words.{more}
use Rattle.script.proofs.Tried.{tried}
use Rattle.script.proofs.digits.Goals as goal

pub returns : goal.returns
returns c =
    tried _ _ _ _ _ (more c.args.base) (λ y. refl) (λ b x r q k. (search (rules, tests), search (rules, tests))) 0 _ (YieldsList-from_slice c.args.text.now cc) c.try_fold.ensures.ran
    ∙ sym (cond-false _ _ _ (sym c.if-is_empty.ensures))
