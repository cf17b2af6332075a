-- Assumes nothing.
use Rattle.std.proofs.Common.{◌∙◌, arith}
use Rattle.links.proofs.Trimmings.{trimming_stop}
use Rattle.links.proofs.stacked.Stacked.trimmed_count.Goals as goal

pub returns-then-link_or_free-clause-told : goal.returns-then-link_or_free-clause-told
returns-then-link_or_free-clause-told c =
    omega (arith, trimming_stop _ _ c.loop-place.invariant (λ l e. c.if-link_or_free.true (c.link_or_free.ensures ∙ e)))

pub returns-clause-told : goal.returns-clause-told
returns-clause-told c = omega (arith, trimming_stop _ _ c.loop-place.invariant (λ l. absurd (omega arith)))
