-- Assumes nothing.
use Rattle.std.proofs.Common.{Ok, ap, ◌∙◌, arith}
use Rattle.minifat.proofs.Fats.{fat_over, fat_told}
use Rattle.minifat.proofs.fat_links.Goals as goal

pub returns-then-all-gt-MOST_LINKS-clause-told : goal.returns-then-all-gt-MOST_LINKS-clause-told
returns-then-all-gt-MOST_LINKS-clause-told g c =
    rw c.fault.ensures (fat_over (g.H.ChainStore.meaning c.args.host.now) g.H.ChainStore.LAYER _ _ c.in_ok-all.ensures.told (omega arith))

pub returns-clause-told : goal.returns-clause-told
returns-clause-told g c =
    ap Ok c.truncate.ensures ∙ fat_told (g.H.ChainStore.meaning c.args.host.now) g.H.ChainStore.LAYER _ _ c.in_ok-all.ensures.told (omega arith)
