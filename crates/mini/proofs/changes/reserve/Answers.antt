-- Assumes nothing.
use Rattle.std.proofs.Common.{◌%◌, ap, ◌∙◌, subst}
use Rattle.mini.specs.Adding.{AddsFats, AddsMinis}
use Rattle.mini.proofs.changes.reserve.Goals as goal

pub returns : goal.returns
returns g c =
    let means = g.H.ChainStore.meaning in
    let layer = g.H.ChainStore.LAYER in (
      means c.add_fats.new.host,
      g.H.ChainStore.lawful c.add_fats.new.host,
      subst (λ n. AddsFats (means c.args.host.now) layer n (means c.add_fats.new.host)) (c.low.ensures ∙ ap (λ n. n % 0x100000000) c.need_fats.ensures) c.add_fats.ensures,
      subst (λ n. AddsMinis (means c.add_fats.new.host) layer n (means c.add_minis.new.host)) (c.low-2.ensures ∙ ap (λ n. n % 0x100000000) c.need_minis.ensures) c.add_minis.ensures,
    )
