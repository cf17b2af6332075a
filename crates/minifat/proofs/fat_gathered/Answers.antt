-- Assumes nothing.
use Rattle.std.proofs.Common.{ap, ◌∙◌, arith}
use Rattle.minifat.proofs.Fats.{blocks_few, fat_read}
use Rattle.minifat.proofs.fat_gathered.Goals as goal

pub overflow_mul-blocks : goal.overflow_mul-blocks
overflow_mul-blocks g c =
    omega (
      arith,
      blocks_few _ _ (g.H.ChainStore.lawful c.args.host.now) _ _ c.in_ok-words.ensures.told
          _ (c.sector_blocks.ensures.told ∙ ap (λ m. m.unit) c.fat_words.ensures.left),
    )

pub returns-clause-told : goal.returns-clause-told
returns-clause-told g c = fat_read _ _ (g.H.ChainStore.lawful c.args.host.now) _ _ c.in_ok-words.ensures.told
    _ (c.sector_blocks.ensures.told ∙ ap (λ m. m.unit) c.fat_words.ensures.left)
    _ _ _ _ (c.sector_blocks.ensures.left ∙ c.fat_words.ensures.left) c.gather-read.ensures.told c.map_err.ensures.cases
