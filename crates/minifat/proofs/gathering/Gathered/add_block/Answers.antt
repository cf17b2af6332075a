-- Assumes nothing.
use Rattle.std.proofs.Common.{◌/◌, [], length, get_or, ap, ◌∙◌, arith}
use Rattle.links.specs.Bytes.{link_in}
use Rattle.minifat.proofs.Gathers.{gathered-more, chunk_link}
use Rattle.minifat.proofs.gathering.Gathered.add_block.Goals as goal

pub loop-link-preserved : goal.loop-link-preserved
loop-link-preserved c =
    let i = c.loop-link.link-index in
    let bytes = c.args.block.now in
    gathered-more _ _ _ (link_in bytes) _ _ c.loop-link.invariant
    (c.from_le_bytes.ensures ∙ ap (λ cs. link_in (get_or cs i []) 0) c.as_chunks.ensures.front ∙ chunk_link (length bytes / 4) i bytes (omega arith)) c.add.ensures
