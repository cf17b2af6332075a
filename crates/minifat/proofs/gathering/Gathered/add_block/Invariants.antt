-- The links of the places so far are gathered.
-- Assumes nothing.
use Rattle.std.proofs.Common.{◌≡◌, map, fold}
use Rattle.std.specs.List.{range_with_len}
use Rattle.links.specs.Bytes.{link_in}
use Rattle.minifat.specs.Gathered.{gathering_of, added}
use Rattle.minifat.proofs.gathering.Gathered.add_block.Given as goal

abbrev pub invariant-loop-link : goal.invariant-loop-link
invariant-loop-link l = gathering_of l.self ≡ fold added (gathering_of l.initial.self) (map (link_in l.block) (range_with_len 0 l.link-index))
