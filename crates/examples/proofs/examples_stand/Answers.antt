-- Each example from its lemma.
-- Assumes nothing.
use Rattle.examples.proofs.Computed.{pointed_to_twice, fresh_room, no_room_to_move}
use Rattle.examples.proofs.Chains.{last_first, freed_last, trims_root}
use Rattle.examples.proofs.Resizes.{grows_by_zeros}
use Rattle.examples.proofs.Sectors.{keeps_sectors}
use Rattle.examples.proofs.examples_stand.Goals as goal

pub returns : goal.returns
returns c = record {
  pointed_to_twice = pointed_to_twice;
  fresh_room = fresh_room;
  no_room_to_move = no_room_to_move;
  last_first = last_first;
  freed_last = freed_last;
  trims_root = trims_root;
  keeps_sectors = keeps_sectors;
  grows_by_zeros = grows_by_zeros;
}
