-- Assumes nothing.
use Rattle.std.proofs.Common.{◌+◌, ◌*◌, arith}
use Rattle.cells.proofs.Along.{written_view, written_whole}
use Rattle.cells.proofs.copies.CellsUnits.write_unit.Goals as goal

pub returns : goal.returns
returns c = record {
  put = written_view c.args.self.now (c.args.place * 512 + c.args.at) c.copy_from_slice.new.self c.args.src.now c.copy_from_slice.ensures.after (omega arith);
  sound = written_whole c.args.self.now (c.args.place * 512 + c.args.at) c.copy_from_slice.new.self c.args.src.now c.copy_from_slice.ensures.after (omega arith);
}
