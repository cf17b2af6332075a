-- Assumes nothing.
use Rattle.std.proofs.Common.{◌+◌, ◌*◌, length, take, drop, sym, refl, ap, ◌∙◌, arith}
use Rattle.chain.proofs.Laid.{slice_cell}
use Rattle.cells.proofs.copies.CellsUnits.read_unit.Goals as goal

pub returns : goal.returns
returns c =
    let B = c.args.self.now.bytes in
    let n = length c.args.out.now in
    record {
      read = c.copy_from_slice.ensures.after ∙ ap (λ k. take k (drop (c.args.place * 512 + c.args.at) B)) (omega arith)
          ∙ sym (slice_cell 512 B c.args.place c.args.at n c.requires.inside);
      same = refl;
      sound = c.requires.sound;
    }
