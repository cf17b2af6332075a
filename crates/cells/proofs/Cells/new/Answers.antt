-- Assumes nothing.
use Rattle.std.proofs.Common.{ℕ, refl}
use lib.ListN.{length-replicate}
use Rattle.cells.proofs.Paths.{fresh_sound, fresh_path}
use Rattle.cells.proofs.Cells.new.Goals as goal

pub invariant_of-result : goal.invariant_of-result
invariant_of-result c = record {
  counted = refl;
  filled = length-replicate {A = ℕ} 32768 0;
  unique = fresh_sound.unique;
  down = fresh_sound.down;
  named = fresh_sound.named;
}

pub returns : goal.returns
returns c = record { notes = refl; chains = λ n h. rw (fresh_path h) refl; room = λ n. refl }
