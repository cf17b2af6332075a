-- From here on all links are FREE.
-- Assumes nothing.
use Rattle.links.specs.Held.{links_of}
use Rattle.links.proofs.Trimmings.{Trimming}
use Rattle.links.proofs.stacked.Stacked.trimmed_count.Given as goal

abbrev pub invariant-loop-place : goal.invariant-loop-place
invariant-loop-place l = Trimming (links_of l.self.links) l.place
