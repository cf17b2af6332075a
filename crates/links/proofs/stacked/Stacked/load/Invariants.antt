-- The FREE places so far are on the stack, rising.
-- Assumes nothing.
use Rattle.links.specs.Held.{links_of}
use Rattle.links.proofs.Layings.{Laying}
use Rattle.links.proofs.stacked.Stacked.load.Given as goal

abbrev pub invariant-loop-place : goal.invariant-loop-place
invariant-loop-place l = Laying (links_of l.links) l.place (links_of l.stack)
