-- So many steps were taken.
-- Assumes nothing.
use Rattle.std.proofs.Common.{◌≡◌}
use Rattle.store.specs.Meaning.{Store}
use Rattle.drawer.specs.Drawn.{drawn, times, Steps}
use Rattle.drawer.proofs.Drawer.repeat.Given as goal

abbrev pub invariant-loop : goal.invariant-loop
invariant-loop g l = (f : Store → Store) → Steps (goal.F-post g l.step) f → drawn l.self ≡ times l.counter f (drawn l.initial.self)
