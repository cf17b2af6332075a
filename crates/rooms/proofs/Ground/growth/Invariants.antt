-- The growth is at least low and below high.
use Rattle.std.proofs.Common.{◌-◌, ◌<◌, ◌≤◌}
use Rattle.rooms.specs.Rooms.{growth}
use Rattle.rooms.proofs.Ground.growth.Given as goal

abbrev pub invariant-loop-low : goal.invariant-loop-low
invariant-loop-low l = record { least : l.low ≤ growth l.self; below : growth l.self < l.high; cap : l.high ≤ 4097 }

abbrev pub decreases-loop-low : goal.decreases-loop-low
decreases-loop-low l = l.high - l.low
