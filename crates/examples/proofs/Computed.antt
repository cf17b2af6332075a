-- The examples that are computed.
-- Assumes nothing.
use Rattle.std.proofs.Common.{◌≡◌, Bool, true, false, Ok, Result, refl, ap, subst}
use Rattle.rooms.specs.Rooms as Rooms
use Rattle.minifat.specs.Told.{Faulted}
use Rattle.minialloc.specs.States.{State}
use Rattle.drawer.specs.Drawn.{fresh}
use Rattle.workbook.specs.Opening.{Opened}
use Rattle.workbook.specs.Refusals.{rooms_of}
use Rattle.examples.specs.Examples.{PointedToTwice, FreshRoom, NoRoomToMove}

pub pointed_to_twice : PointedToTwice
pointed_to_twice = refl

abbrev over_drawer : State → State
over_drawer s = record s { host = fresh }

fresh_opened : (strict : Bool) (s : State) (r : Result (Unit {0}) Faulted) (after : State) → Opened 2 (over_drawer s) strict r after → (r ≡ Ok tt) × (rooms_of after ≡ Ok (64, 480))
unfolding Rooms.growth
fresh_opened true s r after o = (o.0, ap rooms_of o.1)
fresh_opened false s r after o = (o.0, ap rooms_of o.1)

pub fresh_room : FreshRoom
fresh_room strict s r after e o = fresh_opened strict s r after (subst (λ h. Opened 2 (record s { host = h }) strict r after) e o)

pub no_room_to_move : NoRoomToMove
unfolding Rooms.growth
no_room_to_move layer = (refl, refl)
