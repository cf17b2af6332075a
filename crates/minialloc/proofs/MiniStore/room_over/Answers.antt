-- Assumes nothing.
use Rattle.std.proofs.Common.{arith}
use Rattle.rooms.proofs.Rooms.{growth-within}
use Rattle.links.proofs.Stacks.{few_of}
use Rattle.minialloc.proofs.MiniStore.room_over.Goals as goal

pub overflow_add-result : goal.overflow_add-result
overflow_add-result g c = omega (arith, rw c.args.self.now.state.1 at c.free_places.ensures, few_of c.args.self.now.table.stack, c.growth.ensures, growth-within c.args.ground)
