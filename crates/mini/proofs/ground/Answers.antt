-- Assumes nothing.
use Rattle.std.proofs.Common.{sym, arith}
use Rattle.mini.proofs.Figures.{ground_small}
use Rattle.mini.proofs.ground.Goals as goal

pub overflow_cast-result : goal.overflow_cast-result
overflow_cast-result g c = rw c.from.ensures (omega (
  arith,
  ground_small _ _ (g.H.ChainStore.lawful c.args.host.now) c.ask-asked.result _ _ c.args.links c.ask-asked.ensures.told (sym c.in_ok-minis.was) (sym c.in_ok-fats.was)
      (sym c.if-not-fits.ensures),
))
