-- Assumes nothing.
use Rattle.std.proofs.Common.{eqb, sym, ap, ◌∙◌, arith}
use Rattle.minifat.proofs.Sectors.{mapped_told, length_few}
use Rattle.minifat.proofs.mini_sectors.Goals as goal

pub overflow_cast-result : goal.overflow_cast-result
overflow_cast-result g c =
    let r = c.root-root.result in
    let n = c.in_ok-count.count in
    rw c.from-4.ensures (omega (
      arith,
      length_few _ _ (g.H.ChainStore.lawful c.root-root.new.host) g.H.ChainStore.LAYER r.start (eqb r.length 0) n
          (sym (mapped_told c.sectors-found.result n c.in_ok-count.ensures.cases) ∙ c.sectors-found.ensures.told)
          c.unit.result c.from-2.result c.from-3.result r.length
          (c.unit.ensures.told ∙ ap (λ m. m.unit) c.sectors-found.ensures.left) c.from-2.ensures c.from-3.ensures (omega arith),
    ))
