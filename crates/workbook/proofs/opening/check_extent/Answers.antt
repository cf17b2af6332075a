-- Assumes nothing.
use Rattle.std.proofs.Common.{◌≡◌, Err, sym, ap, ◌∙◌, arith}
use Rattle.links.specs.Check.{settled}
use Rattle.store.specs.Extents.{possible}
use Rattle.minifat.specs.Table.{table_in}
use Rattle.minifat.proofs.Sectors.{mapped_told}
use Rattle.workbook.proofs.Carries.{steady}
use Rattle.workbook.proofs.Found.{needs, some_there}
use Rattle.workbook.proofs.Looks.{can_be, wrong_units, right_units}
use Rattle.workbook.proofs.opening.check_extent.Goals as goal

pub div_ceil-requires : goal.div_ceil-requires
div_ceil-requires g c =
    let s = c.args.store.now.state.0 in
    omega (
      arith,
      c.from-2.ensures,
      rw c.units_in-found.ensures.left at c.unit-unit.ensures.told,
      some_there g.H.ChainStore.MOST s (steady g.H.ChainStore.lawful c.args.store.now) c.of-home.result,
    )

pub returns-then-from-div_ceil-clause-told : goal.returns-then-from-div_ceil-clause-told
returns-then-from-div_ceil-clause-told g c =
    let s = c.args.store.now.state.0 in
    let e = c.args.entry in
    let home = c.of-home.result in
    let can = can_be c.new-extent.result (possible e.start e.length) (λ x. x.start ≡ e.start) (λ x. x.length ≡ e.length) c.new-extent.ensures c.if-is_none.ensures in
    let told = sym (mapped_told c.units_in-found.result c.in_ok-have.have c.in_ok-have.ensures.cases) ∙ c.units_in-found.ensures.told in
    let need = needs g.H.ChainStore.MOST s (steady g.H.ChainStore.lawful c.args.store.now) home e.length c.unit-unit.result c.div_ceil.result (rw c.units_in-found.ensures.left at c.unit-unit.ensures.told) (rw c.from-2.ensures at c.div_ceil.ensures) in
    ap Err c.refused-then-from-div_ceil.ensures
    ∙ ap (λ o. settled o tt) (sym (wrong_units s g.H.ChainStore.LAYER (table_in c.args.table.now) c.args.id e can c.if-entry-eq0.false home c.of-home.ensures
    c.in_ok-have.have c.div_ceil.result told need (λ q. c.if-from-div_ceil.true (c.from.ensures ∙ q))))

pub returns-clause-told : goal.returns-clause-told
returns-clause-told g c =
    let s = c.args.store.now.state.0 in
    let e = c.args.entry in
    let home = c.of-home.result in
    let can = can_be c.new-extent.result (possible e.start e.length) (λ x. x.start ≡ e.start) (λ x. x.length ≡ e.length) c.new-extent.ensures c.if-is_none.ensures in
    let told = sym (mapped_told c.units_in-found.result c.in_ok-have.have c.in_ok-have.ensures.cases) ∙ c.units_in-found.ensures.told in
    let need = needs g.H.ChainStore.MOST s (steady g.H.ChainStore.lawful c.args.store.now) home e.length c.unit-unit.result c.div_ceil.result (rw c.units_in-found.ensures.left at c.unit-unit.ensures.told) (rw c.from-2.ensures at c.div_ceil.ensures) in
    ap (λ o. settled o tt) (sym (right_units s g.H.ChainStore.LAYER (table_in c.args.table.now) c.args.id e can c.if-entry-eq0.false home c.of-home.ensures
    c.in_ok-have.have c.div_ceil.result told need (sym c.from.ensures ∙ c.if-from-div_ceil.false)))
