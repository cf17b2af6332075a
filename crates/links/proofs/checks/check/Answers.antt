-- Assumes nothing.
use Rattle.std.proofs.Common.{◌≡◌, ℕ, ◌↔◌, List, Ok, Err, Result, refl, arith, rules}
use Rattle.links.specs.declared.checks.LinkFault.{LinkFault}
use Rattle.links.specs.declared.checks.LinkFault.TheVariants.{Dangling, Shared}
use Rattle.links.specs.Check.{verdict, Lowest}
use Rattle.links.specs.Links.{at, Checked}
use Rattle.links.proofs.Verdicts.{looked_none, looked_skip, fault_dangling, fault_shared, looked_mark, refused, lowest_verdict, decides}
use Rattle.links.proofs.checks.check.Goals as goal

-- all three clauses from the second
all : (L : List ℕ) (r : Result Unit LinkFault) → Lowest L r → (r ≡ verdict L) × Lowest L r × ((r ≡ Ok tt) ↔ Checked (at L))
all L r h = let e = lowest_verdict L r h in (e, h, rw e (decides L))

pub loop-place-init : goal.loop-place-init
loop-place-init g c = looked_none _

pub loop-place-preserved-then-link-gt-MAX_REGULAR_SECTOR : goal.loop-place-preserved-then-link-gt-MAX_REGULAR_SECTOR
loop-place-preserved-then-link-gt-MAX_REGULAR_SECTOR g c =
    looked_skip _ c.loop-place.place _ (omega arith) c.loop-place.invariant (omega arith)

pub returns-then-link_or_free : goal.returns-then-link_or_free
returns-then-link_or_free g c =
    let L = g.T.LinkTable.links c.args.table.now in
    let p = c.loop-place.place in
    let e = fault_dangling L p _ _ c.link_or_free-link.ensures (omega arith) c.link_or_free.ensures c.if-link_or_free.true in
    let r = all L (Err (Dangling p)) (refused L p _ (Dangling p) c.loop-place.invariant (omega arith) refl e) in
    record { told = r.0; lowest = r.1; decides = r.2 }

pub returns-then-met-link : goal.returns-then-met-link
returns-then-met-link g c =
    let L = g.T.LinkTable.links c.args.table.now in
    let p = c.loop-place.place in
    let e = fault_shared L p c.link_or_free-link.result c.link_or_free.result c.loop-place.met (search rules) c.if-met-link.true in
    let r = all L (Err (Shared p)) (refused L p _ (Shared p) c.loop-place.invariant (omega arith) refl e) in
    record { told = r.0; lowest = r.1; decides = r.2 }

pub loop-place-preserved : goal.loop-place-preserved
loop-place-preserved g c =
    looked_mark (g.T.LinkTable.links c.args.table.now) c.loop-place.place c.link_or_free-link.result c.link_or_free.result c.loop-place.met
    (search rules) c.if-met-link.false

pub returns : goal.returns
returns g c =
    let r = all (g.T.LinkTable.links c.args.table.now) (Ok tt) (λ p l. c.loop-place.invariant.clean p (omega arith)) in
    record { told = r.0; lowest = r.1; decides = r.2 }
