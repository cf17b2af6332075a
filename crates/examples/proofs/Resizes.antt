-- A stream that is made longer.
-- Assumes nothing.
use Rattle.std.proofs.Common.{◌≡◌, ℕ, ◌-◌, ◌≢◌, ◌++◌, length, replicate, sym, ap, ◌∙◌, arith}
use Rattle.store.specs.declared.entries.Entry.{Entry}
use Rattle.store.specs.Meaning.{units_of}
use Rattle.minialloc.specs.States.{State, meant_in}
use Rattle.workbook.specs.Reading.{stream_bytes}
use Rattle.workbook.specs.Homes.{store_in}
use Rattle.workbook.specs.Sights.{needed, seen, home_of, Stream, bytes_in, fitted}
use Rattle.workbook.specs.Whole.{Meant, Whole}
use Rattle.workbook.proofs.Altered.{outcome_resized}
use Rattle.workbook.proofs.Found.{chained, chained_units, stream_is, stream_seen}
use Rattle.workbook.proofs.Readings.{read_same, bytes_long}
use Rattle.workbook.proofs.Rebuilds.{fitted_more}
use Rattle.examples.specs.Examples.{GrowsByZeros}

module _ (most : ℕ) (s : State) (m : Meant most s) (w : Whole s) (id : ℕ) (e : Entry) (t : Stream (seen s) id e) where
  -- 70 bytes take two mini sectors
  two_units : e.length ≡ 70 → units_of (meant_in s) e.start ≡ 2
  two_units l =
      let some : e.length ≢ 0 = λ z. omega (arith, l, z) in
      let c = chained most 0 s m.lawful w id e t some in
      ap (λ n. units_of (store_in s (home_of n)) e.start) (sym l) ∙ chained_units most s m.lawful e c.0 c.1 ∙ ap (λ n. needed (seen s) (home_of n) n) l

  -- 10 bytes are filled up with 60 zeros
  filled_up : (z : State) (d : Entry) → Meant most z → Whole z → Stream (seen z) id d → e.length ≡ 10 → bytes_in (seen z) d ≡ fitted 70 (bytes_in (seen s) e)
      → stream_bytes z.host d ≡ stream_bytes s.host e ++ replicate 60 0
  filled_up z d mz wz u l q =
      let long : length (bytes_in (seen s) e) ≡ 10 = bytes_long most s m w id e t ∙ l in
      read_same most z mz wz id d u ∙ q ∙ fitted_more 70 (bytes_in (seen s) e) (omega (arith, long))
      ∙ (λ i. sym (read_same most s m w id e t) i ++ replicate (70 - long i) 0)

pub grows_by_zeros : GrowsByZeros
grows_by_zeros most layer id s z e ms ws mz q l c =
    let there = stream_is s layer id e (sym q) in
    let t = stream_seen s ws id e there.1 there.2 in
    let o = outcome_resized most layer s z ms mz ws id e q 70 c in
    let d = o.entry in
    (d.0, d.1, two_units most z mz o.whole id d.0 d.1 d.2, filled_up most s ms ws id e t z d.0 mz o.whole d.1 l d.3)
