-- The room for a chain that goes from one store to the other, when the old one is freed.
-- Assumes nothing.
use Rattle.std.proofs.Common.{◌≡◌, ℕ, ◌+◌, ◌/◌, ◌≤◌, ◌≢◌, List, [], ◌∷◌, length, cond, Some, Ok, None, count_by, sym, refl, ap, ◌∙◌, arith}
use Rattle.std.specs.Option.{unwrap_or}
use Rattle.links.specs.Links.{free}
use Rattle.store.specs.Meaning.{Store, units_of, with_chain}
use Rattle.rooms.specs.Rooms.{growth}
use Rattle.mini.specs.Mini.{ground_of, ground_if, stream_at, fat_at}
use Rattle.mini.proofs.Figures.{borne_told}
use Rattle.mini.proofs.Swaps.{same_ground, bytes_apart}
use Rattle.minialloc.proofs.Growing.{room_roomier}
use Rattle.minialloc.specs.States.{State, meant_in, roomier}
use Rattle.workbook.specs.declared.homes.Home.TheVariants.{Mini, Host}
use Rattle.workbook.specs.Homes.{over}
use Rattle.workbook.specs.Sights.{seen, chain_in}
use Rattle.workbook.specs.Steps.{Freeing}
use Rattle.workbook.proofs.Effects.{means_of}
use Rattle.workbook.proofs.Hosts.{free_room}
use Rattle.workbook.proofs.Rebuilds.{Clean}
use Rattle.workbook.proofs.Turns.{large_there, freed_is}

-- up: the host has the room that it had
pub room_up : (most layer : ℕ) (s y : State) (h want : ℕ) → Freeing most layer Mini h s (Ok tt) y → want ≤ s.host.room → want ≤ y.host.room
room_up most layer s y h want f l = omega (arith, l, free_room layer s y h (Ok tt) f.1.1)

-- down: the mini store has the room that it would have over a host with those units more
module _ (most layer : ℕ) (s y : State) (h have want : ℕ) (xs : List ℕ) (c : Clean most s) (d : Clean most y) (own : chain_in (seen s) Host h ≡ Some xs) (units : length xs / s.host.unit ≡ have) where
  t : (h ≢ stream_at s.host) × (h ≢ fat_at s.host) × (s.host.chain h ≡ Some xs)
  t = large_there s h xs own

  few : s.host.room + have ≤ 4096
  few =
      let u : units_of s.host h ≡ have = ap (λ o. length (unwrap_or o []) / s.host.unit) t.2 ∙ units in
      omega (arith, c.lawful.within (h ∷ []) ((λ z. z), tt), c.lawful.few, u)

  same : (k : ℕ) → k ≢ h → units_of (with_chain s.host h None (s.host.room + have)) k ≡ units_of s.host k
  same k n = ap (λ xs. length xs / s.host.unit) (bytes_apart s.host h (s.host.room + have) None k n)

  pub room_down : Freeing most layer Host h s (Ok tt) y → want ≤ (meant_in (roomier s have)).room → want ≤ (meant_in y).room
  room_down f l =
      let m = with_chain s.host h None (s.host.room + have) in
      let over_is : y ≡ over s m = f.1 ∙ ap (over s) (freed_is s.host layer h xs t.2 ∙ ap (λ n. with_chain s.host h None (s.host.room + n)) units) in
      let a : (meant_in (roomier s have)).room ≡ count_by free s.links + growth (ground_of (roomier s have).host (length s.links)) =
      room_roomier s have (ground_of s.host (length s.links))
      (ap (λ b. cond b (ground_if s.host (length s.links)) None) c.sound.0 ∙ borne_told most s.host c.lawful (length s.links) c.sound.1) in
      let b : (meant_in y).room ≡ count_by free y.links + growth (ground_of y.host (length y.links)) = ap (λ (x : Store). x.room) (means_of most y d.lawful d.sound) in
      let e : count_by free y.links + growth (ground_of y.host (length y.links)) ≡ count_by free s.links + growth (ground_of m (length s.links)) =
      ap (λ (x : State). count_by free x.links + growth (ground_of x.host (length x.links))) over_is in
      let g : ground_of m (length s.links) ≡ ground_of (roomier s have).host (length s.links) = same_ground _ _ refl refl refl (same (fat_at s.host) (λ q. t.1 (sym q))) (same (stream_at s.host) (λ q. t.0 (sym q))) (omega (arith, few)) in
      omega (arith, l, a, b, e, ap (λ x. count_by free s.links + growth x) g)
