-- Each call on a chain makes it another one, and leaves all else that a workbook sees.
-- Assumes nothing.
use Rattle.std.proofs.Common.{◌≡◌, ℕ, ◌+◌, ◌-◌, ◌*◌, ◌/◌, ◌<◌, ◌≤◌, ◌≢◌, ◌||◌, Bool, true, false, cond, List, [], ◌++◌, length, take, Some, None, Ok, Option, Result, eqb, sym, refl, ap, ◌∙◌, subst, inl, inr, ⊎_elim, arith}
use Rattle.std.proofs.lemmas.Bool.{cases_lt, eqb-false, or_parts}
use Rattle.std.proofs.lemmas.Option.{none-some}
use Rattle.std.specs.Option.{unwrap_or}
use Rattle.store.specs.Refusals.{Refused, unless}
use Rattle.store.specs.Meaning.{Store, Lawful, MAX_HEAD, bytes_of, zeros, laid, with_chain, wrote, extended, cut_to, freed}
use Rattle.chain.specs.Webs.{path_of}
use Rattle.chain.proofs.Dues.{left_yes, some_due, copy_yes, copy_no, extend_yes, cut_yes}
use Rattle.chain.proofs.Zeros.{chain_same}
use Rattle.mini.specs.Mini.{stream_at, fat_at, Present}
use Rattle.mini.proofs.Reserves.{both-none}
use Rattle.mini.proofs.Told.{mini_unit}
use Rattle.minialloc.specs.States.{State, meant_in, Sound, SyncedIn}
use Rattle.workbook.specs.declared.homes.Home.{Home}
use Rattle.workbook.specs.declared.homes.Home.TheVariants.{Mini, Host}
use Rattle.workbook.specs.Homes.{store_in, over, Keeps, WritesIn, BeginsIn, ExtendsIn, CutsIn, FreesIn}
use Rattle.workbook.specs.Sights.{seen, unit_in, chain_in, rechained}
use Rattle.workbook.proofs.Effects.{seen_mini, seen_host, sound_there, synced_there}
use Rattle.workbook.proofs.Hosts.{write_unit, begin_unit, extend_unit, cut_unit, free_unit}
use Rattle.workbook.proofs.Places.{Tidy, Same, same_table, has_places, writes_table, begins_same, extends_same, cuts_same, frees_same}

-- a chain that a workbook sees is one of its store, and in the host neither mini stream nor MiniFAT
shown : (b : Bool) (o : Option (List ℕ)) (xs : List ℕ) → cond b None o ≡ Some xs → (b ≡ false) × (o ≡ Some xs)
shown true o xs e = absurd (none-some xs e)
shown false o xs e = (refl, e)

-- what each call makes of a store that has the chain xs
module _ (m : Store) (layer h : ℕ) (xs : List ℕ) (there : m.chain h ≡ Some xs) where
  bytes_are : bytes_of m h ≡ xs
  bytes_are = ap (λ o. unwrap_or o []) there

  yes : {due : Option Refused} {new : Store} → due ≡ None → unless due m new ≡ new
  yes {due} {new} e = sym (left_yes due m new new e refl)

  wrote_is : (i : ℕ) (ys : List ℕ) → i + length ys ≤ length xs → wrote m layer h i ys ≡ with_chain m h (Some (laid xs i ys)) m.room
  wrote_is i ys l =
      yes (copy_yes m layer h xs there (i + length ys) (omega (arith, l, ap length bytes_are)))
      ∙ ap (λ bs. with_chain m h (Some (laid bs i ys)) m.room) bytes_are

  extended_is : (n : ℕ) → n ≤ m.room → extended m layer h n ≡ with_chain m h (Some (xs ++ zeros m n)) (m.room - n)
  extended_is n l = yes (extend_yes m layer h xs there n l) ∙ ap (λ bs. with_chain m h (Some (bs ++ zeros m n)) (m.room - n)) bytes_are

  cut_is : (k : ℕ) → k ≢ 0 → k ≤ length xs / m.unit → cut_to m layer h k ≡ with_chain m h (Some (take (k * m.unit) xs)) (m.room + (length xs / m.unit - k))
  cut_is k d l =
      yes (cut_yes m layer h xs there k d (omega (arith, l, ap (λ bs. length bs / m.unit) bytes_are)))
      ∙ ap (λ bs. with_chain m h (Some (take (k * m.unit) bs)) (m.room + (length bs / m.unit - k))) bytes_are

  pub freed_is : freed m layer h ≡ with_chain m h None (m.room + length xs / m.unit)
  freed_is = yes (some_due m layer h xs there None) ∙ ap (λ bs. with_chain m h None (m.room + length bs / m.unit)) bytes_are

module _ (s : State) (h : ℕ) (xs : List ℕ) where
  pub large_there : chain_in (seen s) Host h ≡ Some xs → (h ≢ stream_at s.host) × (h ≢ fat_at s.host) × (s.host.chain h ≡ Some xs)
  large_there e =
      let t = shown (eqb h (stream_at s.host) || eqb h (fat_at s.host)) (s.host.chain h) xs e in
      let n = or_parts _ _ t.0 in
      (eqb-false h _ n.0, eqb-false h _ n.1, t.1)

  pub own_chain : (home : Home) → chain_in (seen s) home h ≡ Some xs → (store_in s home).chain h ≡ Some xs
  own_chain Mini e = e
  own_chain Host e = (large_there e).2

pub unit_there : (s : State) (home : Home) → (store_in s home).unit ≡ unit_in (seen s) home
unit_there s Mini = mini_unit s.opened s.host s.links s.stack
unit_there s Host = refl

-- z is s but for one chain
pub record Turned (s z : State) (home : Home) (h : ℕ) (o : Option (List ℕ)) : Type 0 where
  pub sight : seen z ≡ rechained (seen s) home h o
  pub sound : Sound z
  pub synced : SyncedIn z
  -- the places of other chains, and the table where the chain is one of the host
  pub links : (home ≡ Mini → Tidy s) → (k : ℕ) → (home ≡ Mini → k ≢ h) → Same s z k
  pub table : home ≡ Host → (z.links ≡ s.links) × (z.stack ≡ s.stack)

module _ (most layer : ℕ) (s z : State) (ok : Lawful most s.host) (okz : Lawful most z.host) (sound : Sound s) (synced : SyncedIn s) where
  turned_mini : (h r : ℕ) (o : Option (List ℕ)) → z.host.unit ≡ s.host.unit → meant_in z ≡ with_chain (meant_in s) h o r → Keeps s z → (Tidy s → (k : ℕ) → k ≢ h → Same s z k) → Turned s z Mini h o
  turned_mini h r o u m k same = record { sight = seen_mini s z h r o u m; sound = k.0 sound; synced = k.1 synced; links = λ t j n. same (t refl) j (n refl); table = λ e. cc }

  places : (h : ℕ) (xs : List ℕ) → chain_in (seen s) Mini h ≡ Some xs → 0 < length (path_of s.links h)
  places h xs own = has_places most s ok sound h xs own

  turned_host : (h r : ℕ) (o : Option (List ℕ)) → h ≢ stream_at s.host → h ≢ fat_at s.host → z ≡ over s (with_chain s.host h o r) → Turned s z Host h o
  turned_host h r o a b e =
      let okm : Lawful most (with_chain s.host h o r) = subst (λ (x : State). Lawful most x.host) e okz in
      subst (λ x. Turned s x Host h o) (sym e)
      (record { sight = seen_host most s ok sound h r o a b okm; sound = sound_there most s ok sound h r o a b; synced = synced_there most s ok sound h r o a b synced; links = λ t k n. same_table s (over s (with_chain s.host h o r)) k refl; table = λ e. (refl, refl) })

  pub written : (home : Home) (h : ℕ) (xs : List ℕ) → chain_in (seen s) home h ≡ Some xs → (i : ℕ) (ys : List ℕ) (r : Result (Unit {0}) Refused)
      → i + length ys ≤ length xs → WritesIn layer s home h i ys r z → Turned s z home h (Some (laid xs i ys))
  written Mini h xs own i ys r l w = turned_mini h _ _ (write_unit s z h i ys r w.1) (w.0 ∙ wrote_is (meant_in s) 3 h xs own i ys l) w.2
      (λ t k n. same_table s z k (writes_table s z h i ys r w.1))
  written Host h xs own i ys r l w = let t = large_there s h xs own in turned_host h _ _ t.0 t.1 (w ∙ ap (over s) (wrote_is s.host layer h xs t.2 i ys l))

  pub longer : (home : Home) (h : ℕ) (xs : List ℕ) → chain_in (seen s) home h ≡ Some xs → (n : ℕ) (r : Result (Unit {0}) Refused)
      → n ≤ (store_in s home).room → ExtendsIn most layer s home h n r z → Turned s z home h (Some (xs ++ zeros (store_in s home) n))
  longer Mini h xs own n r l w = turned_mini h _ _ (extend_unit most layer s z h n r w.1) (w.0 ∙ extended_is (meant_in s) 3 h xs own n l) w.2
      (λ t k d. extends_same s z t k h (places h xs own) d most layer n r w.1)
  longer Host h xs own n r l w = let t = large_there s h xs own in turned_host h _ _ t.0 t.1 (w ∙ ap (over s) (extended_is s.host layer h xs t.2 n l))

  pub shorter : (home : Home) (h : ℕ) (xs : List ℕ) → chain_in (seen s) home h ≡ Some xs → (k : ℕ) (r : Result (Unit {0}) Refused)
      → k ≢ 0 → k ≤ length xs / (store_in s home).unit → CutsIn layer s home h k r z → Turned s z home h (Some (take (k * (store_in s home).unit) xs))
  shorter Mini h xs own k r d l w = turned_mini h _ _ (cut_unit layer s z h k r w.1) (w.0 ∙ cut_is (meant_in s) 3 h xs own k d l) w.2
      (λ t j n. cuts_same s z t j h (places h xs own) n layer k r d w.1)
  shorter Host h xs own k r d l w = let t = large_there s h xs own in turned_host h _ _ t.0 t.1 (w ∙ ap (over s) (cut_is s.host layer h xs t.2 k d l))

  pub gone : (home : Home) (h : ℕ) (xs : List ℕ) → chain_in (seen s) home h ≡ Some xs → (r : Result (Unit {0}) Refused) → FreesIn layer s home h r z → Turned s z home h None
  gone Mini h xs own r w = turned_mini h _ _ (free_unit layer s z h r w.1) (w.0 ∙ freed_is (meant_in s) 3 h xs own) w.2
      (λ t k n. frees_same s z t k h (places h xs own) n layer r w.1)
  gone Host h xs own r w = let t = large_there s h xs own in turned_host h _ _ t.0 t.1 (w ∙ ap (over s) (freed_is s.host layer h xs t.2))

  -- bytes that do not lie within the chain are not written
  module _ (m : Store) (over : ℕ) (h : ℕ) (xs : List ℕ) (there : m.chain h ≡ Some xs) (i : ℕ) (ys : List ℕ) (l : length xs < i + length ys) where
    unwritten : wrote m over h i ys ≡ with_chain m h (Some xs) m.room
    unwritten =
        ap (λ d. unless d m (with_chain m h (Some (laid (bytes_of m h) i ys)) m.room)) (copy_no m over h xs there (i + length ys) (omega (arith, l, ap (λ o. length (unwrap_or o [])) there)))
        ∙ sym (chain_same m h (Some xs) there)

  outside : (home : Home) (h : ℕ) (xs : List ℕ) → chain_in (seen s) home h ≡ Some xs → (i : ℕ) (ys : List ℕ) (r : Result (Unit {0}) Refused)
      → length xs < i + length ys → WritesIn layer s home h i ys r z → Turned s z home h (Some xs)
  outside Mini h xs own i ys r l w = turned_mini h _ _ (write_unit s z h i ys r w.1) (w.0 ∙ unwritten (meant_in s) 3 h xs own i ys l) w.2
      (λ t k n. same_table s z k (writes_table s z h i ys r w.1))
  outside Host h xs own i ys r l w = let t = large_there s h xs own in turned_host h _ _ t.0 t.1 (w ∙ ap (over s) (unwritten s.host layer h xs t.2 i ys l))

  pub rewritten : (home : Home) (h : ℕ) (xs : List ℕ) → chain_in (seen s) home h ≡ Some xs → (i : ℕ) (ys : List ℕ) (r : Result (Unit {0}) Refused)
      → WritesIn layer s home h i ys r z → (o : Option (List ℕ)) × Turned s z home h o
  rewritten home h xs own i ys r w = ⊎_elim
      (λ l. (Some xs, outside home h xs own i ys r l w))
      (λ l. (Some (laid xs i ys), written home h xs own i ys r l w)) (cases_lt (length xs) (i + length ys))

  -- a write leaves the table
  pub written_table : (home : Home) (h i : ℕ) (ys : List ℕ) (r : Result (Unit {0}) Refused) → WritesIn layer s home h i ys r z → z.links ≡ s.links
  written_table Mini h i ys r w = writes_table s z h i ys r w.1
  written_table Host h i ys r w = ap (λ (x : State). x.links) w

  -- a head that was none is neither mini stream nor MiniFAT
  not_there : (k n h : ℕ) → Present s.host k n → s.host.chain h ≡ None → h ≤ MAX_HEAD → h ≢ k
  not_there k n h (inl p) e l q = omega (arith, l, q, p.1)
  not_there k n h (inr (xs, p)) e l q = none-some xs (sym e ∙ ap s.host.chain q ∙ p)

  pub begun : (home : Home) (n h : ℕ) → BeginsIn most layer s home n (Ok h) z → (chain_in (seen s) home h ≡ None) × Turned s z home h (Some (zeros (store_in s home) n))
  begun Mini n h w = (w.0.1, turned_mini h _ _ (begin_unit most layer s z n (Ok h) w.1) w.0.3 w.2 (λ t k d. begins_same s z t k most layer n h w.1))
  begun Host n h w =
      let a = not_there (stream_at s.host) _ h sound.1.stream w.0.1 w.0.2 in
      let b = not_there (fat_at s.host) _ h sound.1.fat w.0.1 w.0.2 in
      (both-none (eqb h (stream_at s.host) || eqb h (fat_at s.host)) (s.host.chain h) w.0.1, turned_host h _ _ a b (w.1 ∙ ap (over s) w.0.3))
