-- In a whole workbook a stream's bytes are those that the format has read from the host.
-- Assumes nothing.
use Rattle.std.proofs.Common.{◌≡◌, ℕ, ◌<◌, Bool, true, false, cond, List, [], length, take, Some, sym, ap, ◌∙◌, ⊎_elim, arith}
use Rattle.std.proofs.lemmas.Bool.{cases_eq, ltb-true}
use Rattle.std.proofs.lemmas.List.{length-take-le}
use Rattle.std.proofs.lemmas.Option.{cond_some}
use Rattle.std.specs.Prelude.{nat_lt}
use Rattle.std.specs.Option.{unwrap_or}
use Rattle.std.specs.List.{flat_map}
use Rattle.links.specs.Links.{END, at, Path}
use Rattle.links.proofs.Counts.{inside, path_short}
use Rattle.links.proofs.Paths.{frame, used}
use Rattle.links.proofs.Traces.{path-trace}
use Rattle.store.specs.declared.entries.Entry.{Entry}
use Rattle.store.specs.Meaning.{Store, bytes_of}
use Rattle.chain.specs.Units.{content}
use Rattle.chain.specs.Webs.{path_of}
use Rattle.chain.proofs.Strands.{path_headed}
use Rattle.mini.specs.Mini.{fat_at}
use Rattle.mini.proofs.Figures.{bytes_few}
use Rattle.minialloc.specs.States.{State, meant_in}
use Rattle.workbook.specs.declared.homes.Home.TheVariants.{Mini, Host}
use Rattle.workbook.specs.Reading.{fat_links, mini_places, mini_bytes, stream_bytes}
use Rattle.workbook.specs.Sights.{seen, home_of, chain_in, Stream, bytes_in}
use Rattle.workbook.specs.Whole.{Whole, Meant}
use Rattle.workbook.proofs.Effects.{means_of}
use Rattle.workbook.proofs.Found.{chained, enough_reach}
use Rattle.minialloc.proofs.Openings.{all_long, all_at}
use Rattle.workbook.proofs.Sights.{none_taken}
use Rattle.workbook.proofs.Turns.{own_chain}

module _ (most : ℕ) (s : State) (m : Meant most s) (w : Whole s) where
  abbrev L : List ℕ
  L = fat_links s.host

  abbrev ys : List ℕ
  ys = bytes_of s.host (fat_at s.host)

  same_link : (p : ℕ) → p < length s.links → at L p ≡ at s.links p
  same_link p l = all_at ys p (omega (arith, l, w.sound.1.table)) ∙ w.synced.links p l

  -- from a place of the table they lead to the same places
  same_places : (h : ℕ) (ps : List ℕ) → Path (at s.links) h ps → mini_places s.host h ≡ ps
  same_places h ps t =
      (path-trace L (omega (arith, all_long ys, bytes_few most s.host m.lawful (fat_at s.host))) (length L) h ps
      (frame (at s.links) (at L) h END ps (λ k i. same_link k (inside s.links k (used (at s.links) h k ps t i).0)) t)
      (omega (arith, all_long ys, path_short s.links h ps t, w.sound.1.table))).0

  -- so a chain of mini sectors has the bytes that are read
  small_read : (h : ℕ) (xs : List ℕ) → (meant_in s).chain h ≡ Some xs → mini_bytes s.host h ≡ xs
  unfolding content
  small_read h xs e =
      let q = cond_some _ _ _ (sym (ap (λ (x : Store). x.chain h) (means_of most s m.lawful w.sound)) ∙ e) in
      ap (flat_map _) (same_places h (path_of s.links h) (path_headed s.links m.few h (ltb-true _ _ q.0)).path) ∙ q.1

  chain_read : (h : ℕ) (xs : List ℕ) (b : Bool) → chain_in (seen s) (cond b Mini Host) h ≡ Some xs → cond b (mini_bytes s.host h) (bytes_of s.host h) ≡ xs
  chain_read h xs true e = small_read h xs e
  chain_read h xs false e = ap (λ o. unwrap_or o []) (own_chain s h xs Host e)

  module _ (id : ℕ) (e : Entry) (t : Stream (seen s) id e) where
    pub read_same : stream_bytes s.host e ≡ bytes_in (seen s) e
    read_same = ⊎_elim
        (none_taken e.length _ _)
        (λ some. let c = chained most 0 s m.lawful w id e t some in
        ap (take e.length) (chain_read e.start c.0 (nat_lt e.length 4096) c.1.chain ∙ sym (ap (λ o. unwrap_or o []) c.1.chain))) (cases_eq e.length 0)

    pub bytes_long : length (bytes_in (seen s) e) ≡ e.length
    bytes_long = ⊎_elim
        (λ z. ap (λ n. length (take n (unwrap_or (chain_in (seen s) (home_of e.length) e.start) []))) z ∙ sym z)
        (λ some. let c = chained most 0 s m.lawful w id e t some in
        ap (λ o. length (take e.length (unwrap_or o []))) c.1.chain ∙ length-take-le e.length c.0 (omega (arith, c.1.units, enough_reach most s m.lawful e.length))) (cases_eq e.length 0)

    pub read_long : length (stream_bytes s.host e) ≡ e.length
    read_long = ap length read_same ∙ bytes_long
