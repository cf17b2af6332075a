-- In an open workbook that is whole no sector is on two chains or twice on one, each stream has just what its length needs, and
-- nothing is lost.
-- Assumes nothing.
use Rattle.std.proofs.Common.{◌≡◌, ℕ, zero, suc, ◌/◌, ◌≢◌, ◌⊎◌, List, [], ◌∷◌, length, Some, None, Option, sym, refl, ap, ◌∙◌, subst, inl, inr, ⊎_elim, mul-div_cancel, arith}
use Rattle.std.proofs.lemmas.Bool.{ne_eqb}
use Rattle.std.proofs.lemmas.Option.{none-some, same_Some, get_or_from_slice_get, slice_get_within}
use Rattle.std.proofs.Math.Nat.{zero-div}
use Rattle.std.specs.List.{slice_get}
use Rattle.std.specs.Option.{unwrap_or}
use Rattle.links.specs.Links.{END, at, In, Apart, Head}
use Rattle.links.proofs.Paths.{same_head}
use Rattle.store.specs.declared.entries.Entry.{Entry}
use Rattle.store.specs.Meaning.{Store, units_of}
use Rattle.chain.specs.Webs.{Woven, path_of, stored}
use Rattle.chain.proofs.Joined.{in_get_d}
use Rattle.chain.proofs.Strands.{path_headed, cases_chain}
use Rattle.chain.proofs.Weaves.{path_apart, none_told, some_told}
use Rattle.mini.specs.Mini.{stream_at, fat_at}
use Rattle.mini.proofs.Figures.{end_units}
use Rattle.mini.proofs.Weaves.{mini_woven}
use Rattle.minialloc.specs.States.{State, meant_in, web_in}
use Rattle.workbook.specs.declared.homes.Home.{Home}
use Rattle.workbook.specs.declared.homes.Home.TheVariants.{Mini, Host}
use Rattle.workbook.specs.Homes.{store_in}
use Rattle.workbook.specs.Laws.{Names, Label, fat, mini_stream, stream, other, Outside, Heads, Sector, unit, mini, sectors, At, Stands, Known, Stray, unit_of, needs, Sorted}
use Rattle.workbook.specs.Sights as Sights
use Rattle.workbook.specs.Sights.{seen, home_of, unit_in, chain_in, Fits, Stream, Unheld}
use Rattle.workbook.specs.Whole.{Whole, Meant}
use Rattle.workbook.proofs.Effects.{means_of}
use Rattle.workbook.proofs.Entries.{entry_seen}
use Rattle.workbook.proofs.Found.{chained_units, stream_seen}
use Rattle.workbook.proofs.Outcomes.{Strays}
use Rattle.workbook.proofs.Turns.{large_there}

-- where nothing stands twice, one thing stands at one place
got_in : (ps : List ℕ) (i p : ℕ) → slice_get ps i ≡ Some p → In p ps
got_in ps i p e = subst (λ y. In y ps) (get_or_from_slice_get ps i p 0 e) (in_get_d ps i (slice_get_within ps i p e))

one_place : (ps : List ℕ) (i j p : ℕ) → Apart ps → slice_get ps i ≡ Some p → slice_get ps j ≡ Some p → i ≡ j
one_place [] i j p a d e = cc
one_place (x ∷ ps) zero zero p a d e = refl
one_place (x ∷ ps) zero (suc j) p a d e = absurd (a.0 (subst (λ y. In y ps) (sym (same_Some x p d)) (got_in ps j p e)))
one_place (x ∷ ps) (suc i) zero p a d e = absurd (a.0 (subst (λ y. In y ps) (sym (same_Some x p e)) (got_in ps i p d)))
one_place (x ∷ ps) (suc i) (suc j) p a d e = ap suc (one_place ps i j p a.1 d e)

module _ (most : ℕ) (s : State) (m : Meant most s) (w : Whole s) where
  -- the mini sectors are linked by a checked table, within the mini stream
  pub woven_here : Woven (web_in s)
  woven_here = mini_woven s.host s.links s.stack m.few (record { checked = m.checked; stacks = m.stacks }) w.sound.1

  means : meant_in s ≡ stored (web_in s)
  means = means_of most s m.lawful w.sound

  -- a head that has a mini sector
  headed : (h i p : ℕ) → slice_get (path_of s.links h) i ≡ Some p → Head (at s.links) h (path_of s.links h)
  headed h i p e = path_headed s.links m.few h (omega (arith, slice_get_within _ i p e))

  -- how many sectors a chain has
  mini_units : (h : ℕ) → length (path_of s.links h) ≡ units_of (stored (web_in s)) h
  mini_units h = ⊎_elim
      (λ c. let t = some_told (web_in s) woven_here (omega arith) h c.0 c.1 in t.path ∙ sym t.units)
      (λ n. ap (λ o. length (unwrap_or o [])) n ∙ sym (ap (λ o. length (unwrap_or o []) / 64) (none_told (web_in s) woven_here h n)))
      (cases_chain (web_in s) woven_here h)

  sectors_told : (b : Home) (h : ℕ) → sectors s b h ≡ units_of (store_in s b) h
  sectors_told Mini h = mini_units h ∙ ap (λ x. units_of x h) (sym means)
  sectors_told Host h = refl

  -- the chain of a head that has a sector
  not_end : (b : Home) (h i : ℕ) (x : Sector) → At s b h i x → h ≢ END
  not_end Mini h i x t e = omega (arith, (headed h i t.0 t.1).place, e)
  not_end Host h i x t e = omega (arith, t.0, end_units most s.host m.lawful h e)

  -- a sector is at one place of one chain
  at_one : (b c : Home) (h g i j : ℕ) (x : Sector) → At s b h i x → At s c g j x → (b ≡ c) × (h ≡ g) × (i ≡ j)
  at_one Mini Mini h g i j x t u =
      let q : t.0 ≡ u.0 = let z : ◌≡◌ {A = Sector} (mini t.0) (mini u.0) = sym t.2 ∙ u.2 in cc in
      let e : slice_get (path_of s.links g) j ≡ Some t.0 = u.1 ∙ ap Some (sym q) in
      let k : h ≡ g = same_head (at s.links) h g t.0 (path_of s.links h) (path_of s.links g) m.checked (headed h i t.0 t.1) (headed g j t.0 e) (got_in _ i t.0 t.1) (got_in _ j t.0 e) in
      (refl, k, one_place (path_of s.links h) i j t.0 (path_apart (web_in s) woven_here h) t.1 (subst (λ y. slice_get (path_of s.links y) j ≡ Some t.0) (sym k) e))
  at_one Mini Host h g i j x t u = let z : ◌≡◌ {A = Sector} (mini t.0) (unit g j) = sym t.2 ∙ u.1 in cc
  at_one Host Mini h g i j x t u = let z : ◌≡◌ {A = Sector} (unit h i) (mini u.0) = sym t.1 ∙ u.2 in cc
  at_one Host Host h g i j x t u = let z : ◌≡◌ {A = Sector} (unit h i) (unit g j) = sym t.1 ∙ u.1 in (refl, cc, cc)

  -- a stream with a sector has a chain of its own
  own : (id : ℕ) (e : Entry) → Names s.host id e → e.start ≢ END → (xs : List ℕ) × Sights.Chained (seen s) e xs
  own id e t n = ⊎_elim (λ z. absurd (n z.1)) (λ c. c) (w.placed.fits id e tt (stream_seen s w id e t.0 t.1))

  -- two labels of one chain are one
  two_first : (h : ℕ) → h ≢ END → h ≡ fat_at s.host → h ≡ stream_at s.host → ⊥
  two_first h n f q = ⊎_elim (λ d. d (sym q ∙ f)) (λ e. n (f ∙ e)) w.sound.1.two

  large : (id h : ℕ) (e : Entry) → Names s.host id e → h ≢ END → h ≡ e.start → Host ≡ home_of e.length → (h ≢ fat_at s.host) × (h ≢ stream_at s.host)
  large id h e t n q b =
      let c = own id e t (λ z. n (q ∙ z)) in
      let l = large_there s h c.0 (subst (λ y. chain_in (seen s) y h ≡ Some c.0) (sym b) (subst (λ y. chain_in (seen s) (home_of e.length) y ≡ Some c.0) (sym q) c.1.chain)) in
      (l.1, l.0)

  one_label : (k l : Label) (b : Home) (h : ℕ) → h ≢ END → Heads s k b h → Heads s l b h → k ≡ l
  one_label fat fat b h n u v = refl
  one_label fat mini_stream b h n u v = absurd (two_first h n u.1 v.1)
  one_label fat (stream j) b h n u v = absurd ((large j h v.0 v.1 n v.3 (sym u.0 ∙ v.2)).0 u.1)
  one_label fat (other c g) b h n u v = absurd (v.2.fat (sym v.0 ∙ u.0) (sym v.1 ∙ u.1))
  one_label mini_stream fat b h n u v = absurd (two_first h n v.1 u.1)
  one_label mini_stream mini_stream b h n u v = refl
  one_label mini_stream (stream j) b h n u v = absurd ((large j h v.0 v.1 n v.3 (sym u.0 ∙ v.2)).1 u.1)
  one_label mini_stream (other c g) b h n u v = absurd (v.2.mini (sym v.0 ∙ u.0) (sym v.1 ∙ u.1))
  one_label (stream i) fat b h n u v = absurd ((large i h u.0 u.1 n u.3 (sym v.0 ∙ u.2)).0 v.1)
  one_label (stream i) mini_stream b h n u v = absurd ((large i h u.0 u.1 n u.3 (sym v.0 ∙ u.2)).1 v.1)
  one_label (stream i) (stream j) b h n u v = ap stream (w.placed.apart i j u.0 v.0 tt tt (stream_seen s w i u.0 u.1.0 u.1.1) (stream_seen s w j v.0 v.1.0 v.1.1) (record {
    some = (own i u.0 u.1 (λ z. n (u.3 ∙ z))).1.some;
    other = (own j v.0 v.1 (λ z. n (v.3 ∙ z))).1.some;
    home = sym u.2 ∙ v.2;
    start = sym u.3 ∙ v.3;
  }))
  one_label (stream i) (other c g) b h n u v = absurd (v.2.streams i u.0 u.1 (sym u.2 ∙ v.0) (sym u.3 ∙ v.1))
  one_label (other c g) fat b h n u v = absurd (u.2.fat (sym u.0 ∙ v.0) (sym u.1 ∙ v.1))
  one_label (other c g) mini_stream b h n u v = absurd (u.2.mini (sym u.0 ∙ v.0) (sym u.1 ∙ v.1))
  one_label (other c g) (stream j) b h n u v = absurd (u.2.streams j v.0 v.1 (sym v.2 ∙ u.0) (sym v.3 ∙ u.1))
  one_label (other c g) (other d f) b h n u v = (λ i. other ((sym u.0 ∙ v.0) i) ((sym u.1 ∙ v.1) i))

  apart : (k l : Label) (i j : ℕ) (x : Sector) → Stands s k i x → Stands s l j x → (k ≡ l) × (i ≡ j)
  apart k l i j x t u =
      let a = at_one t.0 u.0 t.1 u.1 i j x t.3 u.3 in
      let v = subst (λ y. Heads s l t.0 y) (sym a.1) (subst (λ y. Heads s l y u.1) (sym a.0) u.2) in
      (one_label k l t.0 t.1 (not_end t.0 t.1 i x t.3) t.2 v, a.2)

  -- a stream has the sectors that its length needs
  unit_same : (b : Home) → unit_in (seen s) b ≡ unit_of s b
  unit_same Mini = refl
  unit_same Host = refl

  none_there : sectors s Mini END ≡ 0
  none_there = go (path_of s.links END) refl
    where
      go : (ps : List ℕ) → path_of s.links END ≡ ps → length (path_of s.links END) ≡ 0
      go [] e = ap length e
      go (p ∷ ps) e = absurd (omega (arith, (headed END 0 p (ap (λ qs. slice_get qs 0) e)).place))

  exact : (id : ℕ) (e : Entry) → Names s.host id e → sectors s (home_of e.length) e.start ≡ needs e.length (unit_of s (home_of e.length))
  exact id e t = ⊎_elim
      (λ z. (λ i. sectors s (home_of (z.0 i)) (z.1 i)) ∙ none_there ∙ sym (ap (λ n. needs n (unit_of s (home_of n))) z.0))
      (λ c.
      let b = home_of e.length in
      sectors_told b e.start ∙ chained_units most s m.lawful e c.0 c.1 ∙ ap (needs e.length) (unit_same b))
      (w.placed.fits id e tt (stream_seen s w id e t.0 t.1))

  -- the chain of a head that no stream has, nor mini stream or MiniFAT
  pub chain_here : (b : Home) (h i : ℕ) (x : Sector) → Outside s b h → At s b h i x → (xs : List ℕ) × (chain_in (seen s) b h ≡ Some xs) × (sectors s b h ≡ length xs / unit_of s b)
  chain_here Mini h i x o t = ⊎_elim
      (λ c.
      let d = some_told (web_in s) woven_here (omega arith) h c.0 c.1 in
      (_, ap (λ (y : Store). y.chain h) means ∙ d.chain, d.path ∙ sym (ap (λ k. k / 64) d.long ∙ mul-div_cancel (length c.0) (omega arith))))
      (λ n. absurd (none-some t.0 (sym (ap (λ o. slice_get (unwrap_or o []) i) n) ∙ t.1))) (cases_chain (web_in s) woven_here h)
  chain_here Host h i x o t = go (s.host.chain h) refl
    where
      go : (c : Option (List ℕ)) → s.host.chain h ≡ c → (xs : List ℕ) × (chain_in (seen s) Host h ≡ Some xs) × (units_of s.host h ≡ length xs / s.host.unit)
      go None e = absurd (omega (arith, t.0, ap (λ c. length (unwrap_or c []) / s.host.unit) e, zero-div s.host.unit))
      go (Some xs) e = (
        xs,
        rw (ne_eqb h (stream_at s.host) (o.mini refl), ne_eqb h (fat_at s.host) (o.fat refl)) e,
        ap (λ c. length (unwrap_or c []) / s.host.unit) e,
      )

  -- a stream that is seen is one of the host
  pub names_here : (j : ℕ) (e : Entry) → Stream (seen s) j e → Names s.host j e
  names_here j e t = (entry_seen s w.root j e t, t.1)

-- what is in use is known, or was a stray at first
module _ (most : ℕ) (f s : State) (mf : Meant most f) (m : Meant most s) (wf : Whole f) (w : Whole s) (r : Strays f s) where
  unheld : (b : Home) (h : ℕ) → Outside s b h → Unheld (seen s) b h
  unheld b h o j e t some home = o.streams j e (names_here most s m w j e t) home

  -- a head that no stream had at first
  outside : (b : Home) (h i : ℕ) (x : Sector) (xs : List ℕ) → h ≢ END → chain_in (seen f) b h ≡ Some xs → Unheld (seen f) b h → Outside f b h
  outside b h i x xs n c u = record {
    streams = λ id e t q k. u id e (stream_seen f wf id e t.0 t.1) ((own most f mf wf id e t (λ z. n (sym k ∙ z))).1.some) q k;
    fat = λ q. (large_there f h xs (subst (λ y. chain_in (seen f) y h ≡ Some xs) q c)).1;
    mini = λ q. (large_there f h xs (subst (λ y. chain_in (seen f) y h ≡ Some xs) q c)).0;
  }

  at_first : (b : Home) (h i : ℕ) (x : Sector) (xs : List ℕ) → chain_in (seen s) b h ≡ Some xs → Unheld (seen s) b h → chain_in (seen f) b h ≡ Some xs
      → sectors s b h ≡ length xs / unit_of s b → At s b h i x → At f b h i x
  at_first Mini h i x xs c u d k t = (t.0, ap (λ ps. slice_get ps i) (sym (r.places h xs c u)) ∙ t.1, t.2)
  at_first Host h i x xs c u d k t =
      let there : units_of f.host h ≡ length xs / f.host.unit = ap (λ o. length (unwrap_or o []) / f.host.unit) (large_there f h xs d).2 in
      (omega (arith, t.0, k, there, ap (λ v. length xs / v) r.unit), t.1)

  stray : (b : Home) (h i : ℕ) (x : Sector) → Outside s b h → At s b h i x → Stray f x
  stray b h i x o t =
      let c = chain_here most s m w b h i x o t in
      let u = unheld b h o in
      let d = r.chain b h c.0 c.1 u in
      let n = not_end most s m w b h i x t in
      (b, h, i, (b, h, (refl, refl, outside b h i x c.0 n d.0 d.1), at_first b h i x c.0 c.1 u d.0 c.2 t))

  none_lost : (k : Label) (i : ℕ) (x : Sector) → Stands s k i x → Known s x ⊎ Stray f x
  none_lost fat i x t = inl (inl (i, t))
  none_lost mini_stream i x t = inl (inr (inl (i, t)))
  none_lost (stream id) i x t = inl (inr (inr (id, i, t)))
  none_lost (other c g) i x t =
      let o = t.2.2 in
      inr (stray c g i x o (subst (λ y. At s c y i x) t.2.1 (subst (λ y. At s y t.1 i x) t.2.0 t.3)))

  pub sorted : Sorted f s
  sorted = record { apart = apart most s m w; exact = exact most s m w; none_lost = none_lost }
