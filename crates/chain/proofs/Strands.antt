-- What a change of links and of one unit means for the chains.
-- Assumes nothing.
use Rattle.std.proofs.Common.{◌≡◌, ℕ, ◌*◌, ◌<◌, ◌≤◌, eqb, ◌≢◌, ◌⊎◌, ◌↔◌, List, [], ◌∷◌, ◌++◌, length, replicate, Some, None, Option, unwrap_or, sym, refl, ap, ◌∙◌, inl, inr, ⊎_elim, append-nil, suc-mul, zero-mul, arith}
use mathlib.Core.Path.{fun_ext}
use Rattle.std.specs.List.{flat_map}
use Rattle.std.specs.Map.{update}
use Rattle.std.proofs.lemmas.List.{flat_map_more}
use Rattle.std.proofs.lemmas.Map.{update_here, update_apart}
use Rattle.std.proofs.lemmas.Bool.{cases_eq, lt-ltb}
use Rattle.std.proofs.lemmas.Option.{none-some}
use Rattle.links.specs.Links.{FREE, at, In, Head}
use Rattle.links.specs.Chains.{Taken, Extended}
use Rattle.links.specs.Walk.{chain_of}
use Rattle.links.proofs.Members.{in_right}
use Rattle.links.proofs.Paths.{same_head, starts, used}
use Rattle.links.proofs.Traces.{chain_head}
use Rattle.store.specs.Meaning.{Store, bytes_of, zeros, with_chain}
use Rattle.chain.specs.Units.{cell, content}
use Rattle.chain.specs.Webs.{Web, Woven, Beside, Took, Behind, EndsWith, path_of, stored, with_more, with_new}
use Rattle.chain.proofs.Joined.{joined_same}

same_option : (o p : Option (List ℕ)) → ((qs : List ℕ) → (o ≡ Some qs) ↔ (p ≡ Some qs)) → o ≡ p
same_option None None h = refl
same_option None (Some y) h = (h y).1 refl
same_option (Some x) p h = sym ((h x).0 refl)

pub some_in : (p : ℕ) (ps : List ℕ) → In p ps → 0 < length ps
some_in p [] i = absurd i
some_in p (x ∷ ps) i = omega arith

-- what has places is a head
pub path_headed : (L : List ℕ) → length L ≤ 4096 → (h : ℕ) → 0 < length (path_of L h) → Head (at L) h (path_of L h)
path_headed L few h = go (chain_of L h) (chain_head L few h)
  where
    go : (o : Option (List ℕ)) → ((ps : List ℕ) → (o ≡ Some ps) ↔ Head (at L) h ps) → 0 < length (unwrap_or o []) → Head (at L) h (unwrap_or o [])
    go None k l = absurd (omega arith)
    go (Some ps) k l = (k ps).0 refl

-- a place is a head, with the places of its chain, or none
module _ (w : Web) (ok : Woven w) (h : ℕ) where
  pub cases_chain : ((ps : List ℕ) × (chain_of w.links h ≡ Some ps) × Head (at w.links) h ps) ⊎ (chain_of w.links h ≡ None)
  cases_chain = go (chain_of w.links h) refl
    where
      go : (o : Option (List ℕ)) → chain_of w.links h ≡ o → ((ps : List ℕ) × (chain_of w.links h ≡ Some ps) × Head (at w.links) h ps) ⊎ (chain_of w.links h ≡ None)
      go None e = inr e
      go (Some ps) e = inl (ps, e, (chain_head w.links ok.few h ps).0 e)

  pub no_head : chain_of w.links h ≡ None → (ps : List ℕ) → Head (at w.links) h ps → ⊥
  no_head e ps d = none-some ps (sym e ∙ (chain_head w.links ok.few h ps).1 d)

  pub path_is : (ps : List ℕ) → Head (at w.links) h ps → path_of w.links h ≡ ps
  path_is ps d = ap (λ o. unwrap_or o []) ((chain_head w.links ok.few h ps).1 d)

  pub chains_some : (ps : List ℕ) → Head (at w.links) h ps → (stored w).chain h ≡ Some (flat_map (cell w.unit w.bytes) ps)
  unfolding content
  chains_some ps d = rw (path_is ps d, lt-ltb 0 (length ps) (some_in h ps (starts _ h ps d))) refl

  pub chains_none : ((ps : List ℕ) → Head (at w.links) h ps → ⊥) → (stored w).chain h ≡ None
  chains_none n = ⊎_elim (λ s. absurd (n s.0 s.2)) (λ e. rw e refl) cases_chain

  pub bytes_is : (ps : List ℕ) → Head (at w.links) h ps → bytes_of (stored w) h ≡ flat_map (cell w.unit w.bytes) ps
  bytes_is ps d = ap (λ o. unwrap_or o []) (chains_some ps d)

-- a chain that is not linked anew and whose units keep their bytes is as it was
module _ (w v : Web) (ww : Woven w) (wv : Woven v) (unit : v.unit ≡ w.unit) where
  cells_kept : (ps : List ℕ) → ((q : ℕ) → In q ps → cell w.unit v.bytes q ≡ cell w.unit w.bytes q)
      → flat_map (cell v.unit v.bytes) ps ≡ flat_map (cell w.unit w.bytes) ps
  cells_kept ps same = rw unit (joined_same _ _ ps same)

  pub chain_kept : (k : ℕ) → ((qs : List ℕ) → Head (at w.links) k qs ↔ Head (at v.links) k qs)
      → ((qs : List ℕ) → Head (at w.links) k qs → (q : ℕ) → In q qs → cell w.unit v.bytes q ≡ cell w.unit w.bytes q)
      → (stored v).chain k ≡ (stored w).chain k
  unfolding content
  chain_kept k heads same =
      let told : chain_of v.links k ≡ chain_of w.links k = same_option _ _ (λ qs.
      let a = chain_head w.links ww.few k qs in let b = chain_head v.links wv.few k qs in (λ e. a.1 ((heads qs).1 (b.0 e)), λ e. b.1 ((heads qs).0 (a.0 e)))) in
      rw (told, cells_kept (path_of w.links k) (λ q i. same _ (path_headed w.links ww.few k (some_in q _ i)) q i)) refl

-- beside the unit f
module _ (w v : Web) (ww : Woven w) (wv : Woven v) (f : ℕ) (b : Beside w v f) where
  same_beside : (k : ℕ) (ps : List ℕ) → Head (at w.links) k ps → (In f ps → ⊥) → (q : ℕ) → In q ps → cell w.unit v.bytes q ≡ cell w.unit w.bytes q
  same_beside k ps d n q i = b.other q (used _ k q ps d.path i).0 (λ e. n (rw e at i))

  pub cells_same : (k : ℕ) (ps : List ℕ) → Head (at w.links) k ps → (In f ps → ⊥) → flat_map (cell v.unit v.bytes) ps ≡ flat_map (cell w.unit w.bytes) ps
  cells_same k ps d n = cells_kept w v ww wv b.unit ps (same_beside k ps d n)

  pub chain_beside : (k : ℕ) → ((qs : List ℕ) → Head (at w.links) k qs ↔ Head (at v.links) k qs) → ((qs : List ℕ) → Head (at w.links) k qs → In f qs → ⊥)
      → (stored v).chain k ≡ (stored w).chain k
  chain_beside k heads off = chain_kept w v ww wv b.unit k heads (λ qs d. same_beside k qs d (off qs d))

-- the free unit f has no chain, and is on none
module _ (w : Web) (ok : Woven w) (f : ℕ) (free : at w.links f ≡ FREE) where
  pub free_off : (k : ℕ) (qs : List ℕ) → Head (at w.links) k qs → In f qs → ⊥
  free_off k qs d i = (used _ k f qs d.path i).0 free

  pub free-none : (stored w).chain f ≡ None
  free-none = chains_none w ok f (λ ps d. free_off f ps d (starts _ f ps d))

-- a store by its parts
pub same_store : (m n : Store) → m.unit ≡ n.unit → m.chain ≡ n.chain → m.room ≡ n.room → m.notes ≡ n.notes → m ≡ n
same_store m n a b c d = λ i. record { unit = a i; chain = b i; room = c i; notes = d i }

-- a store that differs in one chain
pub one_chain : (w v : Web) (h : ℕ) (o : Option (List ℕ)) (n : ℕ) → v.unit ≡ w.unit → v.notes ≡ w.notes → v.room ≡ n
    → (stored v).chain h ≡ o → ((k : ℕ) → k ≢ h → (stored v).chain k ≡ (stored w).chain k) → stored v ≡ with_chain (stored w) h o n
one_chain w v h o n eu en er here rest = same_store (stored v) (with_chain (stored w) h o n) eu (fun_ext each) er en
  where
    each : (k : ℕ) → (stored v).chain k ≡ update eqb (stored w).chain h o k
    each k = ⊎_elim (λ (e : k ≡ h). rw e (here ∙ sym (update_here (stored w).chain h o))) (λ n. rest k n ∙ sym (update_apart (stored w).chain h o k n)) (cases_eq k h)

-- the unit f went behind the chain of h
module _ (w v : Web) (ww : Woven w) (wv : Woven v) (h last f : ℕ) (es : List ℕ) (e : EndsWith w h last es) (b : Behind w v last f) where
  grown : Extended (at w.links) (at v.links) h f (es ++ last ∷ [])
  grown = b.longer h es e

  pub ends_next : EndsWith v h f (es ++ last ∷ [])
  ends_next = grown.longer

  longer : (stored v).chain h ≡ Some (bytes_of (stored w) h ++ zeros (stored w) 1)
  longer =
      let ps = es ++ last ∷ [] in
      let was = bytes_is w ww h ps e in
      let one : 1 * w.unit ≡ w.unit = omega (arith, suc-mul 0 w.unit, zero-mul w.unit) in
      let same = cells_same w v ww wv f b.took.beside h ps e (free_off w ww f b.took.free h ps e) in
      let zero : cell v.unit v.bytes f ≡ replicate w.unit 0 = rw b.took.beside.unit b.took.zero in
      chains_some v wv h (ps ++ f ∷ []) ends_next ∙ ap Some (sym (flat_map_more (cell v.unit v.bytes) [] ps f) ∙ (λ i. same i ++ zero i) ∙ (λ i. sym was i ++ replicate (sym one i) 0))

  other : (k : ℕ) → k ≢ h → (stored v).chain k ≡ (stored w).chain k
  other k n = ⊎_elim
      (λ (q : k ≡ f). rw q (chains_none v wv f (λ qs d. n (q ∙ inner qs d)) ∙ sym (free-none w ww f b.took.free)))
      (λ m. chain_beside w v ww wv f b.took.beside k (λ qs. grown.others k qs n m) (free_off w ww f b.took.free k)) (cases_eq k f)
    where
      inner : (qs : List ℕ) → Head (at v.links) f qs → f ≡ h
      inner qs d = sym (same_head _ h f f _ qs grown.checked ends_next d (in_right f (es ++ last ∷ []) (f ∷ []) (inl refl)) (starts _ f qs d))

  pub behind_stored : stored v ≡ with_more w h 1
  behind_stored = one_chain w v h _ _ b.took.beside.unit b.took.beside.notes (omega (arith, b.took.room)) longer other

-- the unit f became a chain of its own
pub took_stored : (w v : Web) → Woven w → Woven v → (f : ℕ) → Took w v f → Taken (at w.links) (at v.links) f → stored v ≡ with_new w f 1
took_stored w v ww wv f t k =
    let one : 1 * w.unit ≡ w.unit = omega (arith, suc-mul 0 w.unit, zero-mul w.unit) in
    let zero : cell v.unit v.bytes f ≡ replicate w.unit 0 = rw t.beside.unit t.zero in
    one_chain w v f _ _ t.beside.unit t.beside.notes (omega (arith, t.room))
    (chains_some v wv f (f ∷ []) k.new ∙ ap Some (append-nil _ ∙ zero ∙ ap (λ n. replicate n 0) (sym one)))
    (λ q n. chain_beside w v ww wv f t.beside q (λ qs. k.others q qs n n) (free_off w ww f t.free q))
