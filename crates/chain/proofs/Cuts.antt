-- A chain cut off behind a place, and what followed it given back.
-- Assumes nothing.
use Rattle.std.proofs.Common.{◌≡◌, ℕ, suc, ◌+◌, ◌-◌, ◌*◌, ◌<◌, ◌≢◌, List, [], ◌∷◌, ◌++◌, length, get_or, take, drop, Some, None, unwrap_or, sym, ap, ◌∙◌, subst, ⊎_elim, append_assoc, arith}
use Rattle.std.specs.List.{flat_map}
use Rattle.std.proofs.lemmas.List.{length-append, length-take-le, take-append-drop, take_all}
use Rattle.std.proofs.lemmas.Map.{update_here, update_apart}
use Rattle.std.proofs.lemmas.Bool.{cases_eq}
use Rattle.std.proofs.Math.Seq.{drop-cons}
use Rattle.links.specs.Links.{FREE, END, POINTERS, at, In, Head}
use Rattle.links.specs.Chains.{Parted}
use Rattle.links.proofs.Counts.{inside}
use Rattle.links.proofs.Effects.{wrote-set, cut as part}
use Rattle.links.proofs.Members.{in_mid, in_left}
use Rattle.links.proofs.Paths.{parts, used}
use Rattle.store.specs.Meaning.{bytes_of, with_chain}
use Rattle.chain.specs.Units.{cell}
use Rattle.chain.specs.Webs.{Web, Woven, Ended, path_of, stored, without, with_first}
use Rattle.chain.proofs.Joined.{take_units, length_units, length-cell}
use Rattle.chain.proofs.Releases.{path_head}
use Rattle.chain.proofs.Strands.{path_is, chains_some, chains_none, bytes_is, chain_kept, one_chain}
use Rattle.chain.proofs.Zeros.{chain_same}

-- a list parted at its place k, and behind it
pub place_parted : (ps : List ℕ) (k : ℕ) → k < length ps → ps ≡ take k ps ++ get_or ps k 0 ∷ drop (suc k) ps
place_parted ps k l = sym (take-append-drop k ps) ∙ ap (λ t. take k ps ++ t) (drop-cons ps k 0 l)

parted_at : (ps : List ℕ) (k : ℕ) → suc k < length ps → ps ≡ take k ps ++ get_or ps k 0 ∷ get_or ps (suc k) 0 ∷ drop (suc (suc k)) ps
parted_at ps k l = place_parted ps k (omega arith) ∙ ap (λ t. take k ps ++ get_or ps k 0 ∷ t) (drop-cons ps (suc k) 0 l)

-- the chain of h is es, e, q, qs, and was cut off behind e
module _ (w v : Web) (ww : Woven w) (wv : Woven v) (h : ℕ) (es : List ℕ) (e q : ℕ) (qs : List ℕ) (d : Head (at w.links) h (es ++ e ∷ q ∷ qs)) (c : Ended w v e) where
  live : at w.links e ≢ FREE
  live = (used _ h e _ d.path (in_mid e es (q ∷ qs))).0

  parted : Parted (at w.links) (at v.links) h es e q qs
  parted = part _ _ h es e q qs ww.checked d (rw c.links (wrote-set w.links e END (inside w.links e live)))

  pub next_is : at w.links e ≡ q
  next_is = sym (parts _ h END e es (q ∷ qs) d.path).2.0

  pub path_next : path_of v.links q ≡ q ∷ qs
  path_next = path_is v wv q (q ∷ qs) parted.right

  front_bytes : flat_map (cell v.unit v.bytes) (es ++ e ∷ []) ≡ take ((length es + 1) * w.unit) (bytes_of (stored w) h)
  front_bytes =
      let ps = es ++ e ∷ [] in
      let f = cell w.unit w.bytes in
      let all : ps ++ q ∷ qs ≡ es ++ e ∷ q ∷ qs = append_assoc es (e ∷ []) (q ∷ qs) in
      let was = bytes_is w ww h _ d in
      let n : length ps ≡ length es + 1 = length-append es (e ∷ []) in
      let units : (y : ℕ) → In y ps → length (f y) ≡ w.unit =
      λ y i. length-cell w.unit w.bytes y (ww.inner y (used _ h y _ d.path (rw all at (in_left y ps (q ∷ qs) i))).0) in
      (λ i. flat_map (cell (c.unit i) (c.bytes i)) ps) ∙ sym (take_units f w.unit ps (q ∷ qs) units)
      ∙ (λ i. take (n i * w.unit) (flat_map f (all i))) ∙ ap (take ((length es + 1) * w.unit)) (sym was)

  pub cut_stored : (x : Web) (n : ℕ) → stored x ≡ without v q n
      → stored x ≡ with_chain (stored w) h (Some (take ((length es + 1) * w.unit) (bytes_of (stored w) h))) (w.room + n)
  cut_stored x n s =
      let apart : h ≢ q = λ z. d.first e (next_is ∙ sym z) in
      one_chain w x h _ _ (ap (λ m. m.unit) s ∙ c.unit) (ap (λ m. m.notes) s ∙ c.notes) (ap (λ m. m.room) s ∙ ap (λ r. r + n) c.room)
      (ap (λ m. m.chain h) s ∙ update_apart (stored v).chain q None h apart ∙ chains_some v wv h (es ++ e ∷ []) parted.left ∙ ap Some front_bytes)
      (λ k m. ⊎_elim
      (λ (z : k ≡ q). rw z (ap (λ m. m.chain q) s ∙ update_here (stored v).chain q None ∙ sym (chains_none w ww q (λ ps t. t.first e next_is))))
      (λ z. ap (λ m. m.chain k) s ∙ update_apart (stored v).chain q None k z
      ∙ chain_kept w v ww wv c.unit k (λ ys. parted.others k ys m z) (λ ys t y i. ap (λ b. cell w.unit b y) c.bytes)) (cases_eq k q))

-- the chain of h has n units, and the first k of them stay, the last of them at a place
module _ {w : Web} (ww : Woven w) (h : ℕ) {place k n : ℕ} (some : 0 < k) (units : n ≡ length (path_of w.links h)) (here : place ≡ get_or (path_of w.links h) (k - 1) 0) where
  -- all of them
  pub cut_none : k ≡ n → stored w ≡ with_first w h k n
  cut_none e =
      let ps = path_of w.links h in
      let d = path_head w ww h (omega arith) in
      let c = chains_some w ww h ps d in
      let long = length_units (cell w.unit w.bytes) w.unit ps (λ y i. length-cell w.unit w.bytes y (ww.inner y (used _ h y ps d.path i).0)) in
      let q : k ≡ length ps = omega arith in
      let all : take (k * w.unit) (bytes_of (stored w) h) ≡ flat_map (cell w.unit w.bytes) ps =
      (λ i. take (q i * w.unit) (unwrap_or (c i) [])) ∙ take_all (length ps * w.unit) _ (omega (arith, long)) in
      let r : w.room + (n - k) ≡ w.room = omega arith in
      sym (ap (λ m. with_chain (stored w) h (Some (take (k * w.unit) (bytes_of (stored w) h))) m) r ∙ chain_same (stored w) h _ (c ∙ ap Some (sym all)))

  -- not all
  module _ (less : k < n) where
    abbrev ps : List ℕ
    ps = path_of w.links h

    abbrev front : List ℕ
    front = take (k - 1) ps

    abbrev next : ℕ
    next = get_or ps (suc (k - 1)) 0

    abbrev back : List ℕ
    back = drop (suc (suc (k - 1))) ps

    parts_of : ps ≡ front ++ place ∷ next ∷ back
    parts_of = parted_at ps (k - 1) (omega arith) ∙ (λ i. front ++ sym here i ∷ next ∷ back)

    whole : Head (at w.links) h (front ++ place ∷ next ∷ back)
    whole = subst (Head (at w.links) h) parts_of (path_head w ww h (omega arith))

    long : length front ≡ k - 1
    long = length-take-le (k - 1) ps (omega arith)

    pub cut_points : at w.links place < POINTERS
    cut_points = (parts _ h END place front (next ∷ back) whole.path).2.1

    module _ {v : Web} (wv : Woven v) (c : Ended w v place) {q : ℕ} (told : q ≡ at w.links place) where
      to_next : q ≡ next
      to_next = told ∙ next_is w v ww wv h front place next back whole c

      pub cut_units : n - k ≡ length (path_of v.links q)
      cut_units =
          let a = ap length parts_of ∙ length-append front (place ∷ next ∷ back) in
          let b = ap length (path_next w v ww wv h front place next back whole c) in
          rw to_next (omega (arith, a, b, long))

      pub cut_means : (x : Web) → stored x ≡ without v q (n - k) → stored x ≡ with_first w h k n
      cut_means x s =
          let e : length front + 1 ≡ k = omega (arith, long) in
          cut_stored w v ww wv h front place next back whole c x (n - k) (s ∙ ap (λ y. without v y (n - k)) to_next)
          ∙ ap (λ j. with_chain (stored w) h (Some (take (j * w.unit) (bytes_of (stored w) h))) (w.room + (n - k))) e
