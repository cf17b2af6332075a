-- Linked units as units to copy along, and what their table tells of their chains.
-- Assumes nothing.
use Rattle.std.proofs.Common.{◌≡◌, ℕ, zero, suc, ◌+◌, ◌*◌, ◌/◌, ◌<◌, ◌≤◌, ◌≢◌, List, [], ◌∷◌, length, get_or, Some, None, sum_by, count_by, Option, unwrap_or, sym, refl, ap, ◌∙◌, ⊎_elim, mul-div_cancel, arith}
use mathlib.Core.Path.{fun_ext}
use native.Mathlib.Nat.{zero-div}
use Rattle.std.specs.List.{flat_map}
use Rattle.std.proofs.lemmas.Option.{none-some}
use Rattle.links.specs.Links.{FREE, free, at, In, Apart, Path, Head}
use Rattle.links.specs.Walk.{chain_of, surveyed, reach}
use Rattle.links.specs.declared.walks.Surveyed.{Surveyed}
use Rattle.links.proofs.Counts.{Parted, parted_within}
use Rattle.links.proofs.Paths.{no_repeat, used, starts, same_head}
use Rattle.links.proofs.Traces.{chain_head}
use Rattle.store.specs.Meaning.{bytes_of, units_of}
use Rattle.chain.specs.Units.{Whole, cell, content}
use Rattle.chain.specs.Webs.{Web, Woven, path_of, viewed, stored}
use Rattle.chain.proofs.Joined.{length_units, length-cell}
use Rattle.chain.proofs.Releases.{path_head}
use Rattle.chain.proofs.Strands.{cases_chain, no_head, chains_some, chains_none, chain_kept, some_in}

-- the link at a place of a path is the next place
pub path_step : (a : ℕ → ℕ) (v : ℕ) (ps : List ℕ) (r : ℕ) → Path a v ps → r + 1 < length ps → a (get_or ps r 0) ≡ get_or ps (r + 1) 0
path_step a v [] r h l = absurd (omega arith)
path_step a v (p ∷ []) r h l = absurd (omega arith)
path_step a v (p ∷ q ∷ ps) zero h l = ap a h.0 ∙ sym h.2.0
path_step a v (p ∷ q ∷ ps) (suc r) h l = let e : suc r + 1 ≡ suc (r + 1) = omega arith in path_step a (a v) (q ∷ ps) r h.2 (omega arith) ∙ ap (λ k. get_or (p ∷ q ∷ ps) k 0) (sym e)

module _ (w : Web) (ok : Woven w) where
  -- a place on a chain is in use
  pub on_path : (h p : ℕ) → In p (path_of w.links h) → p * w.unit + w.unit ≤ length w.bytes
  on_path h p i = ok.inner p (used (at w.links) h p _ (path_head w ok h (some_in p _ i)).path i).0

  pub path_apart : (h : ℕ) → Apart (path_of w.links h)
  path_apart h = ⊎_elim (λ s. rw s.1 (no_repeat _ h s.0 s.2.path)) (λ e. rw e tt) (cases_chain w ok h)

  pub woven_whole : 0 < w.unit → Whole (viewed w)
  woven_whole some = record { some = some; first = first; apart = path_apart; inner = on_path }
    where
      begins : (h : ℕ) (ps : List ℕ) → Path (at w.links) h ps → 0 < length ps → get_or ps 0 0 ≡ h
      begins h [] p l = absurd (omega arith)
      begins h (x ∷ ps) p l = p.0

      first : (h : ℕ) → 0 < length (path_of w.links h) → get_or (path_of w.links h) 0 0 ≡ h
      first h l = begins h _ (path_head w ok h l).path l

  pub next_place : (h r : ℕ) → r + 1 < length (path_of w.links h) → at w.links (get_or (path_of w.links h) r 0) ≡ get_or (path_of w.links h) (r + 1) 0
  next_place h r l = path_step _ h _ r (path_head w ok h (omega arith)).path l

  pub length-path : (h : ℕ) → length (content (viewed w) h) ≡ length (path_of w.links h) * w.unit
  unfolding content
  length-path h = length_units (cell w.unit w.bytes) w.unit (path_of w.links h) (λ q i. length-cell w.unit w.bytes q (on_path h q i))

  -- a place that is no head has no chain
  pub none_told : (h : ℕ) → chain_of w.links h ≡ None → (stored w).chain h ≡ None
  none_told h e = chains_none w ok h (no_head w ok h e)

  -- and a head has one of so many units
  pub record Chained (h n : ℕ) : Type 0 where
    pub chain : (stored w).chain h ≡ Some (content (viewed w) h)
    pub bytes : bytes_of (stored w) h ≡ content (viewed w) h
    pub path : length (path_of w.links h) ≡ n
    pub some : 0 < n
    pub long : length (content (viewed w) h) ≡ n * w.unit
    pub units : units_of (stored w) h ≡ n
    pub head : Head (at w.links) h (path_of w.links h)

  pub some_told : 0 < w.unit → (h : ℕ) (ps : List ℕ) → chain_of w.links h ≡ Some ps → Chained h (length ps)
  unfolding content
  some_told pos h ps e =
      let d = (chain_head w.links ok.few h ps).0 e in
      let p : path_of w.links h ≡ ps = ap (λ o. unwrap_or o []) e in
      let l : 0 < length ps = some_in h ps (starts _ h ps d) in
      let c : (stored w).chain h ≡ Some (content (viewed w) h) = chains_some w ok h ps d ∙ ap (λ qs. Some (flat_map (cell w.unit w.bytes) qs)) (sym p) in
      let b : bytes_of (stored w) h ≡ content (viewed w) h = ap (λ o. unwrap_or o []) c in
      let n : length (content (viewed w) h) ≡ length ps * w.unit = length-path h ∙ ap (λ qs. length qs * w.unit) p in
      record {
        chain = c;
        bytes = b;
        path = ap length p;
        some = l;
        long = n;
        units = ap (λ xs. length xs / w.unit) b ∙ ap (λ k. k / w.unit) n ∙ mul-div_cancel (length ps) pos;
        head = rw p d;
      }

-- what going along a chain tells
pub survey_none : (o : Option (List ℕ)) (r : ℕ) → None ≡ surveyed o r → o ≡ None
survey_none None r e = refl
survey_none (Some ps) r e = absurd (none-some _ e)

pub survey_some : (o : Option (List ℕ)) (r : ℕ) (s : Surveyed) → Some s ≡ surveyed o r → (ps : List ℕ) × (o ≡ Some ps) × (s.units ≡ length ps) × (s.place ≡ reach 0 ps r)
survey_some None r s e = absurd (none-some s (sym e))
survey_some (Some ps) r s e = let q : s ≡ record { units = length ps; place = reach 0 ps r } = cc in (ps, refl, ap (λ (x : Surveyed). x.units) q, ap (λ (x : Surveyed). x.place) q)

-- linked units with the same chains, and the same bytes in each unit in use, mean the same
pub same_stored : (w v : Web) → Woven w → Woven v → v.unit ≡ w.unit → v.notes ≡ w.notes → v.room ≡ w.room → at v.links ≡ at w.links
    → ((q : ℕ) → at w.links q ≢ FREE → cell w.unit v.bytes q ≡ cell w.unit w.bytes q) → stored v ≡ stored w
same_stored w v ww wv eu en er el cells = λ i. record { unit = eu i; chain = fun_ext each i; room = er i; notes = en i }
  where
    each : (k : ℕ) → (stored v).chain k ≡ (stored w).chain k
    each k = chain_kept w v ww wv eu k (λ qs. (λ h. rw el h, λ h. rw el at h)) (λ qs d q i. cells q (used _ k q qs d.path i).0)

-- a chain's places are in use, each once, and by one head
pub paths_parted : (w : Web) → Woven w → (hs : List ℕ) → Parted w.links (path_of w.links) hs
paths_parted w ok hs = record {
  single = λ h i. path_apart w ok h;
  taken = λ h x i j. (used _ h x _ (path_head w ok h (some_in x _ j)).path j).0;
  owner = λ h k x i j a b. same_head _ h k x _ _ ok.checked (path_head w ok h (some_in x _ a)) (path_head w ok k (some_in x _ b)) a b;
}

-- so the units of all chains and the FREE links are at most the count
pub units_within : (w : Web) → Woven w → 0 < w.unit → (hs : List ℕ) → Apart hs → sum_by (units_of (stored w)) hs + count_by free w.links ≤ length w.links
units_within w ok pos hs apart =
    let e : sum_by (units_of (stored w)) hs ≡ sum_by (λ h. length (path_of w.links h)) hs = ap (λ (f : ℕ → ℕ). sum_by f hs) (fun_ext each) in
    omega (arith, e, parted_within w.links (path_of w.links) hs (paths_parted w ok hs) apart)
  where
    each : (h : ℕ) → units_of (stored w) h ≡ length (path_of w.links h)
    each h = ⊎_elim
        (λ s. let c = some_told w ok pos h s.0 s.1 in c.units ∙ sym c.path)
        (λ e. ap (λ o. length (unwrap_or o []) / w.unit) (none_told w ok h e) ∙ zero-div w.unit ∙ sym (ap (λ o. length (unwrap_or o [])) e)) (cases_chain w ok h)
