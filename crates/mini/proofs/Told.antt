-- What a mini store means where it is open, and what going along its chains tells.
-- Assumes nothing.
use Rattle.std.proofs.Common.{◌≡◌, ℕ, ◌/◌, ◌≤◌, Bool, true, false, cond, ◌||◌, eqb, List, [], length, Some, None, Option, unwrap_or, sym, refl, ap, ◌∙◌, subst, ⊎_elim, arith}
use mathlib.Core.Path.{fun_ext}
use Rattle.std.specs.Map.{update}
use Rattle.std.proofs.lemmas.Map.{update_here, update_apart}
use Rattle.std.proofs.lemmas.Bool.{cases_eq, eq-eqb, ne_eqb, or_left}
use Rattle.links.specs.Links.{END}
use Rattle.links.specs.Walk.{chain_of, surveyed, reach}
use Rattle.links.proofs.Counts.{path_short}
use Rattle.links.proofs.Stacks.{Kept}
use Rattle.store.specs.Meaning.{Store, Lawful, bytes_of, units_of, with_chain}
use Rattle.chain.specs.Units.{content}
use Rattle.chain.specs.Webs.{Woven, stored, viewed, path_of}
use Rattle.chain.proofs.Weaves.{Chained, some_told, survey_some}
use Rattle.rooms.specs.declared.Ground.{Ground}
use Rattle.chain.proofs.Strands.{same_store}
use Rattle.mini.specs.Mini.{root_of, stream_at, fat_at, ground_of, ground_if, Borne, kept_part, sealed, web_of, meant_by, mini, Backed, Synced}
use Rattle.mini.proofs.Figures.{end_bytes, told_borne, borne_told}
use Rattle.mini.proofs.Swaps.{same_notes, same_ground, sealed_bytes}
use Rattle.mini.proofs.Weaves.{mini_woven}

-- where there are figures, it is open, and means the mini sectors that the table links
pub record Standing (o : Bool) (m : Store) (L S : List ℕ) (g : Ground) : Type 0 where
  pub opened : o ≡ true
  pub borne : Borne m (length L)
  pub ground : g ≡ ground_of m (length L)
  pub means : mini o m L S ≡ stored (web_of m L S)
  pub woven : Woven (web_of m L S)

module _ (most : ℕ) (m : Store) (ok : Lawful most m) (L S : List ℕ) (few : length L ≤ 4096) (kept : Kept L S) where
  pub standing : (o : Bool) (g : Ground) → cond o (ground_if m (length L)) None ≡ Some g → Standing o m L S g
  standing false g e = cc
  standing true g e =
      let b = told_borne most m ok (length L) g e in
      record { opened = refl; borne = b.0; ground = b.1; means = ap (λ x. meant_by x m L S) e; woven = mini_woven m L S few kept b.0 }

  -- an open one whose host bears the table out is such
  pub means_open : (o : Bool) → o ≡ true → Borne m (length L) → mini o m L S ≡ stored (web_of m L S)
  means_open o e b = ap (λ p. mini p m L S) e ∙ ap (λ x. meant_by x m L S) (borne_told most m ok (length L) b)

  -- a chain that was gone along
  pub record Along (o : Bool) (g : Ground) (h r n p : ℕ) : Type 0 where
    pub stands : Standing o m L S g
    pub places : List ℕ
    pub is : chain_of L h ≡ Some places
    pub path : path_of L h ≡ places
    pub units : n ≡ length places
    pub place : p ≡ reach 0 places r
    pub chained : Chained (web_of m L S) stands.woven h n
    pub chain : (mini o m L S).chain h ≡ Some (content (viewed (web_of m L S)) h)
    pub bytes : bytes_of (mini o m L S) h ≡ content (viewed (web_of m L S)) h
    pub told : units_of (mini o m L S) h ≡ n

  pub along : (o : Bool) (g : Ground) (h r n p : ℕ) → cond o (ground_if m (length L)) None ≡ Some g → surveyed (chain_of L h) r ≡ Some (record { units = n; place = p }) → Along o g h r n p
  along o g h r n p e s =
      let st = standing o g e in
      let q = survey_some (chain_of L h) r _ (sym s) in
      let c = some_told (web_of m L S) st.woven (omega arith) h q.0 q.1 in
      let d : Chained (web_of m L S) st.woven h n = subst (λ k. Chained (web_of m L S) st.woven h k) (sym q.2) c in
      record {
        stands = st;
        places = q.0;
        is = q.1;
        path = ap (λ x. unwrap_or x []) q.1;
        units = q.2;
        place = q.3;
        chained = d;
        chain = ap (λ (z : Store). z.chain h) st.means ∙ d.chain;
        bytes = ap (λ (z : Store). bytes_of z h) st.means ∙ d.bytes;
        told = ap (λ (z : Store). units_of z h) st.means ∙ d.units;
      }

pub mini_unit : (o : Bool) (m : Store) (L S : List ℕ) → (mini o m L S).unit ≡ 64
mini_unit o m L S = go (cond o (ground_if m (length L)) None)
  where
    go : (x : Option Ground) → (meant_by x m L S).unit ≡ 64
    go None = refl
    go (Some g) = refl

-- no chain has more places than the table
pub along_few : (most : ℕ) (m : Store) (ok : Lawful most m) (L S : List ℕ) (few : length L ≤ 4096) (kept : Kept L S) (o : Bool) (g : Ground) (h r n p : ℕ) → Along most m ok L S few kept o g h r n p → n ≤ 4096
along_few most m ok L S few kept o g h r n p a = omega (arith, a.chained.path, path_short L h _ a.chained.head.path, few)

-- the host without its mini stream's bytes, and those bytes, are the host
module _ (most : ℕ) (s : Store) (ok : Lawful most s) where
  chain_is : (h : ℕ) → s.chain h ≡ cond (eqb (length (bytes_of s h)) 0) None (Some (bytes_of s h))
  chain_is h = go (s.chain h) refl
    where
      go : (o : Option (List ℕ)) → s.chain h ≡ o → o ≡ cond (eqb (length (unwrap_or o [])) 0) None (Some (unwrap_or o []))
      go None e = refl
      go (Some xs) e = let l = (ok.chains h xs e).some in rw (ne_eqb (length xs) 0 (λ z. omega (arith, l, z))) refl

  pub unsealed : s ≡ with_chain (sealed s) (stream_at s) (cond (eqb (length (bytes_of s (stream_at s))) 0) None (Some (bytes_of s (stream_at s)))) s.room
  unsealed = same_store _ _ refl (fun_ext each) refl refl
    where
      each : (k : ℕ) → s.chain k ≡ update eqb (update eqb s.chain (stream_at s) None) (stream_at s) (cond (eqb (length (bytes_of s (stream_at s))) 0) None (Some (bytes_of s (stream_at s)))) k
      each k =
          let w = cond (eqb (length (bytes_of s (stream_at s))) 0) None (Some (bytes_of s (stream_at s))) in
          let f = update eqb s.chain (stream_at s) None in
          ⊎_elim (λ (e : k ≡ stream_at s). rw e (chain_is (stream_at s) ∙ sym (update_here f (stream_at s) w)))
          (λ n. sym (update_apart f (stream_at s) w k n ∙ update_apart s.chain (stream_at s) None k n)) (cases_eq k (stream_at s))

  -- the MiniFAT's bytes are those without the mini stream
  pub fat_sealed : (t : ℕ) → Borne s t → bytes_of (sealed s) (fat_at s) ≡ bytes_of s (fat_at s)
  fat_sealed t b = ⊎_elim (sealed_bytes s) (λ e. gone e ∙ sym (end_bytes most s ok (fat_at s) e)) b.two
    where
      gone : fat_at s ≡ END → bytes_of (sealed s) (fat_at s) ≡ []
      gone e = ⊎_elim (λ (q : fat_at s ≡ stream_at s). ap (λ o. unwrap_or o []) (ap (update eqb s.chain (stream_at s) None) q ∙ update_here s.chain (stream_at s) None))
          (λ n. ap (λ o. unwrap_or o []) (update_apart s.chain (stream_at s) None (fat_at s) n) ∙ end_bytes most s ok (fat_at s) e) (cases_eq (fat_at s) (stream_at s))

pub kept_sealed : (s : Store) → kept_part (sealed s) ≡ kept_part s
kept_sealed s = same_notes _ _ refl refl (fun_ext each)
  where
    each : (k : ℕ) → cond (eqb k (stream_at s) || eqb k (fat_at s)) None (update eqb s.chain (stream_at s) None k) ≡ cond (eqb k (stream_at s) || eqb k (fat_at s)) None (s.chain k)
    each k = ⊎_elim (λ e. rw (or_left (eqb k (stream_at s)) (eqb k (fat_at s)) (eq-eqb k (stream_at s) e)) refl) (λ n. ap (λ o. cond (eqb k (stream_at s) || eqb k (fat_at s)) None o) (update_apart s.chain (stream_at s) None k n)) (cases_eq k (stream_at s))

-- two hosts that are alike but for the mini stream's bytes, of which they have as many
module _ (most : ℕ) (s u : Store) (oks : Lawful most s) (oku : Lawful most u) (e : sealed u ≡ sealed s) where
  pub unseal : bytes_of u (stream_at u) ≡ bytes_of s (stream_at s) → u ≡ s
  unseal b =
      unsealed most u oku
      ∙ (λ i. with_chain (e i) (stream_at (e i)) (cond (eqb (length (b i)) 0) None (Some (b i))) (e i).room) ∙ sym (unsealed most s oks)

  pub alike_notes : kept_part u ≡ kept_part s
  alike_notes = sym (kept_sealed u) ∙ ap kept_part e ∙ kept_sealed s

  module _ (t : ℕ) (bs : Borne s t) (bu : Borne u t) where
    alike_fat : bytes_of u (fat_at u) ≡ bytes_of s (fat_at s)
    alike_fat = sym (fat_sealed most u oku t bu) ∙ ap (λ z. bytes_of z (fat_at z)) e ∙ fat_sealed most s oks t bs

    pub alike_synced : (L : List ℕ) → Synced s L → Synced u L
    alike_synced L k = subst (λ r. Backed (bytes_of u (fat_at u)) r L) (ap (λ z. (root_of z).length) (sym e)) (subst (λ ys. Backed ys (root_of s).length L) (sym alike_fat) k)

    pub alike_ground : length (bytes_of u (stream_at u)) ≡ length (bytes_of s (stream_at s)) → ground_of u t ≡ ground_of s t
    alike_ground n =
        let v : u.unit ≡ s.unit = ap (λ (z : Store). z.unit) e in
        same_ground _ _ v refl (ap (λ z. (root_of z).length / 64) e) (λ i. length (alike_fat i) / v i) (λ i. n i / v i) (ap (λ (z : Store). z.room) e)
