-- The calls of linked units, by what the table's calls and the host's leave.
-- Assumes nothing.
use Rattle.std.proofs.Common.{◌≡◌, ℕ, ◌+◌, ◌*◌, ◌%◌, ◌<◌, ◌≤◌, Bool, true, cond, eqb, ltb, List, [], ◌∷◌, length, set, Some, None, Option, count_by, sym, refl, ap, ◌∙◌, subst, arith}
use Rattle.std.proofs.lemmas.Bool.{lt-ltb, and_from, eq-eqb, ne_eqb, or_left, cond-false}
use Rattle.std.proofs.lemmas.Option.{same_Some}
use Rattle.links.specs.Links.{END, POINTERS, free, at}
use Rattle.links.specs.Stack.{has_room, place_after, links_taken, stack_taken, joinable, onward}
use Rattle.links.proofs.Frees.{stack_count}
use Rattle.links.proofs.Stacks.{Kept}
use Rattle.links.proofs.Takings.{kept_taken}
use Rattle.store.specs.Meaning.{Store, Hosted, Lawful, bytes_of, entered}
use Rattle.links.specs.Chains.{Taken}
use Rattle.chain.specs.Webs.{Took, Behind, Ended, Gave}
use Rattle.mini.specs.Mini.{root_of, stream_at, ground_of, Borne, web_of}
use Rattle.mini.specs.Steps.{rooted, longer_root, link_wrote, wiped_at, occupied, took_mini, put_mini, ended_mini, gave_mini}
use Rattle.mini.proofs.Figures.{bytes_few}
use Rattle.mini.proofs.Growths.{dry-one}
use Rattle.mini.proofs.States.{entered_yes}
use Rattle.mini.proofs.Takes.{Made, Prepared, prepared_grown, prepared_popped, took_made, put_made, place_link}
use Rattle.mini.proofs.Weaves.{took_took, took_taken, put_behind, ended_ended, gave_gave}

-- a place p was taken
pub record Takes (m : Store) (L S : List ℕ) (s : Store) (L' S' : List ℕ) (p : ℕ) : Type 0 where
  pub told : p ≡ place_after L S
  pub made : Made m L s L' S' (took_mini (web_of m L S))
  pub took : Took (web_of m L S) (web_of s L' S') p
  pub taken : Taken (at L) (at L') p

-- a place p was taken, and joined behind the last one
pub record Joins (m : Store) (L S : List ℕ) (s : Store) (L' S' : List ℕ) (last p : ℕ) : Type 0 where
  pub told : p ≡ place_after L S
  pub made : Made m L s L' S' (put_mini (web_of m L S) last)
  pub behind : Behind (web_of m L S) (web_of s L' S') last p

module _ (most : ℕ) (m : Store) (ok : Lawful most m) (h : Hosted m) (L : List ℕ) (few : length L ≤ 4096) (b : Borne m (length L)) where
  -- the root length that is set is not cut short
  root_longer : (layer : ℕ) → longer_root m layer ≡ rooted m ((root_of m).length + 64)
  root_longer layer =
      let e : ((root_of m).length % 0x100000000 + 64) % 0x100000000 ≡ (root_of m).length + 64 = omega (arith, b.inside, bytes_few most m ok (stream_at m)) in
      ap (entered m layer 0 (stream_at m)) e ∙ entered_yes m layer (stream_at m) ((root_of m).length + 64) h.some

  -- a host ready for the next place, and the calls that make it so
  pub record Ready (S : List ℕ) (layer : ℕ) (fresh : Bool) : Type 0 where
    pub host : Store
    pub long : ℕ
    pub made : cond fresh (longer_root m layer) m ≡ host
    pub prepared : Prepared m host L S long
    pub room : has_room L S ≡ true

  pub ready_for : (S : List ℕ) (layer : ℕ) (fresh : Bool) → Kept L S → 0 < (web_of m L S).ready → fresh ≡ eqb (length S) 0 → Ready S layer fresh
  ready_for [] layer fresh kept ready e = record {
    host = rooted m ((root_of m).length + 64);
    long = (root_of m).length + 64;
    made = ap (λ f. cond f (longer_root m layer) m) e ∙ root_longer layer;
    prepared = prepared_grown most m ok h L few kept b ready;
    room = lt-ltb _ _ (omega (arith, (dry-one (ground_of m (length L)) (omega (arith, ready, stack_count L [] kept))).1));
  }
  ready_for (x ∷ S) layer fresh kept ready e = record {
    host = m;
    long = (root_of m).length;
    made = cond-false _ _ _ (e ∙ ne_eqb (length (x ∷ S)) 0 (omega arith));
    prepared = prepared_popped most m ok h L few x S kept b;
    room = refl;
  }

  module _ (S : List ℕ) (layer : ℕ) (fresh : Bool) (kept : Kept L S) (ready : 0 < (web_of m L S).ready) (ef : fresh ≡ eqb (length S) 0) where
    there : Ready S layer fresh
    there = ready_for S layer fresh kept ready ef

    -- a place can be taken
    pub take_is : cond (has_room L S) (Some (place_after L S)) None ≡ Some (place_after L S)
    take_is = rw there.room refl

    -- and is zeroed
    pub place_bytes : place_after L S * 64 + 64 ≤ length (bytes_of m (stream_at m))
    place_bytes = there.prepared.bytes

    -- the table's call gave r, which is p; s is the host then
    pub take_done : (L' S' : List ℕ) (s : Store) (r : Option ℕ) (p : ℕ) → r ≡ cond (has_room L S) (Some (place_after L S)) None → r ≡ Some p → L' ≡ cond (has_room L S) (links_taken L S) L → S' ≡ stack_taken S → s ≡ occupied m layer fresh p
        → Takes m L S s L' S' p
    take_done L' S' s r p er rp el es e =
        let ep : p ≡ place_after L S = same_Some p (place_after L S) (sym rp ∙ er ∙ take_is) in
        let w = web_of m L S in
        let t : L' ≡ links_taken L S = rw there.room at el in
        let q : s ≡ wiped_at (link_wrote there.host layer (place_after L S) END) layer (place_after L S) =
        e ∙ (λ i. wiped_at (link_wrote (there.made i) layer (ep i) END) layer (ep i)) in
        let P : List ℕ → List ℕ → Type 0 = λ M T. Made m L s M T (took_mini w) in
        let k : Made m L s (links_taken L S) (stack_taken S) (took_mini w) =
        took_made layer m there.host (link_wrote there.host layer (place_after L S) END) s L S there.long there.prepared refl q kept few in
        let made = subst (λ M. P M S') (sym t) (subst (λ T. P (links_taken L S) T) (sym es) k) in
        record {
          told = ep;
          made = made;
          took = subst (λ v. Took w v p) (sym made.web) (subst (λ x. Took w (took_mini w) x) (sym ep) (took_took m L S few kept place_bytes ready));
          taken = subst (λ M. Taken (at L) (at M) p) (sym t) (subst (λ x. Taken (at L) (at (links_taken L S)) x) (sym ep) (took_taken m L S few kept place_bytes ready));
        }

    -- and joined behind a place that ends its chain
    module _ (last : ℕ) (end : at L last ≡ END) where
      can_join : joinable L S last ≡ true
      can_join = and_from _ _ (eq-eqb (at L last) END end) there.room

      pub join_is : cond (joinable L S last) (Some (place_after L S)) None ≡ Some (place_after L S)
      join_is = rw can_join refl

      -- s is the host when the place is taken, and u when the link to it is written
      pub join_done : (L' S' : List ℕ) (s u : Store) (r : Option ℕ) (p : ℕ) → r ≡ cond (joinable L S last) (Some (place_after L S)) None → r ≡ Some p
          → L' ≡ cond (joinable L S last) (set (links_taken L S) last (place_after L S)) L
          → S' ≡ cond (joinable L S last) (stack_taken S) S → Kept L' S' → s ≡ occupied m layer fresh p → u ≡ link_wrote s layer last p
          → Joins m L S u L' S' last p
      join_done L' S' s u r p er rp el es k e eu =
          let ep : p ≡ place_after L S = same_Some p (place_after L S) (sym rp ∙ er ∙ join_is) in
          let x = web_of m L S in
          let t : L' ≡ set (links_taken L S) last (place_after L S) = rw can_join at el in
          let w : S' ≡ stack_taken S = rw can_join at es in
          let s3 = wiped_at (link_wrote there.host layer (place_after L S) END) layer (place_after L S) in
          let q : s ≡ s3 = e ∙ (λ i. wiped_at (link_wrote (there.made i) layer (ep i) END) layer (ep i)) in
          let v : u ≡ link_wrote s3 layer last (place_after L S) = eu ∙ (λ i. link_wrote (q i) layer last (ep i)) in
          let same : count_by free L' ≡ count_by free (links_taken L S) = omega (arith, stack_count L' S' k, stack_count _ _ (kept_taken L S few kept), ap length w) in
          let P : List ℕ → Type 0 = λ T. Made m L u L' T (put_mini x last) in
          let made = subst P (sym w) (put_made layer m there.host (link_wrote there.host layer (place_after L S) END) s3 L S there.long there.prepared refl refl u last L'
          (place_link most layer m ok h L S few kept b last (omega arith)) v t same kept few end) in
          record {
            told = ep;
            made = made;
            behind = subst (λ y. Behind x y last p) (sym made.web) (subst (λ y. Behind x (put_mini x last) last y) (sym ep) (put_behind m L S few kept place_bytes ready last end));
          }

-- what a cut and a giving back did
module _ (m : Store) (L S : List ℕ) (few : length L ≤ 4096) (kept : Kept L S) (s : Store) (L' S' : List ℕ) (p : ℕ) where
  pub cut_ended : Made m L s L' S' (ended_mini (web_of m L S) p) → Ended (web_of m L S) (web_of s L' S') p
  cut_ended made = subst (λ v. Ended (web_of m L S) v p) (sym made.web) (ended_ended m L S few kept p)

  pub back_gave : p * 64 + 64 ≤ length (bytes_of m (stream_at m)) → Made m L s L' S' (gave_mini (web_of m L S) p) → Gave (web_of m L S) (web_of s L' S') p
  back_gave l made = subst (λ v. Gave (web_of m L S) v p) (sym made.web) (gave_gave m L S few kept p l)

-- a link that points on can be cut off
pub cut_none : (x : ℕ) → x < POINTERS → None ≡ cond (onward x) (Some x) None → ⊥
cut_none x l e =
    let q : None ≡ Some x = rw (or_left (ltb x POINTERS) (eqb x END) (lt-ltb x POINTERS l)) at e in cc

module _ (x : ℕ) (l : x < POINTERS) where
  points : onward x ≡ true
  points = or_left (ltb x POINTERS) (eqb x END) (lt-ltb x POINTERS l)

  pub cut_is : cond (onward x) (Some x) None ≡ Some x
  cut_is = rw points refl

  pub cut_table : (M L L' : List ℕ) → L' ≡ cond (onward x) M L → L' ≡ M
  cut_table M L L' e = rw points at e
