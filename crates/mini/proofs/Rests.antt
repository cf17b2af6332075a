-- Reserving sectors before places are taken, and trimming after some were given back, leave what the mini store means.
-- Assumes nothing.
use Rattle.std.proofs.Common.{◌≡◌, ℕ, ◌+◌, ◌-◌, ◌*◌, ◌/◌, ◌%◌, ◌<◌, ◌≤◌, true, List, ◌++◌, length, count_by, sym, refl, ap, ◌∙◌, subst, inl, inr, ⊎_elim, mod-eq_of_lt, arith}
use Rattle.std.proofs.lemmas.List.{length-take-le, take_all, get_or_past, length-set}
use Rattle.std.proofs.lemmas.Bool.{cases_lt, cond-true, cond-false, lt-ltb, le-ltb}
use Rattle.links.specs.Bytes.{link_in}
use Rattle.links.specs.Links.{FREE, free, at}
use Rattle.links.specs.Stack.{trimmed}
use Rattle.links.proofs.Counts.{inside}
use Rattle.links.proofs.Frees.{count_trimmed}
use Rattle.links.proofs.Stacks.{Kept}
use Rattle.store.specs.Meaning.{Store, Hosted, Lawful, bytes_of, units_of, entered}
use Rattle.chain.specs.Units.{cell, content}
use Rattle.chain.specs.Webs.{stored}
use Rattle.chain.proofs.Laid.{slice_left}
use Rattle.chain.proofs.Weaves.{same_stored}
use Rattle.rooms.specs.declared.Ground.{Ground}
use Rattle.rooms.specs.Rooms.{fats_needed, minis_needed, need, fits, growth, reserved, taller}
use Rattle.rooms.proofs.Rooms.{Fair, fits_parts, reserve_same, reserve_none, taller_less}
use Rattle.mini.specs.Adding.{AddsFats, AddsMinis}
use Rattle.mini.specs.Mini.{root_of, stream_at, fat_at, ground_of, Borne, kept_part, dry, web_of, Backed, Synced}
use Rattle.mini.specs.Steps.{rooted, Trims}
use Rattle.mini.proofs.Figures.{bytes_few, whole_units}
use Rattle.mini.proofs.Growths.{dry-more, borne_fair}
use Rattle.mini.proofs.Links.{backed_more}
use Rattle.mini.proofs.Reserves.{Added, reserved-added, added_borne, added_ground}
use Rattle.mini.proofs.States.{hosted_same, entered_yes}
use Rattle.mini.proofs.Swaps.{rooted_long, kept_rooted, bytes_rooted, ground_rooted, borne_rooted}
use Rattle.mini.proofs.Weaves.{mini_woven}

-- more bytes behind those of a unit
cell_left : (xs ys : List ℕ) (p : ℕ) → p * 64 + 64 ≤ length xs → cell 64 (xs ++ ys) p ≡ cell 64 xs p
unfolding cell
cell_left xs ys p l = slice_left xs ys (p * 64) 64 l

-- the sectors for a growth by k places were added
pub record Reserved (s after : Store) (L S : List ℕ) (k : ℕ) : Type 0 where
  pub means : stored (web_of after L S) ≡ stored (web_of s L S)
  pub borne : Borne after (length L)
  pub hosted : Hosted after
  pub ready : count_by free L + k ≤ (web_of after L S).ready
  pub room : (web_of after L S).room ≡ (web_of s L S).room
  pub synced : Synced s L → Synced after L

module _ (most layer : ℕ) (s mid after : Store) (ok : Lawful most s) (okm : Lawful most mid) (h : Hosted s) (L S : List ℕ) (few : length L ≤ 4096) (kept : Kept L S) (b : Borne s (length L))
    (k : ℕ) (fit : fits (ground_of s (length L)) k ≡ true) (af : AddsFats s layer (fats_needed (ground_of s (length L)) k % 0x100000000) mid) (am : AddsMinis mid layer (minis_needed (ground_of s (length L)) k % 0x100000000) after) where
  added : Added s after (fats_needed (ground_of s (length L)) k) (minis_needed (ground_of s (length L)) k)
  added = reserved-added most layer s mid after ok okm h (length L) k b fit af am

  ground : ground_of after (length L) ≡ reserved (ground_of s (length L)) k
  ground = added_ground most s after ok _ _ added (length L) (fits_parts (ground_of s (length L)) k fit).1

  borne : Borne after (length L)
  borne = added_borne most s after ok _ _ added (length L) b

  room : (web_of after L S).room ≡ (web_of s L S).room
  room = ap (λ g. count_by free L + growth g) ground ∙ ap (λ n. count_by free L + n) (reserve_same (ground_of s (length L)) k fit)

  fours : length (bytes_of s (fat_at s)) ≡ 4 * (length (bytes_of s (fat_at s)) / 4)
  fours = let w = whole_units most s ok (fat_at s) in
      ⊎_elim (λ e. omega (arith, w, ap (λ u. units_of s (fat_at s) * u) e)) (λ e. omega (arith, w, ap (λ u. units_of s (fat_at s) * u) e)) h.unit

  pub reserved_done : Reserved s after L S k
  reserved_done = record {
    means = same_stored (web_of s L S) (web_of after L S) (mini_woven s L S few kept b) (mini_woven after L S few kept borne) refl added.notes room refl
        (λ q u. ap (λ bs. cell 64 bs q) added.stream ∙ cell_left (bytes_of s (stream_at s)) _ q (omega (arith, inside L q u, b.links, b.inside)));
    borne = borne;
    hosted = added.hosted;
    ready = omega (arith, ap (λ g. growth (dry g)) ground, dry-more (reserved (ground_of s (length L)) k) k (fits_parts (ground_of s (length L)) k fit).0 (reserve_none (ground_of s (length L)) k));
    room = room;
    synced = λ y. subst (λ r. Backed (bytes_of after (fat_at after)) r L) (sym added.long) (subst (λ ys. Backed ys (root_of s).length L) (sym added.fat) (backed_more (bytes_of s (fat_at s)) _ (root_of s).length (length (bytes_of s (fat_at s)) / 4) L fours b.table y));
  }

-- trailing FREE links went
pub record Trimmed (s after : Store) (L L' S S' : List ℕ) : Type 0 where
  pub means : stored (web_of after L' S') ≡ stored (web_of s L S)
  pub borne : Borne after (length L')
  pub hosted : Hosted after
  pub synced : Synced s L → Synced after L'

module _ (most layer : ℕ) (s after : Store) (ok : Lawful most s) (h : Hosted s) (L S L' S' : List ℕ) (few : length L ≤ 4096) (kept : Kept L S) (few' : length L' ≤ 4096) (kept' : Kept L' S') (b : Borne s (length L))
    (tr : Trims layer s L S after L' S') (same : at L' ≡ at L) where
  within : trimmed L ≤ length L
  within = omega arith

  long' : length L' ≡ trimmed L
  long' = ap length tr.0 ∙ length-take-le (trimmed L) L within

  past : (k : ℕ) → trimmed L ≤ k → at L k ≡ FREE
  past k l = ap (λ (f : ℕ → ℕ). f k) (sym same) ∙ get_or_past L' k FREE (omega (arith, long'))

  count : count_by free L ≡ count_by free L' + (length L - trimmed L)
  count = count_trimmed L (trimmed L) within past ∙ ap (λ M. count_by free M + (length L - trimmed L)) (sym tr.0)

  synced_by : bytes_of after (fat_at after) ≡ bytes_of s (fat_at s) → (64 * length L' < (root_of after).length → 64 * length L < (root_of s).length) → Synced s L → Synced after L'
  synced_by e longer y = record {
    links = λ p l. ap (λ ys. link_in ys p) e ∙ y.links p (omega (arith, long', l)) ∙ ap (λ (f : ℕ → ℕ). f p) (sym same);
    rest = λ m p l. ap (λ ys. link_in ys p) e ∙ y.rest (longer m) p (omega (arith, l, ap length e)) ∙ ap (λ (f : ℕ → ℕ). f p) (sym same);
  }

  -- none went
  none_went : length L - trimmed L ≡ 0 → Trimmed s after L L' S S'
  unfolding content
  none_went z =
      let e : after ≡ s = tr.2 ∙ cond-false _ _ _ (le-ltb 0 (length L - trimmed L) (omega arith)) in
      let q : L' ≡ L = tr.0 ∙ take_all (trimmed L) L (omega arith) in
      record {
        means = (λ i. stored (web_of (e i) (q i) S'));
        borne = rw (e, q) b;
        hosted = rw e h;
        synced = synced_by (ap (λ z. bytes_of z (fat_at z)) e) (λ m. omega (arith, m, ap (λ z. (root_of z).length) e, ap length q));
      }

  -- some went
  some_went : 0 < length L - trimmed L → Trimmed s after L L' S S'
  some_went l =
      let r = (root_of s).length in
      let j = length L - trimmed L in
      let r' = r - 64 * j in
      let shorter : (r - 64 * j) % 0x100000000 ≡ r - 64 * j = mod-eq_of_lt (omega (arith, b.inside, bytes_few most s ok (stream_at s))) in
      let e : after ≡ rooted s r' = tr.2 ∙ cond-true _ _ _ (lt-ltb 0 j l) ∙ ap (entered s layer 0 (stream_at s)) shorter ∙ entered_yes s layer (stream_at s) r' h.some in
      let bo : Borne (rooted s r') (trimmed L) = borne_rooted s h.some r' (length L) (trimmed L) b (omega (arith, b.whole, b.links)) (omega (arith, b.links)) (omega (arith, b.inside)) (omega (arith, b.table))
      (⊎_elim (λ p. inl (omega (arith, p.0))) (λ p. inr p) b.stream) in
      let borne : Borne after (length L') = rw (e, long') bo in
      let g = ground_of (rooted s r') (trimmed L) in
      let back : taller g j ≡ ground_of s (length L) =
      ap (λ x. taller x j) (ground_rooted s h.some r' (trimmed L))
      ∙ (λ i. record { unit = s.unit; links = sum i; root = root i; fats = units_of s (fat_at s); minis = units_of s (stream_at s); spare = s.room }) in
      let fair = borne_fair most s (length L) ok h few b in
      let enough : need g j ≡ 0 = needless g j (subst Fair (sym back) fair) in
      let grown : growth (ground_of s (length L)) + j ≡ growth g = ap (λ x. growth x + j) (sym back) ∙ taller_less g j enough (omega (arith, few)) in
      let room : (web_of after L' S').room ≡ (web_of s L S).room = (λ i. count_by free L' + growth (ground_of (e i) (long' i))) ∙ omega (arith, count, grown) in
      record {
        means = same_stored (web_of s L S) (web_of after L' S') (mini_woven s L S few kept b) (mini_woven after L' S' few' kept' borne) refl (ap kept_part e ∙ kept_rooted s h.some r') room same
            (λ q u. ap (λ z. cell 64 (bytes_of z (stream_at z)) q) e ∙ ap (λ bs. cell 64 bs q) (bytes_rooted s h.some r'));
        borne = borne;
        hosted = rw e (hosted_same s _ h refl (length-set s.notes.entries 0 _));
        synced = synced_by (ap (λ z. bytes_of z (fat_at z)) e) (λ m. omega (arith, m, ap (λ z. (root_of z).length) e, rooted_long s h.some r', long', b.links));
      }
    where
      sum : trimmed L + (length L - trimmed L) ≡ length L
      sum = omega arith

      root : ((root_of s).length - 64 * (length L - trimmed L)) / 64 + (length L - trimmed L) ≡ (root_of s).length / 64
      root = omega (arith, b.whole, b.links)

      needless : (g : Ground) (j : ℕ) → Fair (taller g j) → need g j ≡ 0
      needless g j f = omega (arith, f.table, f.stream)

  pub trimmed_done : Trimmed s after L L' S S'
  trimmed_done = ⊎_elim some_went (λ l. none_went (omega arith)) (cases_lt 0 (length L - trimmed L))
