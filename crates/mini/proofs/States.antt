-- Where the calls of a host have come to: a host s that came from m, with other bytes in mini stream and MiniFAT, and
-- another root length.
-- Assumes nothing.
use Rattle.std.proofs.Common.{◌≡◌, ℕ, ◌+◌, ◌*◌, ◌/◌, ◌<◌, ◌≤◌, cond, ltb, ◌≢◌, List, [], ◌∷◌, length, replicate, Some, None, count_by, Option, unwrap_or, sym, refl, ap, ◌∙◌, inl, inr, ⊎_elim, arith}
use Rattle.std.proofs.lemmas.List.{length-replicate, length-set}
use Rattle.std.proofs.lemmas.Bool.{cond-false, cond-true, le-ltb, lt-ltb}
use Rattle.links.specs.Bytes.{bytes_of_link}
use Rattle.links.specs.Links.{free}
use Rattle.store.specs.Refusals.{unless}
use Rattle.store.specs.Meaning.{Store, Notes, Hosted, bytes_of, units_of, laid, with_chain, with_notes, moved, headed, refuse, wrote, entered}
use Rattle.chain.specs.Webs.{Web}
use Rattle.chain.proofs.Laid.{length-laid}
use Rattle.rooms.specs.declared.Ground.{Ground}
use Rattle.rooms.specs.Rooms.{growth}
use Rattle.mini.specs.Mini.{root_of, stream_at, fat_at, ground_of, Borne, kept_part, sealed, dry, web_of}
use Rattle.mini.specs.Steps.{relinked, rooted, zeroed}
use Rattle.mini.proofs.Swaps.{bytes_here, bytes_apart, ground_same, borne_same, kept_same, sealed_stream, sealed_fat, sealed_bytes, rooted_start, rooted_long, sealed-rooted, kept_rooted, bytes_rooted, ground_rooted}

-- a chain that has bytes is there, and a write within them is accepted
module _ (s : Store) (h : ℕ) where
  pub some_chain : 0 < length (bytes_of s h) → s.chain h ≡ Some (bytes_of s h)
  some_chain l = go (s.chain h) refl l
    where
      go : (o : Option (List ℕ)) → s.chain h ≡ o → 0 < length (unwrap_or o []) → o ≡ Some (unwrap_or o [])
      go None e p = absurd (omega arith)
      go (Some xs) e p = refl

  pub wrote_yes : (layer at : ℕ) (ys : List ℕ) → 0 < length (bytes_of s h) → at + length ys ≤ length (bytes_of s h)
      → wrote s layer h at ys ≡ with_chain s h (Some (laid (bytes_of s h) at ys)) s.room
  wrote_yes layer at ys p l =
      ap (λ o. unless o s (with_chain s h (Some (laid (bytes_of s h) at ys)) s.room))
      (ap (λ o. headed o layer h (cond (ltb (length (bytes_of s h)) (at + length ys)) (refuse 15 layer h) None)) (some_chain p) ∙ cond-false _ _ _ (le-ltb _ _ l))

pub entered_yes : (s : Store) (layer st n : ℕ) → 0 < length s.notes.entries
    → entered s layer 0 st n ≡ with_notes s (moved s.notes.entries 0 st n) s.notes.words
entered_yes s layer st n l = ap (λ o. unless o s (with_notes s (moved s.notes.entries 0 st n) s.notes.words)) (cond-true _ _ _ (lt-ltb 0 _ l))

pub hosted_same : (s u : Store) → Hosted s → u.unit ≡ s.unit → length u.notes.entries ≡ length s.notes.entries → Hosted u
hosted_same s u h e n = record { unit = ⊎_elim (λ a. inl (e ∙ a)) (λ a. inr (e ∙ a)) h.unit; some = omega (arith, h.some, n); few = omega (arith, h.few, n) }

-- the figures of m with the root length r, for t links
abbrev pub ground_at : Store → ℕ → ℕ → Ground
ground_at m r t = record { unit = m.unit; links = t; root = r / 64; fats = units_of m (fat_at m); minis = units_of m (stream_at m); spare = m.room }

pub record State (m s : Store) (xs ys : List ℕ) (r : ℕ) (b : Store) : Type 0 where
  pub bytes : bytes_of s (stream_at s) ≡ xs
  pub fat : bytes_of s (fat_at s) ≡ ys
  pub long : (root_of s).length ≡ r
  pub below : sealed s ≡ b
  pub notes : kept_part s ≡ kept_part m
  pub ground : (t : ℕ) → ground_of s t ≡ ground_at m r t
  pub hosted : Hosted s

pub state_start : (m : Store) → Hosted m → State m m (bytes_of m (stream_at m)) (bytes_of m (fat_at m)) (root_of m).length (sealed m)
state_start m h = record { bytes = refl; fat = refl; long = refl; below = refl; notes = refl; ground = λ t. refl; hosted = h }

-- the mini sectors by their parts
abbrev pub as_web : List ℕ → List ℕ → List ℕ → Ground → Store → Notes → Web
as_web L xs S g b n = record {
  unit = 64;
  links = L;
  bytes = xs;
  stack = S;
  ready = count_by free L + growth (dry g);
  room = count_by free L + growth g;
  below = b ∷ [];
  notes = n;
}

pub state_web : (m s : Store) (xs ys : List ℕ) (r : ℕ) (b : Store) (L S : List ℕ) → State m s xs ys r b
    → web_of s L S ≡ as_web L xs S (ground_at m r (length L)) b (kept_part m)
state_web m s xs ys r b L S k = λ i. as_web L (k.bytes i) S (k.ground (length L) i) (k.below i) (k.notes i)

module _ (m s : Store) (xs ys : List ℕ) (r : ℕ) (b : Store) (k : State m s xs ys r b) (two : stream_at s ≢ fat_at s) (t : ℕ) (borne : Borne s t) where
  -- a link is written
  module _ (p v : ℕ) (l : 4 * p + 4 ≤ length ys) where
    link_fits : 4 * p + length (bytes_of_link v) ≤ length (bytes_of s (fat_at s))
    link_fits = let e : length (bytes_of_link v) ≡ 4 = refl in omega (arith, ap length k.fat)

    pub link_wrote_lem : (layer : ℕ) → wrote s layer (fat_at s) (4 * p) (bytes_of_link v) ≡ relinked s p v
    link_wrote_lem layer = wrote_yes s (fat_at s) layer (4 * p) (bytes_of_link v) (omega (arith, ap length k.fat)) link_fits

    link_long : length (laid (bytes_of s (fat_at s)) (4 * p) (bytes_of_link v)) ≡ length (bytes_of s (fat_at s))
    link_long = length-laid (bytes_of s (fat_at s)) (bytes_of_link v) (4 * p) link_fits

    pub state_link : State m (relinked s p v) xs (laid ys (4 * p) (bytes_of_link v)) r (relinked b p v)
    state_link =
        let zs = laid (bytes_of s (fat_at s)) (4 * p) (bytes_of_link v) in
        record {
          bytes = bytes_apart s (fat_at s) s.room (Some zs) (stream_at s) two ∙ k.bytes;
          fat = bytes_here s (fat_at s) zs s.room ∙ ap (λ y. laid y (4 * p) (bytes_of_link v)) k.fat;
          long = k.long;
          below = sealed_fat s zs two ∙ ap (λ y. with_chain (sealed s) (fat_at s) (Some (laid y (4 * p) (bytes_of_link v))) s.room) (sym (sealed_bytes s two)) ∙ ap (λ z. relinked z p v) k.below;
          notes = kept_same s (fat_at s) zs (inr refl) link_long ∙ k.notes;
          ground = λ u. ground_same s (fat_at s) zs (inr refl) link_long u ∙ k.ground u;
          hosted = hosted_same s _ k.hosted refl refl;
        }

    pub borne_link : Borne (relinked s p v) t
    borne_link = borne_same s (fat_at s) _ (inr refl) link_long t borne

  -- a mini sector is zeroed
  module _ (p : ℕ) (l : p * 64 + 64 ≤ length xs) where
    wipe_fits : p * 64 + length {A = ℕ} (replicate 64 0) ≤ length (bytes_of s (stream_at s))
    wipe_fits = omega (arith, ap length k.bytes, length-replicate {A = ℕ} 64 0)

    pub wipe_wrote : (layer : ℕ) → wrote s layer (stream_at s) (p * 64) (replicate 64 0) ≡ with_chain s (stream_at s) (Some (zeroed (bytes_of s (stream_at s)) p)) s.room
    wipe_wrote layer = wrote_yes s (stream_at s) layer (p * 64) (replicate 64 0) (omega (arith, ap length k.bytes)) wipe_fits

    wipe_long : length (zeroed (bytes_of s (stream_at s)) p) ≡ length (bytes_of s (stream_at s))
    wipe_long = length-laid (bytes_of s (stream_at s)) (replicate 64 0) (p * 64) wipe_fits

    pub state_wipe : State m (with_chain s (stream_at s) (Some (zeroed (bytes_of s (stream_at s)) p)) s.room) (zeroed xs p) ys r b
    state_wipe =
        let zs = zeroed (bytes_of s (stream_at s)) p in
        record {
          bytes = bytes_here s (stream_at s) zs s.room ∙ ap (λ x. zeroed x p) k.bytes;
          fat = bytes_apart s (stream_at s) s.room (Some zs) (fat_at s) (λ e. two (sym e)) ∙ k.fat;
          long = k.long;
          below = sealed_stream s zs ∙ k.below;
          notes = kept_same s (stream_at s) zs (inl refl) wipe_long ∙ k.notes;
          ground = λ u. ground_same s (stream_at s) zs (inl refl) wipe_long u ∙ k.ground u;
          hosted = hosted_same s _ k.hosted refl refl;
        }

    pub borne_wipe : Borne (with_chain s (stream_at s) (Some (zeroed (bytes_of s (stream_at s)) p)) s.room) t
    borne_wipe = borne_same s (stream_at s) _ (inl refl) wipe_long t borne

  -- the root has another length
  module _ (n : ℕ) where
    pub root_set : (layer : ℕ) → entered s layer 0 (stream_at s) n ≡ rooted s n
    root_set layer = entered_yes s layer (stream_at s) n k.hosted.some

    pub two-rooted : stream_at (rooted s n) ≢ fat_at (rooted s n)
    two-rooted e = two (sym (rooted_start s k.hosted.some n) ∙ e)

    pub state_root : State m (rooted s n) xs ys n (rooted b n)
    state_root = record {
      bytes = bytes_rooted s k.hosted.some n ∙ k.bytes;
      fat = k.fat;
      long = rooted_long s k.hosted.some n;
      below = sealed-rooted s k.hosted.some n ∙ ap (λ z. rooted z n) k.below;
      notes = kept_rooted s k.hosted.some n ∙ k.notes;
      ground = λ u. ground_rooted s k.hosted.some n u ∙ ap (λ (g : Ground). record { unit = g.unit; links = g.links; root = n / 64; fats = g.fats; minis = g.minis; spare = g.spare }) (k.ground u);
      hosted = hosted_same s _ k.hosted refl (length-set s.notes.entries 0 _);
    }
