-- Other bytes in a chain of the host, as many as there were, and another root length: what stays.
-- Assumes nothing.
use Rattle.std.proofs.Common.{◌≡◌, ℕ, ◌*◌, ◌/◌, ◌%◌, ◌<◌, ◌≤◌, true, cond, ◌||◌, eqb, ◌≢◌, ◌⊎◌, List, [], length, get_or, set, Some, None, Option, unwrap_or, sym, refl, ap, ◌∙◌, inl, inr, ⊎_elim, arith}
use mathlib.Core.Path.{fun_ext}
use Rattle.std.specs.Map.{update}
use Rattle.std.proofs.lemmas.List.{get_or-set_same, set-set}
use Rattle.std.proofs.lemmas.Map.{update_here, update_apart}
use Rattle.std.proofs.lemmas.Bool.{cases_eq, eq-eqb, or_left, or_right}
use Rattle.links.specs.Links.{END}
use Rattle.store.specs.declared.entries.Entry.{Entry}
use Rattle.store.specs.declared.entries.ObjType.TheVariants.{Unallocated}
use Rattle.store.specs.Meaning.{Store, Notes, bytes_of, units_of, with_chain, moved}
use Rattle.chain.proofs.Strands.{same_store}
use Rattle.chain.proofs.Zeros.{chain_twice}
use Rattle.rooms.specs.declared.Ground.{Ground}
use Rattle.mini.specs.Mini.{root_of, stream_at, fat_at, ground_of, Present, Borne, kept_part, sealed}
use Rattle.mini.specs.Steps.{rooted}

-- notes and figures by their parts
pub same_notes : (m n : Notes) → m.entries ≡ n.entries → m.words ≡ n.words → m.others ≡ n.others → m ≡ n
same_notes m n a b c = λ i. record { entries = a i; words = b i; others = c i }

pub same_ground : (g h : Ground) → g.unit ≡ h.unit → g.links ≡ h.links → g.root ≡ h.root → g.fats ≡ h.fats → g.minis ≡ h.minis → g.spare ≡ h.spare → g ≡ h
same_ground g h a b c d e f = λ i. record { unit = a i; links = b i; root = c i; fats = d i; minis = e i; spare = f i }

-- another chain of h, or none: what those of others are
module _ (s : Store) (h r : ℕ) (o : Option (List ℕ)) where
  pub bytes_apart : (k : ℕ) → k ≢ h → bytes_of (with_chain s h o r) k ≡ bytes_of s k
  bytes_apart k n = ap (λ x. unwrap_or x []) (update_apart s.chain h o k n)

  pub present_apart : (k n : ℕ) → k ≢ h → Present s k n → Present (with_chain s h o r) k n
  present_apart k n d (inl p) = inl p
  present_apart k n d (inr (xs, e)) = inr (xs, update_apart s.chain h o k d ∙ e)

  -- a table is borne out as before, where mini stream and MiniFAT are there and have as many bytes
  pub borne_with : (t : ℕ) → length (bytes_of (with_chain s h o r) (stream_at s)) ≡ length (bytes_of s (stream_at s)) → length (bytes_of (with_chain s h o r) (fat_at s)) ≡ length (bytes_of s (fat_at s))
      → Present (with_chain s h o r) (stream_at s) (root_of s).length → Present (with_chain s h o r) (fat_at s) s.notes.words.count → Borne s t → Borne (with_chain s h o r) t
  borne_with t stream fat there_stream there_fat b = record {
    two = b.two;
    whole = b.whole;
    links = b.links;
    inside = omega (arith, b.inside, stream);
    counted = b.counted ∙ ap (λ n. n / s.unit) (sym fat);
    table = omega (arith, b.table, fat);
    stream = there_stream;
    fat = there_fat;
  }

-- what the chain of h is in a store with another chain there
module _ (s : Store) (h : ℕ) (zs : List ℕ) (r : ℕ) where
  pub bytes_here : bytes_of (with_chain s h (Some zs) r) h ≡ zs
  bytes_here = ap (λ o. unwrap_or o []) (update_here s.chain h (Some zs))

-- in the order of two chains it does not matter which comes first
pub chains_commute : (s : Store) (h k : ℕ) (v w : Option (List ℕ)) (q r : ℕ) → h ≢ k → with_chain (with_chain s h v q) k w r ≡ with_chain (with_chain s k w q) h v r
chains_commute s h k v w q r n = same_store _ _ refl (fun_ext each) refl refl
  where
    each : (j : ℕ) → update eqb (update eqb s.chain h v) k w j ≡ update eqb (update eqb s.chain k w) h v j
    each j = ⊎_elim
        (λ (e : j ≡ k). rw e (update_here (update eqb s.chain h v) k w ∙ sym (update_apart (update eqb s.chain k w) h v k (λ z. n (sym z)) ∙ update_here s.chain k w)))
        (λ d. update_apart (update eqb s.chain h v) k w j d ∙ ⊎_elim
        (λ (e : j ≡ h). rw e (update_here s.chain h v ∙ sym (update_here (update eqb s.chain k w) h v)))
        (λ f. update_apart s.chain h v j f ∙ sym (update_apart (update eqb s.chain k w) h v j f ∙ update_apart s.chain k w j d)) (cases_eq j h))
        (cases_eq j k)

-- as many bytes in the chain of h, which is the mini stream's or the MiniFAT's
module _ (s : Store) (h : ℕ) (zs : List ℕ) (ours : (h ≡ stream_at s) ⊎ (h ≡ fat_at s)) (same : length zs ≡ length (bytes_of s h)) where
  pub long_same : (k : ℕ) → length (bytes_of (with_chain s h (Some zs) s.room) k) ≡ length (bytes_of s k)
  long_same k = ⊎_elim (λ (e : k ≡ h). rw e (ap length (bytes_here s h zs s.room) ∙ same)) (λ n. ap length (bytes_apart s h s.room (Some zs) k n)) (cases_eq k h)

  pub units_same : (k : ℕ) → units_of (with_chain s h (Some zs) s.room) k ≡ units_of s k
  units_same k = ap (λ n. n / s.unit) (long_same k)

  pub ground_same : (t : ℕ) → ground_of (with_chain s h (Some zs) s.room) t ≡ ground_of s t
  ground_same t = same_ground _ _ refl refl refl (units_same (fat_at s)) (units_same (stream_at s)) refl

  present_same : (k n : ℕ) → Present s k n → Present (with_chain s h (Some zs) s.room) k n
  present_same k n (inl p) = inl p
  present_same k n (inr (xs, e)) = ⊎_elim (λ (q : k ≡ h). inr (zs, rw q (update_here s.chain h (Some zs)))) (λ d. present_apart s h s.room (Some zs) k n d (inr (xs, e))) (cases_eq k h)

  pub borne_same : (t : ℕ) → Borne s t → Borne (with_chain s h (Some zs) s.room) t
  borne_same t b = borne_with s h s.room (Some zs) t (long_same (stream_at s)) (long_same (fat_at s)) (present_same _ _ b.stream) (present_same _ _ b.fat) b

  pub kept_same : kept_part (with_chain s h (Some zs) s.room) ≡ kept_part s
  kept_same = same_notes _ _ refl refl (fun_ext each)
    where
      one : (k : ℕ) → k ≡ h → (h ≡ stream_at s) ⊎ (h ≡ fat_at s) → (eqb k (stream_at s) || eqb k (fat_at s)) ≡ true
      one k e (inl p) = or_left _ _ (eq-eqb _ _ (e ∙ p))
      one k e (inr p) = or_right (eqb k (stream_at s)) _ (eq-eqb _ _ (e ∙ p))

      each : (k : ℕ) → cond (eqb k (stream_at s) || eqb k (fat_at s)) None (update eqb s.chain h (Some zs) k) ≡ cond (eqb k (stream_at s) || eqb k (fat_at s)) None (s.chain k)
      each k = ⊎_elim (λ e. rw (one k e ours) refl) (λ n. ap (λ o. cond (eqb k (stream_at s) || eqb k (fat_at s)) None o) (update_apart s.chain h (Some zs) k n)) (cases_eq k h)

-- the host without the mini stream's bytes, where those are others, and where the MiniFAT's are
pub sealed_stream : (s : Store) (zs : List ℕ) → sealed (with_chain s (stream_at s) (Some zs) s.room) ≡ sealed s
sealed_stream s zs = chain_twice s (stream_at s) (Some zs) None s.room s.room

pub sealed_fat : (s : Store) (zs : List ℕ) → stream_at s ≢ fat_at s → sealed (with_chain s (fat_at s) (Some zs) s.room) ≡ with_chain (sealed s) (fat_at s) (Some zs) s.room
sealed_fat s zs n = chains_commute s (fat_at s) (stream_at s) (Some zs) None s.room s.room (λ e. n (sym e))

pub sealed_bytes : (s : Store) → stream_at s ≢ fat_at s → bytes_of (sealed s) (fat_at s) ≡ bytes_of s (fat_at s)
sealed_bytes s n = bytes_apart s (stream_at s) s.room None (fat_at s) (λ e. n (sym e))

-- another root length, and start
module _ (es : List Entry) (some : 0 < length es) (st n : ℕ) where
  pub root_moved : (d : Entry) → get_or (moved es 0 st n) 0 d ≡ record { kind = (get_or es 0 (record { kind = Unallocated; start = 0; length = 0 })).kind; start = st; length = n }
  root_moved d = get_or-set_same es 0 _ d some

  pub moved_twice : (x m : ℕ) → moved (moved es 0 st n) 0 x m ≡ moved es 0 x m
  moved_twice x m =
      let k = ap (λ (e : Entry). e.kind) (root_moved (record { kind = Unallocated; start = 0; length = 0 })) in
      ap (λ j. set (moved es 0 st n) 0 (record { kind = j; start = x; length = m })) k ∙ set-set es 0 _ _

module _ (s : Store) (some : 0 < length s.notes.entries) (n : ℕ) where
  pub rooted_root : root_of (rooted s n) ≡ record { kind = (get_or s.notes.entries 0 (record { kind = Unallocated; start = 0; length = 0 })).kind; start = stream_at s; length = n }
  rooted_root = root_moved s.notes.entries some (stream_at s) n _

  pub rooted_start : stream_at (rooted s n) ≡ stream_at s
  rooted_start = ap (λ (e : Entry). e.start) rooted_root

  pub rooted_long : (root_of (rooted s n)).length ≡ n
  rooted_long = ap (λ (e : Entry). e.length) rooted_root

  pub sealed-rooted : sealed (rooted s n) ≡ rooted (sealed s) n
  sealed-rooted = ap (λ k. with_chain (rooted s n) k None s.room) rooted_start

  pub kept_rooted : kept_part (rooted s n) ≡ kept_part s
  kept_rooted = same_notes _ _ (moved_twice s.notes.entries some (stream_at s) n END 0) refl
      (ap (λ st. (λ (k : ℕ). cond (eqb k st || eqb k (fat_at s)) None (s.chain k))) rooted_start)

  pub bytes_rooted : bytes_of (rooted s n) (stream_at (rooted s n)) ≡ bytes_of s (stream_at s)
  bytes_rooted = ap (bytes_of s) rooted_start

  pub ground_rooted : (t : ℕ) → ground_of (rooted s n) t ≡ record { unit = s.unit; links = t; root = n / 64; fats = units_of s (fat_at s); minis = units_of s (stream_at s); spare = s.room }
  ground_rooted t = same_ground _ _ refl refl (ap (λ k. k / 64) rooted_long) refl (ap (units_of s) rooted_start) refl

  pub borne_rooted : (t u : ℕ) → Borne s t → n % 64 ≡ 0 → 64 * u ≤ n → n ≤ length (bytes_of s (stream_at s)) → 4 * u ≤ length (bytes_of s (fat_at s)) → (n ≡ 0) ⊎ ((xs : List ℕ) × (s.chain (stream_at s) ≡ Some xs)) → Borne (rooted s n) u
  borne_rooted t u b whole links inside table there = record {
    two = ⊎_elim (λ d. inl (λ e. d (sym rooted_start ∙ e))) inr b.two;
    whole = ap (λ k. k % 64) rooted_long ∙ whole;
    links = omega (arith, rooted_long);
    inside = omega (arith, rooted_long, ap length bytes_rooted);
    counted = b.counted;
    table = table;
    stream = stay b.stream there;
    fat = b.fat;
  }
    where
      stay : Present s (stream_at s) (root_of s).length → (n ≡ 0) ⊎ ((xs : List ℕ) × (s.chain (stream_at s) ≡ Some xs)) → Present (rooted s n) (stream_at (rooted s n)) (root_of (rooted s n)).length
      stay p (inr (xs, e)) = inr (xs, ap s.chain rooted_start ∙ e)
      stay (inr (xs, e)) (inl z) = inr (xs, ap s.chain rooted_start ∙ e)
      stay (inl (z, e)) (inl y) = inl (rooted_long ∙ y, rooted_start ∙ e)
