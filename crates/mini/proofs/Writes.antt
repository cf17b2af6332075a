-- What copying along a chain leaves of a mini store: a read nothing, a write the bytes of one chain.
-- Assumes nothing.
use Rattle.std.proofs.Common.{◌≡◌, ℕ, ◌+◌, ◌<◌, ◌≤◌, ◌≢◌, List, [], ◌∷◌, length, Some, count_by, sym, refl, ap, ◌∙◌, subst}
use Rattle.std.proofs.lemmas.Bool.{cond-true, lt-ltb}
use Rattle.links.specs.Links.{free, at, Head}
use Rattle.links.proofs.Paths.{same_head}
use Rattle.links.proofs.Stacks.{Kept}
use Rattle.store.specs.Meaning.{Store, Lawful, laid, with_chain}
use Rattle.chain.specs.Units.{View, Wrote, content}
use Rattle.chain.specs.Webs.{Woven, stored, viewed, path_of}
use Rattle.chain.proofs.Strands.{one_chain, chain_kept}
use Rattle.rooms.specs.Rooms.{growth}
use Rattle.mini.specs.Mini.{Borne, sealed, web_of, Synced}
use Rattle.mini.proofs.Told.{unseal, alike_notes, alike_synced, alike_ground}
use Rattle.mini.proofs.Weaves.{mini_woven}

-- what a view keeps, by its parts
first : List (List ℕ) → List ℕ
first [] = []
first (x ∷ xs) = x

second : List (List ℕ) → List ℕ
second [] = []
second (x ∷ xs) = first xs

only : Store → List Store → Store
only s [] = s
only s (x ∷ xs) = x

module _ (most : ℕ) (s u : Store) (oks : Lawful most s) (oku : Lawful most u) (L S M T : List ℕ) where
  same_links : (viewed (web_of u M T)).kept ≡ (viewed (web_of s L S)).kept → M ≡ L
  unfolding first
  same_links e = ap first e

  same_stack : (viewed (web_of u M T)).kept ≡ (viewed (web_of s L S)).kept → T ≡ S
  unfolding second first
  same_stack e = ap second e

  same_below : (viewed (web_of u M T)).below ≡ (viewed (web_of s L S)).below → sealed u ≡ sealed s
  unfolding only
  same_below e = ap (only s) e

  -- after a read
  module _ (same : viewed (web_of u M T) ≡ viewed (web_of s L S)) where
    pub host_same : u ≡ s
    host_same = unseal most s u oks oku (same_below (ap (λ (v : View). v.below) same)) (ap (λ (v : View). v.bytes) same)

    pub links_same : M ≡ L
    links_same = same_links (ap (λ (v : View). v.kept) same)

    pub stack_same : T ≡ S
    stack_same = same_stack (ap (λ (v : View). v.kept) same)

-- after a write
module _ (most : ℕ) (s u : Store) (oks : Lawful most s) (oku : Lawful most u) (L S : List ℕ) (few : length L ≤ 4096) (kept : Kept L S) (bs : Borne s (length L)) (bu : Borne u (length L)) (h a : ℕ) (ys : List ℕ)
    (wrote : Wrote (viewed (web_of s L S)) (viewed (web_of u L S)) h a ys) (d : Head (at L) h (path_of L h)) (some : 0 < length (path_of L h)) where
  below : sealed u ≡ sealed s
  below = same_below most s u oks oku L S L S wrote.below

  wrote-stored : stored (web_of u L S) ≡ with_chain (stored (web_of s L S)) h (Some (laid (content (viewed (web_of s L S)) h) a ys)) (web_of s L S).room
  wrote-stored = one_chain (web_of s L S) (web_of u L S) h _ _ refl (alike_notes most s u oks oku below)
      (ap (λ g. count_by free L + growth g) (alike_ground most s u oks oku below (length L) bs bu wrote.long))
      (cond-true _ _ _ (lt-ltb 0 (length (path_of L h)) some) ∙ ap Some wrote.chain) other
    where
      ws : Woven (web_of s L S)
      ws = mini_woven s L S few kept bs

      wu : Woven (web_of u L S)
      wu = mini_woven u L S few kept bu

      other : (k : ℕ) → k ≢ h → (stored (web_of u L S)).chain k ≡ (stored (web_of s L S)).chain k
      other k n = chain_kept (web_of s L S) (web_of u L S) ws wu refl k (λ qs. (λ x. x, λ x. x))
          (λ qs e q i. wrote.other q (λ j. n (same_head (at L) k h q qs (path_of L h) kept.checked e d i j)))

-- the same where the table was held beside
module _ (most : ℕ) (s u : Store) (oks : Lawful most s) (oku : Lawful most u) (L S M T : List ℕ) (few : length L ≤ 4096) (kept : Kept L S) (bs : Borne s (length L)) (bu : Borne u (length M)) (h a : ℕ) (ys : List ℕ)
    (wrote : Wrote (viewed (web_of s L S)) (viewed (web_of u M T)) h a ys) (d : Head (at L) h (path_of L h)) (some : 0 < length (path_of L h)) where
  pub links : M ≡ L
  links = same_links most s u oks oku L S M T wrote.kept

  pub stack : T ≡ S
  stack = same_stack most s u oks oku L S M T wrote.kept

  pub write_means : stored (web_of u M T) ≡ with_chain (stored (web_of s L S)) h (Some (laid (content (viewed (web_of s L S)) h) a ys)) (web_of s L S).room
  write_means =
      (λ i. stored (web_of u (links i) (stack i)))
      ∙ wrote-stored most s u oks oku L S few kept bs (subst (λ K. Borne u (length K)) links bu) h a ys
      (subst (λ K. Wrote (viewed (web_of s L S)) (viewed (web_of u K S)) h a ys) links (subst (λ K. Wrote (viewed (web_of s L S)) (viewed (web_of u M K)) h a ys) stack wrote)) d some

  pub write_synced : Synced s L → Synced u M
  write_synced k = subst (Synced u) (sym links)
      (alike_synced most s u oks oku (same_below most s u oks oku L S M T wrote.below) (length L) bs (subst (λ K. Borne u (length K)) links bu) L k)
