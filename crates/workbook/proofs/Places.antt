-- What a call on a chain of the mini store leaves of the table: the links at the places of all other chains.
-- Assumes nothing.
use Rattle.std.proofs.Common.{◌≡◌, ℕ, zero, suc, ◌-◌, ◌<◌, ◌≤◌, ◌≢◌, ltb, List, [], ◌∷◌, ◌++◌, length, get_or, take, drop, Some, Ok, Err, Result, sym, refl, ap, ◌∙◌, subst, inl, inr, ⊎_elim, arith}
use Rattle.std.proofs.lemmas.Bool.{cases_lt, ltb-true, lt-ltb, le-ltb}
use Rattle.std.proofs.lemmas.List.{get_or_past, get_or-set_other, length-append, length-set, length-take-le, length_push, take-append-drop}
use Rattle.std.proofs.lemmas.Option.{cond_some}
use Rattle.links.specs.Links.{FREE, END, at, In, Path, Head}
use Rattle.links.specs.Stack.{place_after, links_taken, stack_taken}
use Rattle.links.specs.Walk.{last_or}
use Rattle.links.proofs.Members.{in_left, in_right, in_mid, mid_apart, last_in}
use Rattle.links.proofs.Trimmings.{trimmed_same}
use Rattle.links.proofs.Paths.{frame, unique, no_repeat, used, same_head, parts}
use Rattle.links.proofs.Stacks.{Kept}
use Rattle.links.proofs.Tables.{wrote_push}
use Rattle.store.specs.Refusals.{Refused}
use Rattle.store.specs.Meaning.{Store, Lawful}
use Rattle.chain.specs.Webs.{Web, path_of, lengthened, released, shortened}
use Rattle.chain.proofs.Cuts.{place_parted}
use Rattle.chain.proofs.Strands.{some_in, path_headed}
use Rattle.mini.specs.Mini.{web_of}
use Rattle.mini.specs.Steps.{took_mini, put_mini, ended_mini, gave_mini}
use Rattle.minialloc.specs.States.{State, meant_in, web_in, Sound, next_mini, Writes, TrimsTo, BeginsChain, ExtendsChain, CutsChain, FreesChain}
use Rattle.workbook.proofs.Effects.{means_of}

-- the table is checked, and the stack has its FREE places
pub record Tidy (s : State) : Type 0 where
  pub few : length s.links ≤ 4096
  pub kept : Kept s.links s.stack

-- the links at the places of the chain of k are the same
abbrev pub Same : State → State → ℕ → Type 0
Same s z k = (x : ℕ) → In x (path_of s.links k) → at z.links x ≡ at s.links x

pub same_table : (s z : State) (k : ℕ) → z.links ≡ s.links → Same s z k
same_table s z k e x i = ap (λ L. at L x) e

-- what has a place on its chain is a head
on_head : (L : List ℕ) → length L ≤ 4096 → (k x : ℕ) → In x (path_of L k) → Head (at L) k (path_of L k)
on_head L few k x i = path_headed L few k (some_in x (path_of L k) i)

-- a head with the same links at its places has the same places
pub same_path : (L M : List ℕ) → length L ≤ 4096 → length M ≤ 4096 → (k x y : ℕ) → In x (path_of L k) → In y (path_of M k) → ((z : ℕ) → In z (path_of L k) → at M z ≡ at L z) → path_of M k ≡ path_of L k
same_path L M few fewer k x y i j same =
    unique (at M) k k _ _ (on_head M fewer k y j).path refl (frame (at L) (at M) k END (path_of L k) same (on_head L few k x i).path)

-- a chain of the mini store has places
pub has_places : (most : ℕ) (s : State) → Lawful most s.host → Sound s → (h : ℕ) (xs : List ℕ) → (meant_in s).chain h ≡ Some xs → 0 < length (path_of s.links h)
has_places most s ok sound h xs e =
    ltb-true 0 _ (cond_some (ltb 0 (length (path_of s.links h))) _ xs (sym (ap (λ (m : Store). m.chain h) (means_of most s ok sound)) ∙ e)).0

-- places of two chains are apart
apart_from : (s : State) → Tidy s → (h k x : ℕ) → k ≢ h → In x (path_of s.links k) → In x (path_of s.links h) → ⊥
apart_from s t h k x n i j = n (same_head (at s.links) k h x _ _ t.kept.checked (on_head s.links t.few k x i) (on_head s.links t.few h x j) i j)

-- mini sectors given back one after the other, along the places ps
released_same : (n : ℕ) (w : Web) (p : ℕ) (ps : List ℕ) → Path (at w.links) p ps → length ps ≡ n → (x : ℕ) → (In x ps → ⊥) → at (released gave_mini n w p).links x ≡ at w.links x
released_same zero w p ps t l x o = refl
released_same (suc n) w p [] t l x o = absurd (omega arith)
released_same (suc n) w p (y ∷ ps) t l x o =
    let off : In p ps → ⊥ = λ i. (no_repeat (at w.links) p (y ∷ ps) t).0 (rw t.0 i) in
    let u = gave_mini w p in
    let other : (k : ℕ) → k ≢ p → at u.links k ≡ at w.links k = λ k d. get_or-set_other w.links p k FREE FREE d in
    let way : Path (at u.links) (at w.links p) ps = frame (at w.links) (at u.links) (at w.links p) END ps (λ k i. other k (λ e. off (rw e at i))) t.2 in
    released_same n u (at w.links p) ps way (omega arith) x (λ i. o (inr i)) ∙ other x (λ e. o (inl (e ∙ sym t.0)))

-- a chain that ends at a place, and what followed given back
shortened_same : (k : ℕ) (w : Web) (h : ℕ) (ps : List ℕ) → Path (at w.links) h ps → k ≢ 0 → (x : ℕ) → (In x ps → ⊥)
    → at (shortened ended_mini gave_mini k (length ps) w (get_or ps (k - 1) 0)).links x ≡ at w.links x
shortened_same k w h ps t some x o = ⊎_elim less (λ l. rw (le-ltb k (length ps) l) refl) (cases_lt k (length ps))
  where
    less : k < length ps → at (shortened ended_mini gave_mini k (length ps) w (get_or ps (k - 1) 0)).links x ≡ at w.links x
    less l =
        let e = get_or ps (k - 1) 0 in
        let es = take (k - 1) ps in
        let qs = drop (suc (k - 1)) ps in
        let q = place_parted ps (k - 1) (omega (arith, l)) in
        let d = parts (at w.links) h END e es qs (subst (Path (at w.links) h) q t) in
        let off = mid_apart e es qs (no_repeat (at w.links) h _ (subst (Path (at w.links) h) q t)) in
        let u = ended_mini w e in
        let other : (y : ℕ) → y ≢ e → at u.links y ≡ at w.links y = λ y n. get_or-set_other w.links e y END FREE n in
        let way : Path (at u.links) (at w.links e) qs = frame (at w.links) (at u.links) (at w.links e) END qs (λ y i. other y (λ z. off.1 (rw z at i))) d.2 in
        let long : length qs ≡ length ps - k = omega (arith, ap length q, length-append es (e ∷ qs), length-take-le (k - 1) ps (omega (arith, l)), some) in
        rw (lt-ltb k (length ps) l) (
        released_same (length ps - k) u (at w.links e) qs way long x (λ i. o (subst (In x) (sym q) (in_right x es (e ∷ qs) (inr i))))
        ∙ other x (λ z. o (subst (In x) (sym q) (subst (λ y. In y (es ++ e ∷ qs)) (sym z) (in_mid e es qs)))))

-- L is a table whose FREE places are taken
module _ (L : List ℕ) where
  abbrev Frees : List ℕ → Type 0
  Frees S = (p : ℕ) → In p S → at L p ≡ FREE

  place_free : (M S : List ℕ) → length L ≤ length M → Frees S → at L (place_after M S) ≡ FREE
  place_free M [] l f = get_or_past L (length M) FREE l
  place_free M (x ∷ S) l f = f (last_or x S) (last_in x (x ∷ S) (omega arith))

  taken_same : (M S : List ℕ) (x : ℕ) → x ≢ place_after M S → at (links_taken M S) x ≡ at M x
  taken_same M [] x n = (wrote_push M END).rest x n
  taken_same M (y ∷ S) x n = get_or-set_other M (last_or y S) x END FREE n

  taken_long : (M S : List ℕ) → length M ≤ length (links_taken M S)
  taken_long M [] = omega (arith, length_push M END)
  taken_long M (y ∷ S) = omega (arith, length-set M (last_or y S) END)

  taken_frees : (S : List ℕ) → Frees S → Frees (stack_taken S)
  taken_frees S f p i = f p (subst (In p) (take-append-drop (length S - 1) S) (in_left p (stack_taken S) (drop (length S - 1) S) i))

  live_apart : (M S : List ℕ) → length L ≤ length M → Frees S → (x : ℕ) → at L x ≢ FREE → x ≢ place_after M S
  live_apart M S l f x n e = n (ap (at L) e ∙ place_free M S l f)

  lengthened_same : (n : ℕ) (w : Web) (last : ℕ) → Frees w.stack → length L ≤ length w.links → (x : ℕ) → at L x ≢ FREE → x ≢ last
      → at (lengthened next_mini put_mini n w last).links x ≡ at w.links x
  lengthened_same zero w last f l x n d = refl
  lengthened_same (suc n) w last f l x m d =
      let p = place_after w.links w.stack in
      let here = live_apart w.links w.stack l f x m in
      lengthened_same n (put_mini w last) p (taken_frees w.stack f) (omega (arith, l, taken_long w.links w.stack, length-set (links_taken w.links w.stack) last p)) x m here
      ∙ get_or-set_other (links_taken w.links w.stack) last x p FREE d ∙ taken_same w.links w.stack x here

-- what each call leaves
module _ (s z : State) where
  pub writes_table : (h i : ℕ) (ys : List ℕ) (r : Result (Unit {0}) Refused) → Writes s h i ys r z → z.links ≡ s.links
  writes_table h i ys (Ok u) w = w.1
  writes_table h i ys (Err f) w = ap (λ (x : State). x.links) w

  module _ (t : Tidy s) (k : ℕ) where
    live : (x : ℕ) → In x (path_of s.links k) → at s.links x ≢ FREE
    live x i = (used (at s.links) k x _ (on_head s.links t.few k x i).path i).0

    frees : Frees s.links s.stack
    frees p i = (t.kept.stacks.free p i).1

    pub begins_same : (most layer n h : ℕ) → BeginsChain most layer s n (Ok h) z → Same s z k
    begins_same most layer n h b x i =
        let w = took_mini (web_of b.0 s.links s.stack) in
        let d = live_apart s.links s.links s.stack (omega arith) frees x (live x i) in
        let e : x ≢ h = λ q. d (q ∙ b.2) in
        ap (λ (v : Web). at v.links x) b.4
        ∙ lengthened_same s.links (n - 1) w h (taken_frees s.links s.stack frees) (taken_long s.links s.links s.stack) x (live x i) e
        ∙ taken_same s.links s.links s.stack x d

    module _ (h : ℕ) (there : 0 < length (path_of s.links h)) (n : k ≢ h) where
      off : (x : ℕ) → In x (path_of s.links k) → In x (path_of s.links h) → ⊥
      off x i j = apart_from s t h k x n i j

      way : Path (at s.links) h (path_of s.links h)
      way = (path_headed s.links t.few h there).path

      pub extends_same : (most layer m : ℕ) (r : Result (Unit {0}) Refused) → ExtendsChain most layer s h m r z → Same s z k
      extends_same most layer m (Ok u) b x i =
          let last = last_or 0 (path_of s.links h) in
          let e : x ≢ last = λ q. off x i (rw q (last_in 0 (path_of s.links h) there)) in
          ap (λ (v : Web). at v.links x) b.3 ∙ lengthened_same s.links m (web_of b.0 s.links s.stack) last frees (omega arith) x (live x i) e
      extends_same most layer m (Err f) b x i = ap (λ (y : State). at y.links x) b

      trims_same : (layer x : ℕ) (y : State) → at y.links x ≡ at s.links x → TrimsTo layer y z → at z.links x ≡ at s.links x
      trims_same layer x y e w = ap (λ L. at L x) w.0.0 ∙ ap (λ (f : ℕ → ℕ). f x) (trimmed_same y.links) ∙ e

      pub cuts_same : (layer m : ℕ) (r : Result (Unit {0}) Refused) → m ≢ 0 → CutsChain layer s h m r z → Same s z k
      cuts_same layer m (Ok u) some b x i =
          trims_same layer x b.0 (ap (λ (v : Web). at v.links x) b.2 ∙ shortened_same m (web_in s) h (path_of s.links h) way some x (off x i)) b.3
      cuts_same layer m (Err f) some b x i = ap (λ (y : State). at y.links x) b

      pub frees_same : (layer : ℕ) (r : Result (Unit {0}) Refused) → FreesChain layer s h r z → Same s z k
      frees_same layer (Ok u) b x i =
          trims_same layer x b.0 (ap (λ (v : Web). at v.links x) b.2 ∙ released_same (length (path_of s.links h)) (web_in s) h (path_of s.links h) way refl x (off x i)) b.3
      frees_same layer (Err f) b x i = ap (λ (y : State). at y.links x) b
