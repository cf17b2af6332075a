-- The units of a head's chain: there is one list of them, and it is the one that is computed.
-- Assumes nothing.
use Rattle.std.proofs.Common.{◌≡◌, ℕ, zero, suc, ◌+◌, ◌<◌, ◌≤◌, cond, ltb, ◌≢◌, List, [], ◌∷◌, ◌++◌, length, get_or, map, replicate, is_some, is_none, count_by, Some, None, Option, sym, refl, ap, ◌∙◌, inl, inr, ⊎_elim, arith}
use Rattle.std.specs.Bool.{then_some}
use Rattle.std.specs.List.{range_with_len, take_while}
use Rattle.std.proofs.lemmas.Option.{same_Some, none-some}
use Rattle.std.proofs.lemmas.List.{ext_get_or, get_or-map, length-map, get_or-replicate, get_or_past, length_push, get_or_push, get_or_append_left}
use Rattle.std.proofs.lemmas.List.Sums.{take_while-cons, sum_by-cons, count_by-le-length}
use Rattle.std.proofs.lemmas.Bool.{cases_lt, cases_order, lt-ltb}
use Rattle.links.specs.Links.{FREE, free, live, at, In, Apart}
use Rattle.links.proofs.Counts.{live_count}
use Rattle.cells.specs.declared.Cells.{Cells}
use Rattle.cells.specs.declared.Note.{Note}
use Rattle.cells.specs.Noted.{note_at, unit_at, ranks, followed, run, counted, path, Unique, Down, Named}
use Rattle.cells.proofs.Seeks.{note, inside, unit_found, unit_there}

pub record Sound (N : List (Option Note)) : Type 0 where
  pub counted : length N ≡ 64
  pub unique : Unique N
  pub down : Down N
  pub named : Named N

pub sound_of : (c : Cells) → Sound c.notes
sound_of c = record { counted = c.counted; unique = c.unique; down = c.down; named = c.named }

-- each of us notes h, and as rank its place
abbrev pub Ranked : List (Option Note) → ℕ → List ℕ → Type 0
Ranked N h us = (r : ℕ) → r < length us → note_at N (get_or us r 0) ≡ Some (note h r)

-- us are the units of the ranks 0, 1, .. of h, and there is none of the next rank
pub record IsPath (N : List (Option Note)) (h : ℕ) (us : List ℕ) : Type 0 where
  pub ranked : Ranked N h us
  pub done : (u : ℕ) → note_at N u ≡ Some (note h (length us)) → ⊥

-- no unit notes two heads, nor two ranks
pub one_note : (N : List (Option Note)) (u v h k r q : ℕ) → u ≡ v → note_at N u ≡ Some (note h r) → note_at N v ≡ Some (note k q) → (h ≡ k) × (r ≡ q)
one_note N u v h k r q s e f =
    let t = same_Some (note h r) (note k q) (sym e ∙ ap (note_at N) s ∙ f) in (ap (λ n. n.head) t, ap (λ n. n.rank) t)

module _ (N : List (Option Note)) (h : ℕ) where
  pub same_path : (us vs : List ℕ) → Unique N → IsPath N h us → IsPath N h vs → us ≡ vs
  same_path us vs once p q = ext_get_or 0 us vs long
      (λ i l. once _ _ (note h i) (p.ranked i l) (q.ranked i (omega (arith, long))))
    where
      long : length us ≡ length vs
      long = ⊎_elim (λ e. e) (⊎_elim
          (λ l. absurd (p.done _ (q.ranked (length us) l)))
          (λ l. absurd (q.done _ (p.ranked (length vs) l)))) (cases_order (length us) (length vs))

  -- the computed list, from a rank on and as far as its bound
  abbrev Ranks : ℕ → ℕ → Type 0
  Ranks n r = (i : ℕ) → i < length (run n N h r) → note_at N (get_or (run n N h r) i 0) ≡ Some (note h (r + i))

  run_ranked : (n r : ℕ) → Ranks n r
  unfolding run
  run_ranked zero r i l = absurd (omega arith)
  run_ranked (suc n) r i l = go (run_ranked n (suc r)) (unit_at N h r) refl i l
    where
      go : Ranks n (suc r) → (o : Option ℕ) → unit_at N h r ≡ o → (i : ℕ) → i < length (followed o (run n N h (suc r)))
          → note_at N (get_or (followed o (run n N h (suc r))) i 0) ≡ Some (note h (r + i))
      go rest None e i k = absurd (omega arith)
      go rest (Some u) e zero k = unit_found N h r u e ∙ ap (λ q. Some (note h q)) (omega arith)
      go rest (Some u) e (suc i) k = rest i (omega arith) ∙ ap (λ q. Some (note h q)) (omega arith)

  abbrev Ends : ℕ → ℕ → Type 0
  Ends n r = length (run n N h r) < n → (u : ℕ) → note_at N u ≡ Some (note h (r + length (run n N h r))) → ⊥

  run_done : (n r : ℕ) → Ends n r
  unfolding run
  run_done zero r l u e = omega arith
  run_done (suc n) r l u e = go (run_done n (suc r)) (unit_at N h r) refl l e
    where
      go : Ends n (suc r) → (o : Option ℕ) → unit_at N h r ≡ o → length (followed o (run n N h (suc r))) < suc n
          → note_at N u ≡ Some (note h (r + length (followed o (run n N h (suc r))))) → ⊥
      go rest None f k m = let v = unit_there N h r u (m ∙ ap (λ q. Some (note h q)) (omega arith)) in none-some v.0 (sym f ∙ v.1)
      go rest (Some v) f k m = rest (omega arith) u (m ∙ ap (λ q. Some (note h q)) (omega arith))

  run_short : (n r : ℕ) → length (run n N h r) ≤ n
  unfolding run
  run_short zero r = omega arith
  run_short (suc n) r = go (run_short n (suc r)) (unit_at N h r)
    where
      go : length (run n N h (suc r)) ≤ n → (o : Option ℕ) → length (followed o (run n N h (suc r))) ≤ suc n
      go k None = omega arith
      go k (Some u) = omega arith

-- where something stands in a list
pub place_of : (us : List ℕ) (x : ℕ) → In x us → (i : ℕ) × (i < length us) × (get_or us i 0 ≡ x)
place_of [] x i = absurd i
place_of (u ∷ us) x (inl e) = (0, omega arith, sym e)
place_of (u ∷ us) x (inr i) = let r = place_of us x i in (suc r.0, omega arith, r.2)

-- distinct at distinct places
apart_places : (us : List ℕ) → ((i j : ℕ) → i < length us → j < length us → get_or us i 0 ≡ get_or us j 0 → i ≡ j) → Apart us
apart_places [] h = tt
apart_places (u ∷ us) h = (none, apart_places us (λ i j k l e. omega (arith, h (suc i) (suc j) (omega arith) (omega arith) e)))
  where
    none : In u us → ⊥
    none i = let r = place_of us u i in omega (arith, h 0 (suc r.0) (omega arith) (omega arith) (sym r.2))

module _ (N : List (Option Note)) (h : ℕ) (us : List ℕ) (n : Ranked N h us) where
  pub ranked_apart : Apart us
  ranked_apart = apart_places us (λ i j k l e. (one_note N _ _ h h i j e (n i k) (n j l)).1)

  pub ranked_head : (x : ℕ) → In x us → (r : ℕ) × (note_at N x ≡ Some (note h r))
  ranked_head x i = let r = place_of us x i in (r.0, ap (note_at N) (sym r.2) ∙ n r.0 r.1)

-- the units as a table of links, FREE where a unit notes nothing
abbrev mark : Option Note → ℕ
mark None = FREE
mark (Some n) = 0

abbrev pub marked : List (Option Note) → List ℕ
marked N = map mark N

pub marked_live : (N : List (Option Note)) (u : ℕ) (n : Note) → note_at N u ≡ Some n → at (marked N) u ≢ FREE
marked_live N u n e f = omega (arith, sym (get_or-map mark N u None FREE (inside N u n e) ∙ ap mark e) ∙ f)

pub marked_free : (N : List (Option Note)) → count_by free (marked N) ≡ count_by is_none N
marked_free [] = refl
marked_free (o ∷ N) = rw (sum_by-cons (λ x. cond (free x) 1 0) (mark o) (marked N), sum_by-cons (λ x. cond (is_none x) 1 0) o N) (go o (marked_free N))
  where
    go : (o : Option Note) → count_by free (marked N) ≡ count_by is_none N → cond (free (mark o)) 1 0 + count_by free (marked N) ≡ cond (is_none o) 1 0 + count_by is_none N
    go None e = omega arith
    go (Some n) e = omega arith

pub length-marked : (N : List (Option Note)) → length (marked N) ≡ length N
length-marked N = length-map N mark

module _ (N : List (Option Note)) (h : ℕ) where
  -- no more units note a head than there are
  ranked_few : (us : List ℕ) → Ranked N h us → length us ≤ length N
  ranked_few us n = omega (
    arith,
    live_count (marked N) us (ranked_apart N h us n) (λ x i. let r = ranked_head N h us n x i in marked_live N x (note h r.0) r.1),
    count_by-le-length live (marked N),
    length-marked N,
  )

  pub path_short : length (path N h) ≤ length N
  unfolding path
  path_short = run_short N h (length N) 0

  -- a unit of the rank behind all others would be one more than there are
  full : (us : List ℕ) → length us ≡ length N → Ranked N h us → (u : ℕ) → note_at N u ≡ Some (note h (length N)) → ⊥
  full us l m u e =
      omega (
        arith,
        length_push us u,
        ranked_few (us ++ u ∷ []) (λ r i. ⊎_elim
            (λ j. rw (get_or_append_left us (u ∷ []) 0 r j) (m r j))
            (λ j. let s : length us ≡ r = omega (arith, length_push us u) in
            rw (get_or_push us u 0 r s) (e ∙ ap (λ q. Some (note h q)) (sym l ∙ s))) (cases_lt r (length us))),
      )

  run_is : IsPath N h (run (length N) N h 0)
  run_is = record {
    ranked = ranked;
    done = λ u e. ⊎_elim
        (λ l. run_done N h (length N) 0 l u (e ∙ ap (λ q. Some (note h q)) (omega arith)))
        (λ l. let s : length (run (length N) N h 0) ≡ length N = omega (arith, run_short N h (length N) 0) in
        full (run (length N) N h 0) s ranked u (e ∙ ap (λ q. Some (note h q)) s))
        (cases_lt (length (run (length N) N h 0)) (length N));
  }
    where
      ranked : Ranked N h (run (length N) N h 0)
      ranked r l = run_ranked N h (length N) 0 r l ∙ ap (λ q. Some (note h q)) (omega arith)

  pub path_is : IsPath N h (path N h)
  unfolding path
  path_is = run_is

  pub path_only : (us : List ℕ) → Unique N → IsPath N h us → path N h ≡ us
  path_only us once p = same_path N h (path N h) us once path_is p

  -- the ranks that a unit notes, from a rank on
  ranks-run : (n r : ℕ) → length (take_while (λ q. is_some (unit_at N h q)) (range_with_len r n)) ≡ length (run n N h r)
  unfolding run
  ranks-run zero r = refl
  ranks-run (suc n) r =
      let j : r + 1 ≡ suc r = omega arith in
      rw (take_while-cons (λ q. is_some (unit_at N h q)) r (range_with_len (r + 1) n), j) (go (ranks-run n (suc r)) (unit_at N h r))
    where
      go : length (take_while (λ q. is_some (unit_at N h q)) (range_with_len (suc r) n)) ≡ length (run n N h (suc r)) → (o : Option ℕ)
          → length (cond (is_some o) (r ∷ take_while (λ q. is_some (unit_at N h q)) (range_with_len (suc r) n)) []) ≡ length (followed o (run n N h (suc r)))
      go e None = refl
      go e (Some u) = ap suc e

  pub ranks-path : length N ≡ 64 → ranks N h ≡ length (path N h)
  unfolding path
  ranks-path e = ranks-run 64 0 ∙ ap (λ k. length (run k N h 0)) (sym e)

-- so many units, told as an option
pub some_counted : (us : List ℕ) (k : ℕ) → k ≡ length us → then_some (ltb 0 k) k ≡ counted us
some_counted [] k e = rw e refl
some_counted (u ∷ us) k e = rw (e, lt-ltb 0 (length (u ∷ us)) (omega arith)) refl

-- units of which none is on a chain
fresh_none : (u : ℕ) (n : Note) → note_at (replicate 64 None) u ≡ Some n → ⊥
fresh_none u n e = none-some n (⊎_elim (λ l. sym (get_or-replicate 64 u None None l)) (λ l. sym (get_or_past (replicate 64 None) u None l)) (cases_lt u 64) ∙ e)

pub fresh_sound : Sound (replicate 64 None)
fresh_sound = record {
  counted = refl;
  unique = λ u v n e f. absurd (fresh_none u n e);
  down = λ u h r e. absurd (fresh_none u (note h (r + 1)) e);
  named = λ u h e. absurd (fresh_none u (note h 0) e);
}

pub fresh_path : (h : ℕ) → path (replicate 64 None) h ≡ []
fresh_path h = path_only (replicate 64 None) h [] fresh_sound.unique (record { ranked = λ r l. absurd (omega arith); done = λ u e. fresh_none u (note h 0) e })
