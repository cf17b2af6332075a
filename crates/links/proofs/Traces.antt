-- A walk computes the path, and a test decides what is a head.
-- Assumes nothing.
use Rattle.std.proofs.Common.{◌≡◌, ℕ, zero, suc, ◌+◌, ◌-◌, ◌<◌, ◌≤◌, min, Bool, true, false, cond, not, eqb, ltb, ◌≢◌, ◌||◌, ◌⊎◌, ◌↔◌, List, [], ◌∷◌, length, Some, None, Option, sym, refl, ap, ◌∙◌, inl, inr, ⊎_elim, arith}
use Rattle.std.specs.List.{slice_get, fold, range_with_len}
use Rattle.std.specs.Bool.{then_some}
use Rattle.std.specs.Option.{option_map}
use Rattle.std.proofs.Math.Bool.{or_assoc, or-false}
use Rattle.std.proofs.lemmas.Bool.{cases_lt, and_left, and_right, not_from_true, eqb-true, eqb-false, eq-eqb, ne_eqb, ltb-true, lt-ltb, le-ltb, and_parts, and_from, or_parts, or_from, not-true, not_from_false}
use Rattle.links.specs.Links.{END, POINTERS, at, Path, Head, Units}
use Rattle.links.specs.declared.walks.Surveyed.{Surveyed}
use Rattle.links.specs.Walk.{stop, trace, last_or, reach, holds, headed, chain_of, surveyed}
use Rattle.links.proofs.Counts.{inside, path_short}
use Rattle.links.proofs.Lookups.{some_link}
use Rattle.links.proofs.Paths.{used}

-- a table that has no place from END on
module _ (L : List ℕ) (few : length L ≤ POINTERS) where
  pub trace-path : (m v : ℕ) → stop m L v ≡ END → Path (at L) v (trace m L v)
  trace-path zero v h = h
  trace-path (suc m) v h = go (trace-path m (at L v)) (ltb v (length L)) refl h
    where
      go : (stop m L (at L v) ≡ END → Path (at L) (at L v) (trace m L (at L v))) → (t : Bool) → ltb v (length L) ≡ t
          → cond t (stop m L (at L v)) v ≡ END → Path (at L) v (cond t (v ∷ trace m L (at L v)) [])
      go r true e k = (refl, omega (arith, ltb-true v (length L) e), r k)
      go r false e k = k

  pub path-trace : (m v : ℕ) (ps : List ℕ) → Path (at L) v ps → length ps ≤ m → (trace m L v ≡ ps) × (stop m L v ≡ END)
  path-trace zero v [] h l = (refl, h)
  path-trace zero v (p ∷ ps) h l = absurd (omega arith)
  path-trace (suc m) v [] h l = rw (le-ltb v (length L) (omega arith)) (refl, h)
  path-trace (suc m) v (p ∷ ps) h l =
      let r = path-trace m (at L v) ps h.2 (omega arith) in
      let i = inside L v (used (at L) v v (p ∷ ps) h (inl (sym h.0))).0 in
      rw (lt-ltb v (length L) i) (cc, r.1)

pub none-holds : (L : List ℕ) (p : ℕ) → p < POINTERS → holds p L ≡ false → (q : ℕ) → at L q ≢ p
none-holds [] p l h q e = omega arith
none-holds (x ∷ L) p l h zero e = eqb-false x p (or_parts _ _ h).0 e
none-holds (x ∷ L) p l h (suc q) e = none-holds L p l (or_parts (eqb x p) _ h).1 q e

pub holds-none : (L : List ℕ) (p : ℕ) → ((q : ℕ) → at L q ≢ p) → holds p L ≡ false
holds-none [] p h = refl
holds-none (x ∷ L) p h = or_from _ _ (ne_eqb x p (h 0)) (holds-none L p (λ q. h (suc q)))

module _ (L : List ℕ) (few : length L ≤ 4096) (p : ℕ) where
  headed_head : headed L p ≡ true → Head (at L) p (trace (length L) L p)
  headed_head h =
      let r = and_parts _ (not (holds p L)) h in
      let s = and_parts (ltb p (length L)) _ r.0 in
      let l : p < POINTERS = omega (arith, ltb-true p (length L) s.0) in
      record { place = l; first = none-holds L p l (not-true (holds p L) r.1); path = trace-path L (omega (arith, few)) (length L) p (eqb-true _ END s.1) }

  head_headed : (ps : List ℕ) → Head (at L) p ps → (headed L p ≡ true) × (trace (length L) L p ≡ ps)
  head_headed ps h =
      let r = path-trace L (omega (arith, few)) (length L) p ps h.path (path_short L p ps h.path) in
      (and_from _ _ (and_from _ _ (lt-ltb p (length L) (below ps h)) (eq-eqb _ END r.1)) (not_from_false _ (holds-none L p h.first)), r.0)
    where
      below : (ps : List ℕ) → Head (at L) p ps → p < length L
      below [] k = absurd (omega (arith, k.place, k.path))
      below (x ∷ xs) k = inside L p (used (at L) p p (x ∷ xs) k.path (inl (sym k.path.0))).0

  pub chain_head : (ps : List ℕ) → (chain_of L p ≡ Some ps) ↔ Head (at L) p ps
  chain_head ps = (λ e. go (headed L p) refl e, λ h. let r = head_headed ps h in rw r.0 (ap Some r.1))
    where
      go : (t : Bool) → headed L p ≡ t → cond t (Some (trace (length L) L p)) None ≡ Some ps → Head (at L) p ps
      go true e k = let s : trace (length L) L p ≡ ps = cc in rw s at (headed_head e)
      go false e k = absurd (let z : ◌≡◌ {A = ℕ} 0 1 = cc in omega arith)

-- one step of a walk
walk_more : (m : ℕ) (L : List ℕ) (v : ℕ) → v < length L
    → (stop (suc m) L v ≡ stop m L (at L v)) × (length (trace (suc m) L v) ≡ suc (length (trace m L (at L v))))
walk_more m L v l = rw (lt-ltb v (length L) l) (refl, refl)

last_more : (m : ℕ) (L : List ℕ) (v w : ℕ) → v < length L → last_or w (trace (suc m) L v) ≡ last_or v (trace m L (at L v))
last_more m L v w l = rw (lt-ltb v (length L) l)

-- a walk from where there is no link
walk_past : (m : ℕ) (L : List ℕ) (v : ℕ) → length L ≤ v → (stop m L v ≡ v) × (trace m L v ≡ [])
walk_past zero L v l = (refl, refl)
walk_past (suc m) L v l = rw (le-ltb v (length L) l) (refl, refl)

-- what is left of a walk of at most `most` steps, after `done` of them, at the link v and behind the place w: it stops at s,
-- n places are met in all, and z is the last of them
pub record Left (L : List ℕ) (most done v w s n z : ℕ) : Type 0 where
  pub some : done ≤ most
  pub stops : stop (most - done) L v ≡ s
  pub meets : done + length (trace (most - done) L v) ≡ n
  pub ends : last_or w (trace (most - done) L v) ≡ z

pub left_more : (L : List ℕ) (most done v w next s n z : ℕ) → done < most → Some next ≡ slice_get L v → Left L most done v w s n z
    → Left L most (done + 1) next v s n z
left_more L most done v w next s n z l e h =
    let f = some_link L v next e in
    let k : most - done ≡ suc (most - (done + 1)) = omega arith in
    let m = walk_more (most - (done + 1)) L v f.0 in
    record {
      some = omega arith;
      stops = rw f.1 (sym m.0 ∙ rw k at h.stops);
      meets = rw f.1 (omega (arith, m.1, rw k at h.meets));
      ends = rw f.1 (sym (last_more (most - (done + 1)) L v w f.0) ∙ rw k at h.ends);
    }

-- a link is found by going over all places
fold_from : (p a : ℕ) (f : ℕ → ℕ) (L : List ℕ) (b : Bool) → ((k : ℕ) → f (a + k) ≡ at L k)
    → fold (λ met k. met || eqb (f k) p) b (range_with_len a (length L)) ≡ b || holds p L
fold_from p a f [] b h = sym (or-false b)
fold_from p a f (x ∷ L) b h =
    ap (λ y. fold (λ met k. met || eqb (f k) p) (b || eqb y p) (range_with_len (a + 1) (length L))) (ap f (omega arith) ∙ h 0)
    ∙ fold_from p (a + 1) f L (b || eqb x p) (λ k. ap f (omega arith) ∙ h (suc k))
    ∙ or_assoc b (eqb x p) (holds p L)

pub fold_at : (L : List ℕ) (p : ℕ) → fold (λ met k. met || eqb (at L k) p) false (range_with_len 0 (length L)) ≡ holds p L
fold_at L p = fold_from p 0 (at L) L false (λ k. ap (at L) (omega arith))

-- a walk from p as long as the table met n places and stopped at s
pub record Whole (L : List ℕ) (p n s : ℕ) : Type 0 where
  pub places : n ≡ length (trace (length L) L p)
  pub stops : s ≡ stop (length L) L p

pub whole : (L : List ℕ) (m p n s : ℕ) → m ≡ length L → n ≡ length (trace m L p) → s ≡ stop m L p → Whole L p n s
whole L m p n s e a b = record { places = a ∙ ap (λ k. length (trace k L p)) e; stops = b ∙ ap (λ k. stop k L p) e }

module _ (L : List ℕ) (p n s : ℕ) (w : Whole L p n s) where
  pub met_some : n ≢ 0 → p < length L
  met_some h = ⊎_elim (λ l. l) (λ l. absurd (h (w.places ∙ ap length (walk_past (length L) L p l).1))) (cases_lt p (length L))

  pub met_none : n ≡ 0 → length L ≤ p
  met_none h = ⊎_elim (λ l. absurd (go (length L) refl l)) (λ l. l) (cases_lt p (length L))
    where
      go : (m : ℕ) → length L ≡ m → p < length L → ⊥
      go zero e l = omega arith
      go (suc m) e l = let k = (walk_more m L p l).1 in let q : n ≡ length (trace (suc m) L p) = w.places ∙ ap (λ k. length (trace k L p)) e in omega arith

  no_head : headed L p ≡ false → None ≡ option_map length (chain_of L p)
  no_head e = rw e

  pub units_none : (n ≡ 0) ⊎ ((s ≢ END) ⊎ (true ≡ holds p L)) → None ≡ option_map length (chain_of L p)
  units_none (inl e) = no_head (and_left _ _ (and_left _ _ (le-ltb p (length L) (met_none e))))
  units_none (inr (inl e)) = no_head (and_left _ _ (and_right _ _ (ne_eqb _ END (λ h. e (w.stops ∙ h)))))
  units_none (inr (inr e)) = no_head (and_right _ _ (not_from_true _ (sym e)))

  pub is_headed : n ≢ 0 → s ≡ END → false ≡ holds p L → headed L p ≡ true
  is_headed h e k = and_from _ _ (and_from _ _ (lt-ltb p (length L) (met_some h)) (eq-eqb _ END (sym w.stops ∙ e))) (not_from_false _ (sym k))

pub trace_short : (m : ℕ) (L : List ℕ) (v : ℕ) → length (trace m L v) ≤ m
trace_short zero L v = omega arith
trace_short (suc m) L v = go (trace_short m L (at L v)) (ltb v (length L))
  where
    go : length (trace m L (at L v)) ≤ m → (t : Bool) → length (cond t (v ∷ trace m L (at L v)) []) ≤ suc m
    go r true = omega arith
    go r false = omega arith

-- a walk of m steps is one of r steps, and then one of what is left
record Split (L : List ℕ) (v d r m : ℕ) : Type 0 where
  left : ℕ
  sum : m ≡ length (trace r L v) + left
  places : length (trace m L v) ≡ length (trace r L v) + length (trace left L (stop r L v))
  stops : stop m L v ≡ stop left L (stop r L v)
  here : reach d (trace m L v) r ≡ cond (eqb (length (trace left L (stop r L v))) 0) (last_or d (trace r L v)) (stop r L v)

split : (L : List ℕ) (r m v d : ℕ) → r ≤ m → Split L v d r m
split L zero m v d l = record { left = m; sum = omega arith; places = omega arith; stops = refl; here = go m (cases_lt v (length L)) }
  where
    go : (m : ℕ) → (v < length L) ⊎ (length L ≤ v) → reach d (trace m L v) 0 ≡ cond (eqb (length (trace m L v)) 0) d v
    go zero i = refl
    go (suc m) (inl i) = rw (lt-ltb v (length L) i) (rw (ne_eqb (suc (length (trace m L (at L v)))) 0 (λ e. omega arith)))
    go (suc m) (inr i) = rw (le-ltb v (length L) i)
split L (suc r) zero v d l = absurd (omega arith)
split L (suc r) (suc m) v d l = go (split L r m (at L v) v (omega arith)) (cases_lt v (length L))
  where
    go : Split L (at L v) v r m → (v < length L) ⊎ (length L ≤ v) → Split L v d (suc r) (suc m)
    go s (inl i) =
        let e = lt-ltb v (length L) i in
        let q = s.sum in
        let h = s.places in
        record { left = s.left; sum = rw e (omega arith); places = rw e (omega arith); stops = rw e s.stops; here = rw e s.here }
    go s (inr i) =
        let e = le-ltb v (length L) i in
        record { left = suc m; sum = rw e (omega arith); places = rw e (rw e); stops = rw e (rw e); here = rw e (rw e) }

-- the two walks of a survey: n and k places, that stop at v and at s, the first of them last at w
pub record Surveying (L : List ℕ) (p r n v w k s : ℕ) : Type 0 where
  pub whole : Whole L p (n + k) s
  pub short : n + k ≤ length L
  pub here : reach p (trace (length L) L p) r ≡ cond (eqb k 0) w v

reach_far : (d : ℕ) (xs : List ℕ) (r m : ℕ) → length xs ≤ m → m ≤ r → reach d xs r ≡ reach d xs m
reach_far d [] r m l n = refl
reach_far d (x ∷ xs) zero m l n = absurd (omega arith)
reach_far d (x ∷ xs) (suc r) zero l n = absurd (omega arith)
reach_far d (x ∷ xs) (suc r) (suc m) l n = reach_far x xs r m (omega arith) (omega arith)

reach_some : (d e : ℕ) (xs : List ℕ) (r : ℕ) → 0 < length xs → reach d xs r ≡ reach e xs r
reach_some d e [] r l = absurd (omega arith)
reach_some d e (x ∷ xs) zero l = refl
reach_some d e (x ∷ xs) (suc r) l = refl

survey_at : (L : List ℕ) (p r m : ℕ) → m ≡ min r (length L)
    → Surveying L p r (length (trace m L p)) (stop m L p) (last_or p (trace m L p))
    (length (trace (length L - length (trace m L p)) L (stop m L p))) (stop (length L - length (trace m L p)) L (stop m L p))
survey_at L p r m e =
    let t = split L m (length L) p p (omega arith) in
    let left : t.left ≡ length L - length (trace m L p) = omega (arith, t.sum) in
    let short = trace_short (length L) L p in
    record {
      whole = record { places = rw (sym left) (sym t.places); stops = rw (sym left) (sym t.stops) };
      short = rw (sym left) (omega (arith, t.places));
      here = ⊎_elim (λ l. ap (reach p (trace (length L) L p)) (omega arith)) (λ l. reach_far p _ r m (omega arith) (omega arith)) (cases_lt r (length L))
          ∙ rw (sym left) t.here;
    }

pub surveying : (L : List ℕ) (p r c m n v w k s : ℕ) → c ≡ length L → m ≡ min r c → n ≡ length (trace m L p) → v ≡ stop m L p → w ≡ last_or p (trace m L p)
    → k ≡ length (trace (c - n) L v) → s ≡ stop (c - n) L v → Surveying L p r n v w k s
surveying L p r c m n v w k s ec em en ev ew ek es = rw (ek, es, en, ev, ew, ec) (survey_at L p r m (rw ec at em))

module _ (L : List ℕ) (p r n v w k s : ℕ) (t : Surveying L p r n v w k s) where
  pub survey_none : (n + k ≡ 0) ⊎ ((s ≢ END) ⊎ (true ≡ holds p L)) → None ≡ surveyed (chain_of L p) r
  survey_none h = go (chain_of L p) (units_none L p (n + k) s t.whole h)
    where
      go : (o : Option (List ℕ)) → None ≡ option_map length o → None ≡ surveyed o r
      go None e = refl
      go (Some ps) e = absurd (let z : ◌≡◌ {A = ℕ} 0 1 = cc in omega arith)

  module _ (h : n + k ≢ 0) (e : s ≡ END) (f : false ≡ holds p L) where
    survey_some : (x : ℕ) → cond (eqb k 0) w v ≡ x → Some (record { units = n + k; place = x }) ≡ surveyed (chain_of L p) r
    survey_some x q =
        let b : headed L p ≡ true = is_headed L p (n + k) s t.whole h e f in
        let here = reach_some 0 p (trace (length L) L p) r (omega (arith, t.whole.places)) ∙ t.here ∙ q in
        rw b (ap Some (same (n + k) _ x _ t.whole.places (sym here)))
      where
        same : (a b x y : ℕ) → a ≡ b → x ≡ y → ◌≡◌ {A = Surveyed} (record { units = a; place = x }) (record { units = b; place = y })
        same a b x y e f = cc

    pub survey_last : k ≡ 0 → Some (record { units = n + k; place = w }) ≡ surveyed (chain_of L p) r
    survey_last q = survey_some w (rw (eq-eqb k 0 q))

    pub survey_here : k ≢ 0 → Some (record { units = n + k; place = v }) ≡ surveyed (chain_of L p) r
    survey_here q = survey_some v (rw (ne_eqb k 0 q))

-- the place at a rank: the stop of the walk that long, if it came so far and there is a link there
rank_past : (m j : ℕ) (L : List ℕ) (v : ℕ) → m ≤ j → slice_get (trace m L v) j ≡ None
rank_past zero j L v l = refl
rank_past (suc m) zero L v l = absurd (omega arith)
rank_past (suc m) (suc j) L v l = go (rank_past m j L (at L v) (omega arith)) (ltb v (length L))
  where
    go : slice_get (trace m L (at L v)) j ≡ None → (t : Bool) → slice_get (cond t (v ∷ trace m L (at L v)) []) (suc j) ≡ None
    go r true = r
    go r false = refl

rank_none : (m j : ℕ) (L : List ℕ) (v : ℕ) → (length (trace j L v) < j) ⊎ (length L ≤ stop j L v) → slice_get (trace m L v) j ≡ None
rank_none zero j L v h = refl
rank_none (suc m) zero L v h = rw (le-ltb v (length L) (⊎_elim (λ l. absurd (omega arith)) (λ l. l) h))
rank_none (suc m) (suc j) L v h = go (rank_none m j L (at L v)) (cases_lt v (length L)) h
  where
    go : ((length (trace j L (at L v)) < j) ⊎ (length L ≤ stop j L (at L v)) → slice_get (trace m L (at L v)) j ≡ None) → (v < length L) ⊎ (length L ≤ v)
        → (length (trace (suc j) L v) < suc j) ⊎ (length L ≤ stop (suc j) L v) → slice_get (trace (suc m) L v) (suc j) ≡ None
    go r (inl i) k = rw (lt-ltb v (length L) i) (r (⊎_elim (λ l. inl (omega (arith, (walk_more j L v i).1))) (λ l. inr (rw (walk_more j L v i).0 at l)) k))
    go r (inr i) k = rw (le-ltb v (length L) i)

rank_some : (m j : ℕ) (L : List ℕ) (v : ℕ) → length (trace j L v) ≡ j → stop j L v < length L → j < m → slice_get (trace m L v) j ≡ Some (stop j L v)
rank_some zero j L v e h l = absurd (omega arith)
rank_some (suc m) zero L v e h l = rw (lt-ltb v (length L) h)
rank_some (suc m) (suc j) L v e h l = go (rank_some m j L (at L v)) (cases_lt v (length L))
  where
    go : (length (trace j L (at L v)) ≡ j → stop j L (at L v) < length L → j < m → slice_get (trace m L (at L v)) j ≡ Some (stop j L (at L v)))
        → (v < length L) ⊎ (length L ≤ v) → slice_get (trace (suc m) L v) (suc j) ≡ Some (stop (suc j) L v)
    go r (inl i) =
        let w = walk_more j L v i in
        let t = lt-ltb v (length L) i in
        rw t (r (omega arith) (rw w.0 at h) (omega arith))
    go r (inr i) = absurd (omega (arith, ap length (walk_past (suc j) L v i).1))

-- the units of a chain as they are computed are those of a head as it is defined
pub units_means : (L : List ℕ) (p : ℕ) (r : Option ℕ) → length L ≤ 4096 → r ≡ option_map length (chain_of L p) → Units (at L) p r
units_means L p r few e = rw e (go (chain_of L p) (chain_head L few p))
  where
    go : (o : Option (List ℕ)) → ((ps : List ℕ) → (o ≡ Some ps) ↔ Head (at L) p ps) → Units (at L) p (option_map length o)
    go None h = λ k. let f = (h k.0).1 k.1 in let z : ◌≡◌ {A = ℕ} 0 1 = cc in omega arith
    go (Some ps) h = (ps, (h ps).0 refl, refl)

-- the same, of a walk of j steps that met n places and stopped at s
module _ (m j : ℕ) (L : List ℕ) (v n s : ℕ) (places : n ≡ length (trace j L v)) (stops : s ≡ stop j L v) where
  pub place_none : n ≢ j → None ≡ slice_get (trace m L v) j
  place_none h = sym (rank_none m j L v (inl (omega (arith, trace_short j L v))))

  pub place_met : n ≡ j → j < m → then_some (ltb s (length L)) s ≡ slice_get (trace m L v) j
  place_met e k = ⊎_elim
      (λ l. rw (lt-ltb s (length L) l) (ap Some stops ∙ sym (rank_some m j L v (omega arith) (omega arith) k)))
      (λ l. rw (le-ltb s (length L) l) (sym (rank_none m j L v (inr (omega arith))))) (cases_lt s (length L))

pub place_past : (m j : ℕ) (L : List ℕ) (v : ℕ) → m ≤ j → None ≡ slice_get (trace m L v) j
place_past m j L v l = sym (rank_past m j L v l)
