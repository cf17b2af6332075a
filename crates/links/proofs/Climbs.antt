-- A place from which the pointers lead to END is on the chain of a head.
-- Assumes nothing.
use Rattle.std.proofs.Common.{◌≡◌, ℕ, zero, suc, ◌+◌, ◌<◌, ◌≤◌, true, eqb, ltb, ◌↔◌, List, [], ◌∷◌, length, sym, refl, ◌∙◌, inl, inr, ⊎_elim, arith}
use Rattle.std.proofs.lemmas.Bool.{cases_Bool, eq-eqb, eqb-true, ltb-true, or_cases}
use Rattle.links.specs.Links.{END, POINTERS, at, In, Path, Head, OnChain}
use Rattle.links.specs.Walk.{stop, trace, holds}
use Rattle.links.proofs.Counts.{inside, path_short}
use Rattle.links.proofs.Paths.{onward, used}
use Rattle.links.proofs.Traces.{trace-path, path-trace, none-holds, Whole, met_some, met_none}

holder : (L : List ℕ) (p : ℕ) → holds p L ≡ true → (q : ℕ) × (q < length L) × (at L q ≡ p)
holder [] p h = absurd (let z : ◌≡◌ {A = ℕ} 0 1 = cc in omega arith)
holder (x ∷ L) p h = ⊎_elim (λ e. (0, omega arith, eqb-true x p e)) (λ e. let r = holder L p e in (suc r.0, omega arith, r.2)) (or_cases (eqb x p) _ h)

-- up against the pointers: the path grows by one place at each step, and is never longer than the table
climb : (L : List ℕ) → length L ≤ 4096 → (m p : ℕ) (ps : List ℕ) → Path (at L) p ps → p < POINTERS → length L < m + length ps → (x : ℕ) → In x ps
    → (h : ℕ) × (qs : List ℕ) × Head (at L) h qs × In x qs
climb L few zero p ps k l s x i = absurd (omega (arith, path_short L p ps k))
climb L few (suc m) p ps k l s x i = ⊎_elim
    (λ t. let r = holder L p t in
    climb L few m r.0 (r.0 ∷ ps) (refl, omega arith, rw r.2 k) (omega arith) (omega arith) x (inr i))
    (λ t. (p, ps, record { place = l; first = none-holds L p l t; path = k }, i))
    (cases_Bool (holds p L))

pub on_chain : (L : List ℕ) (p : ℕ) → length L ≤ 4096 → ((p < length L) × (stop (length L) L p ≡ END)) ↔ OnChain (at L) p
on_chain L p few = (up, down)
  where
    up : (p < length L) × (stop (length L) L p ≡ END) → OnChain (at L) p
    up h = go (trace (length L) L p) (trace-path L (omega (arith, few)) (length L) p h.1)
      where
        go : (ps : List ℕ) → Path (at L) p ps → OnChain (at L) p
        go [] k = absurd (omega arith)
        go (q ∷ ps) k = climb L few (suc (length L)) p (q ∷ ps) k k.1 (omega arith) p (inl (sym k.0))

    down : OnChain (at L) p → (p < length L) × (stop (length L) L p ≡ END)
    down h =
        let r = onward (at L) h.0 p h.1 h.2.path h.3 in
        let short = path_short L h.0 h.1 h.2.path in
        (inside L p (used (at L) h.0 p h.1 h.2.path h.3).0, (path-trace L (omega (arith, few)) (length L) p r.0 r.1 (omega (arith, r.2))).1)

-- the same, of a walk as long as the table
module _ (L : List ℕ) (few : length L ≤ 4096) (p n s : ℕ) (w : Whole L p n s) where
  pub chained_some : 0 < n → (eqb s END ≡ true) ↔ OnChain (at L) p
  chained_some l =
      let r = on_chain L p few in (
        λ e. r.0 (met_some L p n s w (omega arith), sym w.stops ∙ eqb-true s END e),
        λ h. eq-eqb s END (w.stops ∙ (r.1 h).1),
      )

  pub chained_none : n ≤ 0 → (ltb 0 n ≡ true) ↔ OnChain (at L) p
  chained_none l = (
    λ e. absurd (omega (arith, ltb-true 0 n e)),
    λ h. absurd (omega (arith, met_none L p n s w (omega arith), ((on_chain L p few).1 h).0)),
  )
