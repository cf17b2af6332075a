-- The check: the steps of its loop, and that it accepts exactly the checked tables.
-- Assumes nothing.
use Rattle.std.proofs.Common.{◌≡◌, ℕ, ◌+◌, ◌<◌, ◌≤◌, Bool, true, false, cond, ◌||◌, eqb, ◌≢◌, ◌↔◌, List, length, get_or, take, set, replicate, Some, None, Ok, Err, Result, sym, refl, ap, ◌∙◌, ⊎_elim, arith}
use Rattle.std.proofs.lemmas.List.{get_or-replicate, get_or-set_same, get_or-set_other, get_or-take, get_or_past, length-take, length-set, take_more}
use Rattle.std.proofs.lemmas.Bool.{cases_Bool, cases_eq, cases_lt, cases_order, eq-eqb, ne_eqb, lt-ltb, le-ltb, or_right}
use Rattle.std.proofs.lemmas.List.Recursion.{or_push}
use Rattle.std.proofs.Math.Bool.{or-false}
use Rattle.links.specs.declared.checks.LinkFault.{LinkFault}
use Rattle.links.specs.declared.checks.LinkFault.TheVariants.{Dangling, Shared}
use Rattle.links.specs.Check.{place_of, fault_at, settled, verdict, Lowest}
use Rattle.links.specs.Links.{FREE, POINTERS, at, Checked}
use Rattle.links.specs.Walk.{holds}
use Rattle.links.proofs.Counts.{inside}
use Rattle.links.proofs.Searches.{none_first, first_none, first_some, none_settled}
use Rattle.links.proofs.Traces.{none-holds, holds-none}

module _ (L : List ℕ) (p v : ℕ) (pointer : v < POINTERS) where
  -- v was met before p
  met_yes : (q : ℕ) → q < p → at L q ≡ v → holds v (take p L) ≡ true
  met_yes q l e = ⊎_elim (λ t. t)
      (λ t. absurd (none-holds (take p L) v pointer t q (get_or-take p L q FREE l ∙ e))) (cases_Bool (holds v (take p L)))

  met_no : ((q : ℕ) → q < p → at L q ≢ v) → holds v (take p L) ≡ false
  met_no h = holds-none (take p L) v (λ q e. ⊎_elim (λ l. h q l (sym (get_or-take p L q FREE l) ∙ e))
      (λ l. let f = get_or_past (take p L) q FREE (omega (arith, length-take p L)) in omega arith) (cases_lt q p))

module _ (L : List ℕ) (p : ℕ) where
  -- which fault a place has
  pub fault-none : POINTERS ≤ at L p → fault_at L p ≡ None
  fault-none l = rw (le-ltb (at L p) POINTERS l)

  pub fault_dangling : (v w : ℕ) → v ≡ at L p → v < POINTERS → w ≡ at L v → w ≡ FREE → fault_at L p ≡ Some (Dangling p)
  fault_dangling v w here l there e = rw (lt-ltb (at L p) POINTERS (omega arith), eq-eqb (at L (at L p)) FREE (ap (at L) (sym here) ∙ sym there ∙ e))

  fault_met : (t : Bool) → at L p < POINTERS → at L (at L p) ≢ FREE → holds (at L p) (take p L) ≡ t → fault_at L p ≡ cond t (Some (Shared p)) None
  fault_met t l n e = rw (lt-ltb (at L p) POINTERS l, ne_eqb (at L (at L p)) FREE n, e)

  fault_leads : at L p < POINTERS → fault_at L p ≡ None → at L (at L p) ≢ FREE
  fault_leads l e f = let d = fault_dangling _ _ refl l refl f in let z : ◌≡◌ {A = ℕ} 0 1 = cc in omega arith

  fault-fresh : at L p < POINTERS → fault_at L p ≡ None → holds (at L p) (take p L) ≡ true → ⊥
  fault-fresh l e t = let d = fault_met true l (fault_leads l e) t in let z : ◌≡◌ {A = ℕ} 0 1 = cc in omega arith

pub lowest_verdict : (L : List ℕ) (r : Result Unit LinkFault) → Lowest L r → r ≡ verdict L
lowest_verdict L (Ok u) h = ap (λ o. settled o tt) (sym (first_none (fault_at L) (length L) 0 (λ k l. h k (omega arith))))
lowest_verdict L (Err f) h = ap (λ o. settled o tt) (sym (first_some (fault_at L) (length L) 0 (place_of f) f (omega arith) (omega arith) h.1 h.2))

-- a table is accepted exactly if it is checked
clean_checked : (L : List ℕ) → ((k : ℕ) → k < length L → fault_at L k ≡ None) → Checked (at L)
clean_checked L h = record {
  leads = λ p l. fault_leads L p l (h p (inside L p (omega arith)));
  apart = λ p q l e. ⊎_elim (λ s. s) (⊎_elim
      (λ s. absurd (fault-fresh L q (omega arith) (h q (inside L q (omega arith))) (met_yes L q (at L q) (omega arith) p s e)))
      (λ s. absurd (fault-fresh L p l (h p (inside L p (omega arith))) (met_yes L p (at L p) l q s (sym e))))) (cases_order p q);
}

checked_clean : (L : List ℕ) → Checked (at L) → (p : ℕ) → fault_at L p ≡ None
checked_clean L c p = ⊎_elim
    (λ l. fault_met L p false l (c.leads p l) (met_no L p (at L p) l (λ q i e. omega (arith, c.apart p q l (sym e)))))
    (fault-none L p) (cases_lt (at L p) POINTERS)

pub decides : (L : List ℕ) → (verdict L ≡ Ok tt) ↔ Checked (at L)
decides L = (
  λ e. clean_checked L (λ k l. none_first (fault_at L) (length L) 0 (none_settled _ tt tt e).0 k (omega arith) (omega arith)),
  λ c. sym (lowest_verdict L (Ok tt) (λ p l. checked_clean L c p)),
)

-- where the check has come to: no place below p has a fault, and the marks are the pointers met below p
pub record Looked (L : List ℕ) (p : ℕ) (met : List Bool) : Type 0 where
  pub clean : (k : ℕ) → k < p → fault_at L k ≡ None
  pub size : length met ≡ 4096
  pub marks : (k : ℕ) → k < 4096 → get_or met k false ≡ holds k (take p L)

pub looked_none : (L : List ℕ) → Looked L 0 (replicate 4096 false)
looked_none L = record { clean = λ k l. absurd (omega arith); size = refl; marks = λ k l. get_or-replicate 4096 k false false l }

clean_more : (L : List ℕ) (p : ℕ) → ((k : ℕ) → k < p → fault_at L k ≡ None) → fault_at L p ≡ None → (k : ℕ) → k < p + 1 → fault_at L k ≡ None
clean_more L p h e k l = ⊎_elim (λ (s : k ≡ p). ap (fault_at L) s ∙ e) (λ s. h k (omega arith)) (cases_eq k p)

met_more : (L : List ℕ) (p k : ℕ) → p < length L → holds k (take (p + 1) L) ≡ (holds k (take p L) || eqb (at L p) k)
met_more L p k i = ap (holds k) (take_more L p FREE i) ∙ or_push (holds k) (λ x. eqb x k) refl (λ x xs. refl) (take p L) (at L p)

met_same : (L : List ℕ) (p k : ℕ) → p < length L → at L p ≢ k → holds k (take (p + 1) L) ≡ holds k (take p L)
met_same L p k i n = met_more L p k i ∙ rw (ne_eqb (at L p) k n) (or-false (holds k (take p L)))

pub looked_skip : (L : List ℕ) (p : ℕ) (met : List Bool) → p < length L → Looked L p met → POINTERS ≤ at L p → Looked L (p + 1) met
looked_skip L p met i h l = record {
  clean = clean_more L p h.clean (fault-none L p l);
  size = h.size;
  marks = λ k s. h.marks k s ∙ sym (met_same L p k i (omega arith));
}

-- the check has come to a place whose link v is a pointer to a link w that is not FREE
pub record Pointing (L : List ℕ) (p v w : ℕ) (met : List Bool) : Type 0 where
  pub inner : p < length L
  pub few : length L ≤ 4096
  pub looked : Looked L p met
  pub here : v ≡ at L p
  pub pointer : v < POINTERS
  pub there : w ≡ at L v
  pub leads : w ≢ FREE

module _ (L : List ℕ) (p v w : ℕ) (met : List Bool) (h : Pointing L p v w met) where
  to_live : at L v ≢ FREE
  to_live e = h.leads (h.there ∙ e)

  pub marked : v < 4096
  marked = omega (arith, h.few, inside L v to_live)

  fault_marked : fault_at L p ≡ cond (get_or met v false) (Some (Shared p)) None
  fault_marked =
      fault_met L p _ (omega (arith, h.here, h.pointer)) (λ e. to_live (ap (at L) h.here ∙ e))
      (ap (λ x. holds x (take p L)) (sym h.here) ∙ sym (h.looked.marks v marked))

  pub fault_shared : get_or met v false ≡ true → fault_at L p ≡ Some (Shared p)
  fault_shared e = rw e at fault_marked

  pub looked_mark : get_or met v false ≡ false → Looked L (p + 1) (set met v true)
  looked_mark e = record {
    clean = clean_more L p h.looked.clean (rw e at fault_marked);
    size = length-set met v true ∙ h.looked.size;
    marks = λ k s. ⊎_elim
        (λ (q : k ≡ v). rw q (get_or-set_same met v true false (omega (arith, h.looked.size, marked)) ∙ sym new))
        (λ n. get_or-set_other met v k true false n ∙ h.looked.marks k s ∙ sym (met_same L p k h.inner (λ q. n (sym (h.here ∙ q))))) (cases_eq k v);
  }
    where
      new : holds v (take (p + 1) L) ≡ true
      new = met_more L p v h.inner ∙ or_right (holds v (take p L)) _ (eq-eqb (at L p) v (sym h.here))

-- what the check answers at the place that it has come to
pub refused : (L : List ℕ) (p : ℕ) (met : List Bool) (f : LinkFault) → Looked L p met → p < length L → place_of f ≡ p → fault_at L p ≡ Some f → Lowest L (Err f)
refused L p met f h i q e = rw q (i, e, h.clean)
