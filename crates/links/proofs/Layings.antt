-- The FREE places of a table are laid on a stack.
-- Assumes nothing.
use Rattle.std.proofs.Common.{◌≡◌, ℕ, zero, suc, ◌+◌, ◌<◌, ◌≤◌, Bool, true, false, cond, ltb, ◌≢◌, List, [], ◌∷◌, ◌++◌, length, get_or, take, Ok, filter, sym, refl, ap, ◌∙◌, inl, inr, ⊎_elim, arith}
use Rattle.std.specs.List.{range_with_len}
use Rattle.std.proofs.lemmas.List.{append-nil, take_all, length-take}
use Rattle.std.proofs.lemmas.List.FromFn.{length-range_with_len, get_or-range_with_len}
use Rattle.std.proofs.lemmas.List.Elements.{filter_more}
use Rattle.std.proofs.lemmas.List.Sums.{count_by-le-length, length-filter}
use Rattle.std.proofs.lemmas.Bool.{cases_eq, lt-ltb, eqb-true, eq-eqb, ne_eqb}
use Rattle.links.specs.Links as links
use Rattle.links.specs.Links.{FREE, at, In, Apart, Checked}
use Rattle.links.specs.Check.{verdict}
use Rattle.links.specs.Stack.{free_places}
use Rattle.links.proofs.Verdicts.{decides}
use Rattle.links.proofs.Stacks.{Kept}
use Rattle.links.proofs.Filters.{in_kept, kept_in, apart_kept}

in_counting : (x a n : ℕ) → In x (range_with_len a n) → (a ≤ x) × (x < a + n)
in_counting x a zero i = absurd i
in_counting x a (suc n) (inl e) = (omega arith, omega arith)
in_counting x a (suc n) (inr i) = let r = in_counting x (a + 1) n i in (omega (arith, r.0), omega (arith, r.1))

counting_in : (x a n : ℕ) → a ≤ x → x < a + n → In x (range_with_len a n)
counting_in x a zero l h = absurd (omega arith)
counting_in x a (suc n) l h = ⊎_elim (λ e. inl e) (λ m. inr (counting_in x (a + 1) n (omega arith) (omega arith))) (cases_eq x a)

apart_counting : (a n : ℕ) → Apart (range_with_len a n)
apart_counting a zero = tt
apart_counting a (suc n) = (λ i. omega (arith, (in_counting a (a + 1) n i).0), apart_counting (a + 1) n)

-- the FREE places, rising, are a stack of the table
pub kept_laid : (L : List ℕ) → Checked (at L) → Kept L (free_places L)
kept_laid L c =
    let p : ℕ → Bool = λ p. links.free (at L p) in
    let C = range_with_len 0 (length L) in
    record {
      checked = c;
      stacks = record {
        apart = apart_kept p C (apart_counting 0 (length L));
        free = λ q i. let r = in_kept p q C i in (omega (arith, (in_counting q 0 (length L) r.0).1), eqb-true (at L q) FREE r.1);
        all = λ q l e. kept_in p q C (counting_in q 0 (length L) (omega arith) (omega arith)) (eq-eqb (at L q) FREE e);
      };
    }

-- S holds the FREE places below n, rising
abbrev pub Laying : List ℕ → ℕ → List ℕ → Type 0
Laying L n S = S ≡ filter (λ p. links.free (at L p)) (take n (range_with_len 0 (length L)))

module _ (L S S' : List ℕ) (n v : ℕ) (h : Laying L n S) (l : n < length L) (e : v ≡ at L n) where
  step : (b : Bool) → links.free (at L n) ≡ b → S ++ cond b (n ∷ []) [] ≡ filter (λ p. links.free (at L p)) (take (n + 1) (range_with_len 0 (length L)))
  step b t =
      let p : ℕ → Bool = λ p. links.free (at L p) in
      let C = range_with_len 0 (length L) in
      let g : get_or C n 0 ≡ n = omega (arith, get_or-range_with_len 0 (length L) n 0 l) in
      sym (filter_more p C n 0 (omega (arith, length-range_with_len 0 (length L)))
      ∙ ap (λ x. filter p (take n C) ++ cond (p x) (x ∷ []) []) g
      ∙ ap (λ b. filter p (take n C) ++ cond b (n ∷ []) []) t
      ∙ ap (λ T. T ++ cond b (n ∷ []) []) (sym h))

  pub laying_no : v ≢ FREE → S' ≡ S → Laying L (n + 1) S'
  laying_no m f = f ∙ sym (append-nil S) ∙ step false (ne_eqb (at L n) FREE (λ z. m (e ∙ z)))

  few : length S ≤ n
  few = omega (
    arith,
    ap length h,
    length-filter (λ p. links.free (at L p)) (take n (range_with_len 0 (length L))),
    count_by-le-length (λ p. links.free (at L p)) (take n (range_with_len 0 (length L))),
    length-take n (range_with_len 0 (length L)),
  )

  pub laying_yes : (b : Bool) → length L ≤ 4096 → v ≡ FREE → b ≡ ltb (length S) 4096 → S' ≡ cond b (S ++ n ∷ []) S → Laying L (n + 1) S'
  laying_yes b most f told after =
      let y = told ∙ lt-ltb (length S) 4096 (omega (arith, few)) in
      let a : S' ≡ S ++ n ∷ [] = rw y at after in
      a ∙ step true (eq-eqb (at L n) FREE (sym e ∙ f))

pub laying_all : (L S : List ℕ) (n : ℕ) → Laying L n S → length L ≤ n → S ≡ free_places L
laying_all L S n h l = h ∙ ap (filter (λ p. links.free (at L p))) (take_all n _ (omega (arith, length-range_with_len 0 (length L))))

-- what loading a table makes, by what the check tells
module _ (L S : List ℕ) (told : Ok tt ≡ verdict L) (e : S ≡ free_places L) where
  pub laid_kept : Kept L S
  laid_kept = rw e (kept_laid L ((decides L).0 (sym told)))

  pub laid-told : (verdict L ≡ Ok tt) × (L ≡ L) × (S ≡ free_places L)
  laid-told = (sym told, refl, e)
