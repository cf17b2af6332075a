-- Chains as their units put together: their bytes, read and written unit by unit.
-- Assumes nothing.
use Rattle.std.proofs.Common.{◌≡◌, ℕ, zero, suc, ◌+◌, ◌*◌, ◌<◌, ◌≤◌, ◌≢◌, List, [], ◌∷◌, ◌++◌, length, get_or, take, drop, refl, ap, ◌∙◌, inl, inr, mul-le-mul_right, suc-mul, zero-mul, arith}
use Rattle.std.specs.List.{flat_map}
use Rattle.std.proofs.lemmas.List.{length-append, length-take, length-drop, take_at}
use Rattle.std.proofs.lemmas.Bool.{cases_lt}
use Rattle.std.proofs.lemmas.Grind.{flat_map-append}
use Rattle.links.specs.Links.{In, Apart}
use Rattle.store.specs.Meaning.{laid}
use Rattle.chain.specs.Units.{cell}
use Rattle.chain.proofs.Laid.{slice_left, drop_right, laid_left, laid_right, slice_laid, slice_before, slice_after}

pub in_get_d : (ps : List ℕ) (r : ℕ) → r < length ps → In (get_or ps r 0) ps
in_get_d [] r h = absurd (omega arith)
in_get_d (p ∷ ps) zero h = inl refl
in_get_d (p ∷ ps) (suc r) h = inr (in_get_d ps r (omega arith))

module _ (f : ℕ → List ℕ) (u : ℕ) where
  pub length_units : (ps : List ℕ) → ((q : ℕ) → In q ps → length (f q) ≡ u) → length (flat_map f ps) ≡ length ps * u
  length_units [] w = omega (arith, zero-mul u)
  length_units (p ∷ ps) w =
      rw length-append (omega (arith, w p (inl refl), length_units ps (λ q i. w q (inr i)), suc-mul (length ps) u))

  -- the first units
  pub take_units : (ps qs : List ℕ) → ((q : ℕ) → In q ps → length (f q) ≡ u) → take (length ps * u) (flat_map f (ps ++ qs)) ≡ flat_map f ps
  take_units ps qs w = ap (take (length ps * u)) (flat_map-append f ps qs) ∙ take_at (flat_map f ps) (flat_map f qs) (length ps * u) (length_units ps w)

  -- a part that lies in one unit
  pub slice_units : (ps : List ℕ) (r i k : ℕ) → ((q : ℕ) → In q ps → length (f q) ≡ u) → r < length ps → i + k ≤ u
      → take k (drop (r * u + i) (flat_map f ps)) ≡ take k (drop i (f (get_or ps r 0)))
  slice_units [] r i k w h l = absurd (omega arith)
  slice_units (p ∷ ps) zero i k w h l =
      let e : 0 * u + i ≡ i = omega (arith, zero-mul u) in
      let n = w p (inl refl) in
      rw e (slice_left (f p) (flat_map f ps) i k (omega arith))
  slice_units (p ∷ ps) (suc r) i k w h l =
      let e : suc r * u + i ≡ u + (r * u + i) = omega (arith, suc-mul r u) in
      rw (e, drop_right (f p) (flat_map f ps) u (r * u + i) (w p (inl refl))) (slice_units ps r i k (λ q j. w q (inr j)) (omega arith) l)

pub joined_same : (f g : ℕ → List ℕ) (ps : List ℕ) → ((q : ℕ) → In q ps → g q ≡ f q) → flat_map g ps ≡ flat_map f ps
joined_same f g [] w = refl
joined_same f g (p ∷ ps) w = let e = w p (inl refl) in let i = joined_same f g ps (λ q j. w q (inr j)) in cc

-- a write into one unit, where no place comes twice
module _ (f g : ℕ → List ℕ) (u i : ℕ) (ys : List ℕ) (fits : i + length ys ≤ u) where
  pub laid_units : (ps : List ℕ) (r : ℕ) → ((q : ℕ) → In q ps → length (f q) ≡ u) → Apart ps → r < length ps → g (get_or ps r 0) ≡ laid (f (get_or ps r 0)) i ys
      → ((q : ℕ) → q ≢ get_or ps r 0 → g q ≡ f q) → flat_map g ps ≡ laid (flat_map f ps) (r * u + i) ys
  laid_units [] r w a h same other = absurd (omega arith)
  laid_units (p ∷ ps) zero w a h same other =
      let e : 0 * u + i ≡ i = omega (arith, zero-mul u) in
      let n = w p (inl refl) in
      let o = joined_same f g ps (λ q j. other q (λ s. a.0 (rw s at j))) in
      rw (e, laid_left (f p) (flat_map f ps) ys i (omega arith), same, o)
  laid_units (p ∷ ps) (suc r) w a h same other =
      let e : suc r * u + i ≡ u + (r * u + i) = omega (arith, suc-mul r u) in
      let n : p ≢ get_or ps r 0 = λ s. a.0 (rw s (in_get_d ps r (omega arith))) in
      rw (e, laid_right (f p) (flat_map f ps) ys u (r * u + i) (w p (inl refl)), other p n, laid_units ps r (λ q j. w q (inr j)) a.1 (omega arith) same other)

-- the unit at a place that lies within the bytes
module _ (u : ℕ) (bs : List ℕ) (p : ℕ) (l : p * u + u ≤ length bs) where
  pub length-cell : length (cell u bs p) ≡ u
  unfolding cell
  length-cell = simp (length-take, length-drop) (omega arith)

  pub cell_same : (i : ℕ) (ys : List ℕ) → i + length ys ≤ u → cell u (laid bs (p * u + i) ys) p ≡ laid (cell u bs p) i ys
  unfolding cell
  cell_same i ys fits = slice_laid bs ys (p * u) u i fits l

  pub cell_other : (i : ℕ) (ys : List ℕ) → i + length ys ≤ u → (q : ℕ) → q ≢ p → cell u (laid bs (p * u + i) ys) q ≡ cell u bs q
  unfolding cell
  cell_other i ys fits q ne =
      elim (cases_lt q p) [
        | inl a ↦ let b : suc q * u ≤ p * u = mul-le-mul_right u a in slice_before bs ys (q * u) u (p * u + i) (omega (arith, suc-mul q u)) (omega arith)
        | inr a ↦ let b : suc p * u ≤ q * u = mul-le-mul_right u (omega arith) in slice_after bs ys (q * u) u (p * u + i) (omega (arith, suc-mul p u)) (omega arith)
      ]
