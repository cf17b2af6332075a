-- Links as bytes: what a written link reads as, and that the others stay.
-- Assumes nothing.
use Rattle.std.proofs.Common.{◌≡◌, ℕ, ◌+◌, ◌-◌, ◌*◌, ◌/◌, ◌%◌, ◌^◌, ◌<◌, ◌≤◌, ◌≢◌, List, ◌++◌, length, get_or, replicate, take, drop, sym, refl, ap, ◌∙◌, ⊎_elim, mod-eq_of_lt, arith}
use native.Mathlib.Nat.{div-div-eq-div-mul, div-add-mod}
use Rattle.std.proofs.lemmas.List.{get_or_append_left, get_or-append_right, get_or-take, get_or-drop, get_or-replicate, get_or_past, length-append, length-replicate, length-take-le}
use Rattle.std.proofs.lemmas.Bool.{cases_eq, cases_lt}
use Rattle.links.specs.Bytes.{bytes_of_link, link_in}
use Rattle.links.specs.Links.{FREE, at}
use Rattle.links.specs.Chains.{Wrote}
use Rattle.store.specs.Meaning.{laid}
use Rattle.chain.proofs.Laid.{length-laid}
use Rattle.mini.specs.Mini.{Backed}

module _ (ys zs : List ℕ) (i : ℕ) (l : i + length zs ≤ length ys) where
  front : length (take i ys) ≡ i
  front = length-take-le i ys (omega arith)

  pub laid_here : (k : ℕ) → k < length zs → get_or (laid ys i zs) (i + k) 0 ≡ get_or zs k 0
  unfolding laid
  laid_here k m =
      let e : i + k - i ≡ k = omega arith in
      get_or-append_right (take i ys) _ i (i + k) 0 front (omega arith) ∙ ap (λ j. get_or (zs ++ drop (i + length zs) ys) j 0) e ∙ get_or_append_left zs _ 0 k m

  pub laid-before : (j : ℕ) → j < i → get_or (laid ys i zs) j 0 ≡ get_or ys j 0
  unfolding laid
  laid-before j m = get_or_append_left (take i ys) _ 0 j (omega (arith, front)) ∙ get_or-take i ys j 0 m

  pub laid_after : (j : ℕ) → i + length zs ≤ j → get_or (laid ys i zs) j 0 ≡ get_or ys j 0
  unfolding laid
  laid_after j m =
      let e : i + length zs + (j - i - length zs) ≡ j = omega arith in
      get_or-append_right (take i ys) _ i j 0 front (omega arith) ∙ get_or-append_right zs _ (length zs) (j - i) 0 refl (omega arith)
      ∙ get_or-drop (i + length zs) ys (j - i - length zs) 0 ∙ ap (λ k. get_or ys k 0) e

-- more bytes behind a link
pub link_left : (xs ys : List ℕ) (p : ℕ) → 4 * p + 4 ≤ length xs → link_in (xs ++ ys) p ≡ link_in xs p
link_left xs ys p l = λ i. get_or_append_left xs ys 0 (4 * p) (omega arith) i + get_or_append_left xs ys 0 (4 * p + 1) (omega arith) i * 256
    + get_or_append_left xs ys 0 (4 * p + 2) (omega arith) i * 65536 + get_or_append_left xs ys 0 (4 * p + 3) (omega arith) i * 16777216

-- links of bytes that are laid behind others
pub link_right : (xs ys : List ℕ) (n k : ℕ) → length xs ≡ 4 * n → n ≤ k → link_in (xs ++ ys) k ≡ link_in ys (k - n)
link_right xs ys n k e l =
    let a : 4 * k - 4 * n ≡ 4 * (k - n) = omega arith in
    let b : 4 * k + 1 - 4 * n ≡ 4 * (k - n) + 1 = omega arith in
    let c : 4 * k + 2 - 4 * n ≡ 4 * (k - n) + 2 = omega arith in
    let d : 4 * k + 3 - 4 * n ≡ 4 * (k - n) + 3 = omega arith in
    rw (
      get_or-append_right xs ys (4 * n) (4 * k) 0 e (omega arith),
      get_or-append_right xs ys (4 * n) (4 * k + 1) 0 e (omega arith),
      get_or-append_right xs ys (4 * n) (4 * k + 2) 0 e (omega arith),
      get_or-append_right xs ys (4 * n) (4 * k + 3) 0 e (omega arith),
      a,
      b,
      c,
      d,
    ) refl

-- bytes of 255 are FREE links
link_free : (n p : ℕ) → 4 * p + 4 ≤ n → link_in (replicate n 255) p ≡ FREE
link_free n p l = λ i. get_or-replicate n (4 * p) 255 0 (omega arith) i + get_or-replicate n (4 * p + 1) 255 0 (omega arith) i * 256
    + get_or-replicate n (4 * p + 2) 255 0 (omega arith) i * 65536 + get_or-replicate n (4 * p + 3) 255 0 (omega arith) i * 16777216

-- the bytes of a table are still those with such links behind them
pub backed_more : (ys : List ℕ) (n r k : ℕ) (L : List ℕ) → length ys ≡ 4 * k → 4 * length L ≤ length ys → Backed ys r L → Backed (ys ++ replicate n 255) r L
backed_more ys n r k L e t b = record {
  links = λ p l. link_left ys _ p (omega arith) ∙ b.links p l;
  rest = λ m p l. ⊎_elim
      (λ (h : p < k). link_left ys _ p (omega arith) ∙ b.rest m p (omega arith))
      (λ (h : k ≤ p). link_right ys _ k p e h ∙ link_free n (p - k) (omega (arith, l, length-append ys (replicate n 255), length-replicate {A = ℕ} n 255)) ∙ sym (get_or_past L p FREE (omega arith))) (cases_lt p k);
}

-- a number by its four bytes
split : (v : ℕ) → v < 2 ^ 32 → v % 256 + v / 256 % 256 * 256 + v / 65536 % 256 * 65536 + v / 16777216 % 256 * 16777216 ≡ v
split v small =
    let e : v / 256 / 256 ≡ v / 65536 = div-div-eq-div-mul v 256 256 in
    let f : v / 65536 / 256 ≡ v / 16777216 = div-div-eq-div-mul v 65536 256 in
    let top : v / 16777216 % 256 ≡ v / 16777216 = mod-eq_of_lt (omega arith) in
    omega (arith, div-add-mod v 256, div-add-mod (v / 256) 256, div-add-mod (v / 65536) 256, e, f, top)

module _ (ys : List ℕ) (p v : ℕ) (l : 4 * p + 4 ≤ length ys) where
  fits : 4 * p + length (bytes_of_link v) ≤ length ys
  fits = let e : length (bytes_of_link v) ≡ 4 = refl in omega arith

  pub link_here : v < 2 ^ 32 → link_in (laid ys (4 * p) (bytes_of_link v)) p ≡ v
  link_here small =
      let z : 4 * p ≡ 4 * p + 0 = omega arith in
      let a : get_or (laid ys (4 * p) (bytes_of_link v)) (4 * p) 0 ≡ v % 256 = ap (λ j. get_or (laid ys (4 * p) (bytes_of_link v)) j 0) z ∙ laid_here ys (bytes_of_link v) (4 * p) fits 0 (omega arith) in
      let b : get_or (laid ys (4 * p) (bytes_of_link v)) (4 * p + 1) 0 ≡ v / 256 % 256 = laid_here ys (bytes_of_link v) (4 * p) fits 1 (omega arith) in
      let c : get_or (laid ys (4 * p) (bytes_of_link v)) (4 * p + 2) 0 ≡ v / 65536 % 256 = laid_here ys (bytes_of_link v) (4 * p) fits 2 (omega arith) in
      let d : get_or (laid ys (4 * p) (bytes_of_link v)) (4 * p + 3) 0 ≡ v / 16777216 % 256 = laid_here ys (bytes_of_link v) (4 * p) fits 3 (omega arith) in
      omega (arith, a, b, c, d, split v small)

  pub link_other : (q : ℕ) → q ≢ p → link_in (laid ys (4 * p) (bytes_of_link v)) q ≡ link_in ys q
  link_other q n = λ t. first t + each 1 (omega arith) t * 256 + each 2 (omega arith) t * 65536 + each 3 (omega arith) t * 16777216
    where
      each : (k : ℕ) → k < 4 → get_or (laid ys (4 * p) (bytes_of_link v)) (4 * q + k) 0 ≡ get_or ys (4 * q + k) 0
      each k m = let e : length (bytes_of_link v) ≡ 4 = refl in ⊎_elim
          (λ (h : q < p). laid-before ys (bytes_of_link v) (4 * p) fits (4 * q + k) (omega arith))
          (λ (h : p ≤ q). laid_after ys (bytes_of_link v) (4 * p) fits (4 * q + k) (omega arith)) (cases_lt q p)

      first : get_or (laid ys (4 * p) (bytes_of_link v)) (4 * q) 0 ≡ get_or ys (4 * q) 0
      first = let z : 4 * q ≡ 4 * q + 0 = omega arith in ap (λ j. get_or (laid ys (4 * p) (bytes_of_link v)) j 0) z ∙ each 0 (omega arith) ∙ ap (λ j. get_or ys j 0) (sym z)

  -- a table whose links the bytes are, after both have another link; r and r' are the root lengths before and after
  pub links_wrote : (L L' : List ℕ) (r r' : ℕ) → v < 2 ^ 32 → Wrote (at L) (at L') p v → ((q : ℕ) → q < length L' → q ≢ p → q < length L)
      → (64 * length L' < r' → 64 * length L < r) → Backed ys r L → Backed (laid ys (4 * p) (bytes_of_link v)) r' L'
  links_wrote L L' r r' small w within longer k = record {
    links = λ q m. each q (λ n. k.links q (within q m n));
    rest = λ m q l. each q (λ n. k.rest (longer m) q (omega (arith, l, length-laid ys (bytes_of_link v) (4 * p) fits)));
  }
    where
      each : (q : ℕ) → (q ≢ p → link_in ys q ≡ at L q) → link_in (laid ys (4 * p) (bytes_of_link v)) q ≡ at L' q
      each q synced = ⊎_elim
          (λ (e : q ≡ p). rw e (link_here small ∙ sym w.here))
          (λ n. link_other q n ∙ synced n ∙ sym (w.rest q n)) (cases_eq q p)
