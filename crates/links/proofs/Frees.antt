-- How many places are FREE: as many as the stack holds, and what trimming leaves of them.
-- Assumes nothing.
use Rattle.std.proofs.Common.{◌≡◌, ℕ, zero, suc, ◌+◌, ◌-◌, ◌<◌, ◌≤◌, true, cond, List, [], ◌∷◌, ◌++◌, length, get_or, take, sum_by, count_by, sym, refl, ap, ◌∙◌, inl, inr, ⊎_elim, add-zero, arith}
use Rattle.std.specs.List.{range_with_len}
use Rattle.std.proofs.lemmas.List.{length-append}
use Rattle.std.proofs.lemmas.List.Sums.{length-filter, sum_by-cons}
use Rattle.std.proofs.lemmas.Bool.{eq-eqb}
use Rattle.links.specs.Links.{FREE, free, at, In, Apart}
use Rattle.links.specs.Stack.{free_places}
use Rattle.links.proofs.Members.{in_left, in_right, in_append}
use Rattle.links.proofs.Stacks.{Kept}
use Rattle.links.proofs.Layings.{kept_laid}

-- a list that holds x, without it
parted : (x : ℕ) (ys : List ℕ) → In x ys → (es : List ℕ) × (fs : List ℕ) × (ys ≡ es ++ x ∷ fs)
parted x [] i = absurd i
parted x (y ∷ ys) (inl e) = ([], ys, ap (λ z. z ∷ ys) (sym e))
parted x (y ∷ ys) (inr i) = let r = parted x ys i in (y ∷ r.0, r.1, ap (λ l. y ∷ l) r.2)

-- a list without repeats is no longer than one that holds all of it
pub inside_short : (xs ys : List ℕ) → Apart xs → ((x : ℕ) → In x xs → In x ys) → length xs ≤ length ys
inside_short [] ys a h = omega arith
inside_short (x ∷ xs) ys a h =
    let r = parted x ys (h x (inl refl)) in
    let es = r.0 in
    let fs = r.1 in
    let less = inside_short xs (es ++ fs) a.1 (λ z i.
    ⊎_elim (in_left z es fs)
    (⊎_elim (λ e. absurd (a.0 (rw e at i))) (in_right z es fs))
    (in_append z es (x ∷ fs) (rw r.2 at (h z (inr i))))) in
    omega (arith, less, ap length r.2, length-append es (x ∷ fs), length-append es fs)

-- the places counted are the links counted
counted : (L M : List ℕ) (n : ℕ) (f : ℕ → ℕ) → ((k : ℕ) → k < length M → f (n + k) ≡ cond (free (get_or M k FREE)) 1 0) → sum_by f (range_with_len n (length M)) ≡ count_by free M
counted L [] n f h = refl
counted L (x ∷ M) n f h =
    let z : n + 0 ≡ n = add-zero n in
    let a : f n ≡ cond (free x) 1 0 = rw z at (h 0 (omega arith)) in
    let b = counted L M (n + 1) f (λ k l. let e : n + 1 + k ≡ n + suc k = omega arith in ap f e ∙ h (suc k) (omega arith)) in
    sum_by-cons f n (range_with_len (n + 1) (length M)) ∙ (λ i. a i + b i) ∙ sym (sum_by-cons (λ v. cond (free v) 1 0) x M)

free-length : (L : List ℕ) → length (free_places L) ≡ count_by free L
free-length L = length-filter (λ p. free (at L p)) (range_with_len 0 (length L)) ∙ counted L L 0 (λ p. cond (free (at L p)) 1 0) (λ k l. let z : 0 + k ≡ k = omega arith in ap (λ p. cond (free (at L p)) 1 0) z)

-- the stack holds as many places as are FREE
pub stack_count : (L S : List ℕ) → Kept L S → length S ≡ count_by free L
stack_count L S k =
    let F = free_places L in
    let s = k.stacks in
    let f = (kept_laid L k.checked).stacks in
    let a = inside_short S F s.apart (λ p i. let r = s.free p i in f.all p r.0 r.1) in
    let b = inside_short F S f.apart (λ p i. let r = f.free p i in s.all p r.0 r.1) in
    omega (arith, a, b, free-length L)

-- trailing FREE links are counted by their number
pub count_trimmed : (L : List ℕ) (m : ℕ) → m ≤ length L → ((k : ℕ) → m ≤ k → at L k ≡ FREE) → count_by free L ≡ count_by free (take m L) + (length L - m)
count_trimmed [] m l past = omega (arith, ap (count_by free) (none m))
  where
    none : (m : ℕ) → take {A = ℕ} m [] ≡ []
    none zero = refl
    none (suc m) = refl
count_trimmed (x ∷ L) zero l past =
    let e : free x ≡ true = eq-eqb x FREE (past 0 (omega arith)) in
    let r = count_trimmed L 0 (omega arith) (λ k q. past (suc k) (omega arith)) in
    omega (arith, r, sum_by-cons (λ v. cond (free v) 1 0) x L, ap (λ b. cond {A = ℕ} b 1 0) e)
count_trimmed (x ∷ L) (suc m) l past =
    let r = count_trimmed L m (omega arith) (λ k q. past (suc k) (omega arith)) in
    omega (arith, r, sum_by-cons (λ v. cond (free v) 1 0) x L, sum_by-cons (λ v. cond (free v) 1 0) x (take m L))
