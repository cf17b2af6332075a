-- Gathering links one after another, and what it comes to.
-- Assumes nothing.
use Rattle.std.proofs.Common.{◌≡◌, ℕ, zero, suc, ◌+◌, ◌*◌, ◌<◌, ◌≤◌, min, Bool, true, false, cond, ltb, List, [], ◌∷◌, ◌++◌, map, length, get_or, take, drop, None, Ok, Err, fold, sym, refl, ap, ◌∙◌, ⊎_elim, arith}
use Rattle.std.specs.List.{range_with_len, prefix_len, suffix_len}
use Rattle.std.proofs.lemmas.List.FromFn.{map-range_with_len_more}
use Rattle.std.proofs.lemmas.List.{append-nil, append_assoc, reverse-append, length_push, length-take, take_all, take-take, take-append-le, get_or-take, get_or-drop}
use Rattle.std.proofs.lemmas.List.Sums.{fold_push, suffix_len-le-length}
use Rattle.std.proofs.lemmas.Bool.{cases_lt, lt-ltb, le-ltb, cond-true, cond-false}
use Rattle.std.specs.Simd.{first_chunks}
use Rattle.links.specs.Bytes.{link_in}
use Rattle.links.specs.Links.{free}
use Rattle.links.specs.Stack.{trimmed}
use Rattle.minifat.specs.Gathered.{Gathering, added, gathered}
use Rattle.minifat.specs.Table.{fault, trimmed_of}

-- one place more
pub gathered-more : (g h h' : Gathering) (f : ℕ → ℕ) (n v : ℕ) → h ≡ fold added g (map f (range_with_len 0 n)) → v ≡ f n → h' ≡ added h v
    → h' ≡ fold added g (map f (range_with_len 0 (n + 1)))
gathered-more g h h' f n v e x a =
    a ∙ ap (λ y. added h y) x ∙ ap (λ y. added y (f n)) e
    ∙ sym (ap (fold added g) (map-range_with_len_more f 0 n n (omega arith)) ∙ fold_push added g (map f (range_with_len 0 n)) (f n))

-- the link in a chunk of four bytes
chunk_first : (xs : List ℕ) → link_in (take 4 xs) 0 ≡ link_in xs 0
chunk_first xs = λ t. get_or-take 4 xs 0 0 (omega arith) t + get_or-take 4 xs 1 0 (omega arith) t * 256
    + get_or-take 4 xs 2 0 (omega arith) t * 65536 + get_or-take 4 xs 3 0 (omega arith) t * 16777216

chunk_next : (xs : List ℕ) (i : ℕ) → link_in (drop 4 xs) i ≡ link_in xs (suc i)
chunk_next xs i = λ t. each (4 * i) (4 * suc i) (omega arith) t + each (4 * i + 1) (4 * suc i + 1) (omega arith) t * 256
    + each (4 * i + 2) (4 * suc i + 2) (omega arith) t * 65536 + each (4 * i + 3) (4 * suc i + 3) (omega arith) t * 16777216
  where
    each : (j k : ℕ) → 4 + j ≡ k → get_or (drop 4 xs) j 0 ≡ get_or xs k 0
    each j k e = get_or-drop 4 xs j 0 ∙ ap (λ n. get_or xs n 0) e

pub chunk_link : (n i : ℕ) (xs : List ℕ) → i < n → link_in (get_or (first_chunks 4 n xs) i []) 0 ≡ link_in xs i
chunk_link zero i xs l = absurd (omega arith)
chunk_link (suc n) zero xs l = chunk_first xs
chunk_link (suc n) (suc i) xs l = chunk_link n i (drop 4 xs) (omega arith) ∙ chunk_next xs i

-- the first 4,096 of a list, and how many there are without the trailing FREE ones, up to 4,097
abbrev summed : List ℕ → Gathering
summed xs = record { links = take 4096 xs; used = min 4097 (trimmed xs) }

module _ (xs : List ℕ) (y : ℕ) where
  links_step : cond (ltb (length (take 4096 xs)) 4096) (take 4096 xs ++ y ∷ []) (take 4096 xs) ≡ take 4096 (xs ++ y ∷ [])
  links_step = ⊎_elim
      (λ l. cond-true _ _ _ (lt-ltb (length (take 4096 xs)) 4096 (omega (arith, length-take 4096 xs))) ∙ ap (λ zs. zs ++ y ∷ []) (take_all 4096 xs (omega arith))
      ∙ sym (take_all 4096 (xs ++ y ∷ []) (omega (arith, length_push xs y))))
      (λ l. cond-false _ _ _ (le-ltb (length (take 4096 xs)) 4096 (omega (arith, length-take 4096 xs))) ∙ sym (take-append-le 4096 xs (y ∷ []) l)) (cases_lt (length xs) 4096)

  used_step : cond (free y) (min 4097 (trimmed xs)) (length (take 4096 xs) + 1) ≡ min 4097 (trimmed (xs ++ y ∷ []))
  used_step = by (free y) refl
    where
      last : suffix_len free (xs ++ y ∷ []) ≡ cond (free y) (1 + suffix_len free xs) 0
      last = ap (prefix_len free) (reverse-append xs (y ∷ []))

      by : (b : Bool) → free y ≡ b → cond b (min 4097 (trimmed xs)) (length (take 4096 xs) + 1) ≡ min 4097 (trimmed (xs ++ y ∷ []))
      by true e = let t = rw e at last in omega (arith, length_push xs y, suffix_len-le-length free xs)
      by false e = let t = rw e at last in omega (arith, length_push xs y, length-take 4096 xs)

  summed_step : added (summed xs) y ≡ summed (xs ++ y ∷ [])
  summed_step = rw (links_step, used_step) refl

summed_all : (xs ys : List ℕ) → fold added (summed xs) ys ≡ summed (xs ++ ys)
summed_all xs [] = ap summed (sym (append-nil xs))
summed_all xs (y ∷ ys) =
    ap (λ g. fold added g ys) (summed_step xs y) ∙ summed_all (xs ++ y ∷ []) ys ∙ ap summed (append_assoc xs (y ∷ []) ys)

module _ (L M : List ℕ) (n : ℕ) (e : record { links = M; used = n } ≡ gathered L) where
  whole : record { links = M; used = n } ≡ summed L
  whole = e ∙ summed_all [] L

  pub gathered_over : 4096 < n → trimmed_of L ≡ Err (fault 9 None)
  gathered_over l = cond-true _ _ _ (lt-ltb 4096 (trimmed L) (omega (arith, ap (λ g. g.used) whole)))

  pub gathered-within : n ≤ 4096 → trimmed_of L ≡ Ok (take n M)
  gathered-within l =
      let t : trimmed L ≡ n = omega (arith, ap (λ g. g.used) whole) in
      cond-false _ _ _ (le-ltb 4096 (trimmed L) (omega arith)) ∙ rw (t, ap (λ g. g.links) whole) (ap Ok (sym (take-take n 4096 L l)))
