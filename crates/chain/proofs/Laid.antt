-- `take`, `drop` and `laid` of lists put together: each is shown by its length and place by place.
-- Assumes nothing.
use Rattle.std.proofs.Common.{◌≡◌, ℕ, ◌+◌, ◌-◌, ◌*◌, ◌≤◌, List, [], ◌++◌, length, take, drop, sym, ap, ◌∙◌, arith, rules}
use Rattle.std.proofs.Math.Seq.{take-add}
use Rattle.store.specs.Meaning.{laid}
use Rattle.chain.specs.Units.{cell}
use Rattle.std.proofs.lemmas.List.{drop-drop, places, same_lists}
use Rattle.std.proofs.lemmas.Slice.{take-put_mid}
use borrow.Rule.Slice.PartMut.{put_mid}

-- a part that lies in the first of two lists, and one past it
pub slice_left : (xs ys : List ℕ) (j n : ℕ) → j + n ≤ length xs → take n (drop j (xs ++ ys)) ≡ take n (drop j xs)
slice_left xs ys j n h = same_lists _ _ (search (rules, places)) (λ k d l. grind (arith, places))

pub drop_right : (xs ys : List ℕ) (u n : ℕ) → length xs ≡ u → drop (u + n) (xs ++ ys) ≡ drop n ys
drop_right xs ys u n h = same_lists _ _ (search (rules, places)) (λ k d l. grind (arith, places))

pub laid_none : (xs : List ℕ) (i : ℕ) → laid xs i [] ≡ xs
unfolding laid
laid_none xs i = same_lists _ _ (search (rules, places)) (λ k d l. grind (arith, places))

pub length-laid : (xs ys : List ℕ) (i : ℕ) → i + length ys ≤ length xs → length (laid xs i ys) ≡ length xs
unfolding laid
length-laid xs ys i h = search (rules, places)

-- a write into the first of two lists, and one past it
pub laid_left : (xs ys zs : List ℕ) (i : ℕ) → i + length zs ≤ length xs → laid (xs ++ ys) i zs ≡ laid xs i zs ++ ys
unfolding laid
laid_left xs ys zs i h = same_lists _ _ (search (rules, places)) (λ k d l. grind (arith, places))

pub laid_right : (xs ys zs : List ℕ) (u i : ℕ) → length xs ≡ u → laid (xs ++ ys) (u + i) zs ≡ xs ++ laid ys i zs
unfolding laid
laid_right xs ys zs u i h = same_lists _ _ (search (rules, places)) (λ k d l. grind (arith, places))

-- a write is made in two
pub laid-laid : (xs ys zs : List ℕ) (i : ℕ) → i + length ys ≤ length xs → laid (laid xs i ys) (i + length ys) zs ≡ laid xs i (ys ++ zs)
unfolding laid
laid-laid xs ys zs i h = same_lists _ _ (search (rules, places)) (λ k d l. grind (arith, places))

-- the part of size n at b, after a write inside it, before it or past it
pub slice_laid : (xs ys : List ℕ) (b n i : ℕ) → i + length ys ≤ n → b + n ≤ length xs → take n (drop b (laid xs (b + i) ys)) ≡ laid (take n (drop b xs)) i ys
unfolding laid
slice_laid xs ys b n i h k = same_lists _ _ (search (rules, places)) (λ j d l. grind (arith, places))

pub slice_before : (xs ys : List ℕ) (b n i : ℕ) → b + n ≤ i → i + length ys ≤ length xs → take n (drop b (laid xs i ys)) ≡ take n (drop b xs)
unfolding laid
slice_before xs ys b n i h k = same_lists _ _ (search (rules, places)) (λ j d l. grind (arith, places))

pub slice_after : (xs ys : List ℕ) (b n i : ℕ) → i + length ys ≤ b → i + length ys ≤ length xs → take n (drop b (laid xs i ys)) ≡ take n (drop b xs)
unfolding laid
slice_after xs ys b n i h k = same_lists _ _ (search (rules, places)) (λ j d l. grind (arith, places))

-- a read of xs from a on has come d far, and a piece more, up to e, is read into place
pub read_more : (out piece xs : List ℕ) (a d e : ℕ) → take d out ≡ take d (drop a xs) → piece ≡ take (e - d) (drop (a + d) xs) → length piece ≡ e - d → d ≤ e → e ≤ length out
    → take e (put_mid d (e - d) out piece) ≡ take e (drop a xs)
read_more out piece xs a d e p q l m n =
    let s : d + (e - d) ≡ e = omega arith in
    take-put_mid d (e - d) out piece e (omega arith) (omega arith) ∙ rw (p, q, ← drop-drop d a xs) (sym (take-add d (e - d) (drop a xs)) ∙ ap (λ k. take k (drop a xs)) s)

-- a part of a unit is that part of all the bytes
pub slice_cell : (u : ℕ) (bs : List ℕ) (p i k : ℕ) → i + k ≤ u → take k (drop i (cell u bs p)) ≡ take k (drop (p * u + i) bs)
unfolding cell
slice_cell u bs p i k h = same_lists _ _ (search (rules, places)) (λ j d l. grind (arith, places))

-- what a copy into a part of a slice leaves
pub laid-put : (xs ys zs : List ℕ) (i : ℕ) → ys ≡ zs → i + length zs ≤ length xs → put_mid i (i + length zs - i) xs ys ≡ laid xs i zs
unfolding laid
laid-put xs ys zs i e h = rw e (same_lists _ _ (search (rules, places)) (λ k d l. grind (arith, places)))
