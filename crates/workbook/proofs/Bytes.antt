-- The bytes of a stream whose chain is fitted and laid over: xs are the old chain's that stay, and n the new length.
-- Assumes nothing.
use Rattle.std.proofs.Common.{◌≡◌, ℕ, ◌+◌, ◌≤◌, ◌⊎◌, List, length, take, max, min, replicate, arith, rules}
use Rattle.std.proofs.lemmas.List.{places, same_lists}
use Rattle.store.specs.Meaning.{laid}
use Rattle.workbook.specs.Sights.{fitted}

-- a write that begins within the old length covers all between it and the new one
pub written_bytes : (xs ys : List ℕ) (long i n room : ℕ) → long ≤ length xs → i ≤ long → n ≡ max long (i + length ys) → n ≤ room
    → take n (laid (fitted room xs) i ys) ≡ laid (fitted n (take long xs)) i ys
unfolding laid
written_bytes xs ys long i n room a b c d = same_lists _ _ (search (rules, places)) (λ k e l. grind (arith, places))

-- zeros up to where those begin that were there before, or as far as the new length
pub cleared_bytes : (xs : List ℕ) (k n z room : ℕ) → k ≤ length xs → k ≤ n → n ≤ room → k + z ≤ room → (length xs ≤ k + z) ⊎ (n ≤ k + z)
    → take n (laid (fitted room xs) k (replicate z 0)) ≡ fitted n (take k xs)
unfolding laid
cleared_bytes xs k n z room a b c d e = same_lists _ _ (search (rules, places)) (λ j f l. grind (arith, places))

-- what is past the new length is cut
pub fitted_short : (xs : List ℕ) (long n : ℕ) → fitted n (take (min long n) xs) ≡ fitted n (take long xs)
fitted_short xs long n = same_lists _ _ (search (rules, places)) (λ j f l. grind (arith, places))
