-- Assumes nothing.
use Rattle.std.proofs.Common.{◌≡◌, ℕ, ◌-◌, ◌%◌, ◌≤◌, ◌≢◌, Bool, false, List, [], ◌∷◌, ◌++◌, length, get_or, take, drop, Some, None, vec_items, codes, Option, sym, refl, ap, ◌∙◌, arith}
use Rattle.std.specs.Option.{option_map}
use Rattle.std.specs.Str.{bytes_eq}
use Rattle.std.proofs.lemmas.List.{append_assoc, take_rest}
use Rattle.script.specs.Lines.{joined, pairs, bytes_of}
use Rattle.script.specs.Words.{byte_of}
use Rattle.script.proofs.lines.bytes_of.Goals as goal

-- the bytes xs before those that are there
abbrev behind : List ℕ → Option (List ℕ) → Option (List ℕ)
behind xs o = option_map (λ bs. xs ++ bs) o

-- one pair more
pairs-more : (rest : List ℕ) → 2 ≤ length rest → pairs rest ≡ joined (byte_of (get_or rest 0 0) (get_or rest 1 0)) (pairs (drop 2 rest))
pairs-more [] l = absurd (omega arith)
pairs-more (a ∷ []) l = absurd (omega arith)
pairs-more (a ∷ b ∷ cs) l = refl

joined_behind : (xs : List ℕ) (b : ℕ) (o : Option (List ℕ)) → behind xs (joined (Some b) o) ≡ behind (xs ++ b ∷ []) o
joined_behind xs b None = refl
joined_behind xs b (Some bs) = ap Some (sym (append_assoc xs (b ∷ []) bs))

-- a pair that writes a byte, and one that does not
step : (rest xs : List ℕ) (b : ℕ) (t : Option (List ℕ)) → 2 ≤ length rest → Some b ≡ byte_of (get_or rest 0 0) (get_or rest 1 0)
    → behind xs (pairs rest) ≡ t → behind (xs ++ b ∷ []) (pairs (drop 2 rest)) ≡ t
step rest xs b t l e inv =
    sym (joined_behind xs b (pairs (drop 2 rest))) ∙ ap (λ o. behind xs (joined o (pairs (drop 2 rest)))) e
    ∙ sym (ap (behind xs) (pairs-more rest l)) ∙ inv

stop : (rest xs : List ℕ) (t : Option (List ℕ)) → 2 ≤ length rest → None ≡ byte_of (get_or rest 0 0) (get_or rest 1 0) → behind xs (pairs rest) ≡ t
    → None ≡ t
stop rest xs t l e inv = ap (λ o. behind xs (joined o (pairs (drop 2 rest)))) e ∙ sym (ap (behind xs) (pairs-more rest l)) ∙ inv

-- a word that is no - is pairs; t is the word as bytes
of_pairs : (w t : List ℕ) (r : Bool) → t ≡ w → r ≡ bytes_eq w (codes "-") → r ≡ false → pairs t ≡ bytes_of w
of_pairs w t r same d n = ap pairs same ∙ rw (sym d ∙ n)

-- pairs of an odd length write nothing
joined-none : (o : Option ℕ) → joined o None ≡ None
joined-none None = refl
joined-none (Some b) = refl

pairs-odd : (w : List ℕ) → length w % 2 ≢ 0 → pairs w ≡ None
pairs-odd [] n = absurd (n refl)
pairs-odd (a ∷ []) n = refl
pairs-odd (a ∷ b ∷ cs) n = ap (joined (byte_of a b)) (pairs-odd cs (λ e. n (omega (arith, e)))) ∙ joined-none (byte_of a b)

pub returns-then-word-ne0 : goal.returns-then-word-ne0
returns-then-word-ne0 c =
    sym (pairs-odd c.args.word.now (λ e. c.if-word-ne0.true (omega (arith, e))))
    ∙ of_pairs c.args.word.now c.args.word.now _ refl c.eq.ensures c.if-eq.false

pub returns-in-None : goal.returns-in-None
returns-in-None c =
    stop c.loop-rest.rest.now (vec_items c.loop-rest.all) _ (grind arith) c.in-None.ensures c.loop-rest.invariant
    ∙ of_pairs c.args.word.now _ _ c.as_bytes-rest.ensures.value c.eq.ensures c.if-eq.false

pub loop-rest-preserved : goal.loop-rest-preserved
loop-rest-preserved c =
    let rest = c.loop-rest.rest.now in
    ap (λ xs. behind xs (pairs (take (length rest - 2) (drop 2 rest)))) c.in_ok-push-in-Some.ensures.items
    ∙ ap (λ t. behind (vec_items c.loop-rest.all ++ c.in-Some.byte ∷ []) (pairs t)) (take_rest rest 2)
    ∙ step rest (vec_items c.loop-rest.all) _ _ (grind arith) c.in-Some.ensures c.loop-rest.invariant
