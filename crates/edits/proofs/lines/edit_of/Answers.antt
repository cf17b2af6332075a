-- Assumes nothing.
use Rattle.std.proofs.Common.{◌≡◌, ℕ, ◌<◌, ◌≤◌, List, [], ◌∷◌, map, length, None, refl, arith, Bor}
use Rattle.std.proofs.lemmas.Bool.{eqb-true, ltb-true, ltb-false}
use Rattle.edits.specs.Scripts.{edit_of}
use Rattle.edits.proofs.lines.edit_of.Goals as goal
use Rattle.edits.proofs.lines.edit_of.Goals.{in_default-via-then-words-lt1, in_default-via-else-words-lt1+else-words-lt2+else-words-lt3+else-words-lt4+else-words-lt5+else-words-lt6}

-- so many words are no call
none : (ws : List (Bor (List ℕ))) → length ws < 1 → None ≡ edit_of (map (λ x. x.now) ws)
none [] l = refl
none (a ∷ ws) l = absurd (omega arith)

many : (ws : List (Bor (List ℕ))) → 6 ≤ length ws → None ≡ edit_of (map (λ x. x.now) ws)
many [] l = absurd (omega arith)
many (a ∷ []) l = absurd (omega arith)
many (a ∷ b ∷ []) l = absurd (omega arith)
many (a ∷ b ∷ k ∷ []) l = absurd (omega arith)
many (a ∷ b ∷ k ∷ m ∷ []) l = absurd (omega arith)
many (a ∷ b ∷ k ∷ m ∷ n ∷ []) l = absurd (omega arith)
many (a ∷ b ∷ k ∷ m ∷ n ∷ p ∷ ws) l = refl

pub returns-in_default : goal.returns-in_default
returns-in_default c =
    elim c.in_default.branch [
      | in_default-via-then-words-lt1 w ↦ none c.args.words.now (omega (arith, eqb-true, ltb-true, ltb-false))
      | in_default-via-else-words-lt1+else-words-lt2+else-words-lt3+else-words-lt4+else-words-lt5+else-words-lt6 w ↦ many c.args.words.now (omega (arith, eqb-true, ltb-true, ltb-false))
    ]
