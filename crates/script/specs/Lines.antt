-- The lines of a text, the words of a line, and the bytes that a word writes.
-- Assumes nothing.
use Rattle.std.specs.Prelude.{ℕ, Bool, cond, ◌&&◌, ◌||◌, List, [], ◌∷◌, ◌++◌, length, Some, None, codes, Option, ◌==◌, nat_le}
use Rattle.std.specs.List.{slice_split}
use Rattle.std.specs.Str.{bytes_eq}
use Rattle.script.specs.Words.{byte_of}

-- the bytes that part words: a space, and 9 to 13, which are tabs and ends of lines and pages
abbrev pub blank : ℕ → Bool
blank c = c == 32 || (nat_le 9 c && nat_le c 13)

-- a word that has come to its end; no bytes are no word
abbrev pub closed : List ℕ → List (List ℕ)
closed w = cond (length w == 0) [] (w ∷ [])

-- a comment begins at c, after the bytes w of a word: it is a # where a word would begin
abbrev pub comments : List ℕ → ℕ → Bool
comments w c = length w == 0 && c == 35

-- the words of a line, after the bytes w of the first
abbrev pub words_after : List ℕ → List ℕ → List (List ℕ)
words_after w [] = closed w
words_after w (c ∷ cs) = cond (blank c) (closed w ++ words_after [] cs) (cond (comments w c) [] (words_after (w ++ c ∷ []) cs))

-- the words of a line up to a comment
abbrev pub words_of : List ℕ → List (List ℕ)
words_of line = words_after [] line

-- the lines of a text: a line feed ends one, and is no part of it
abbrev pub lines_of : List ℕ → List (List ℕ)
lines_of text = slice_split (λ c. c == 10) text

-- a byte before bytes, where both are there
abbrev pub joined : Option ℕ → Option (List ℕ) → Option (List ℕ)
joined None o = None
joined (Some b) None = None
joined (Some b) (Some bs) = Some (b ∷ bs)

-- the bytes that pairs of hexadecimal digits write
abbrev pub pairs : List ℕ → Option (List ℕ)
pairs [] = Some []
pairs (a ∷ []) = None
pairs (a ∷ b ∷ cs) = joined (byte_of a b) (pairs cs)

-- the bytes that a word writes: - writes none
abbrev pub bytes_of : List ℕ → Option (List ℕ)
bytes_of w = cond (bytes_eq w (codes "-")) (Some []) (pairs w)
