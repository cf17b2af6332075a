-- Which links a text writes, and which places are listed.
-- Assumes nothing.
use Rattle.std.specs.Prelude.{◌≡◌, ℕ, ◌+◌, Bool, true, cond, ◌↔◌, List, [], ◌∷◌, ◌++◌, length, Some, None, Ok, Err, codes, string_bytes, Option, Result, ◌≢◌, nat_lt}
use Rattle.std.specs.Fmt.{decimal}
use Rattle.std.specs.List.{slice_get}
use Rattle.links.specs.Held.{links_of}
use Rattle.links.specs.Links.{FREE, at, OnChain}
use Rattle.links.specs.declared.held.Links.{Links}
use Rattle.script.specs.Lines.{lines_of, words_of}
use Rattle.script.specs.Words.{short_of}
use Rattle.calls.specs.declared.tables.Listing.{Listing}
use Rattle.calls.specs.declared.tables.Listing.TheVariants.{Free, OnNoChain}
use Rattle.calls.specs.declared.tables.BadWord.{BadWord}
use Rattle.calls.specs.declared.faults.Fault.{Fault}
use Rattle.calls.specs.Faults.{Tells}
use Rattle.calls.specs.declared.tables.WordFault.{WordFault}
use Rattle.calls.specs.declared.tables.WordFault.TheVariants.{NoLink, TooMany}

-- the links L with one more, where it is there and there are fewer than 4,096
abbrev pub joined : Option ℕ → List ℕ → Result (List ℕ) WordFault
joined None L = Err NoLink
joined (Some v) L = cond (nat_lt (length L) 4096) (Ok (L ++ v ∷ [])) (Err TooMany)

-- the links with the one that a word says
abbrev pub pushed : List ℕ → List ℕ → Result (List ℕ) WordFault
pushed word L = joined (short_of word) L

-- a word that is no link, or one too many, with the number of its line
pub record Stop : Type 0 where
  pub line : ℕ
  pub word : List ℕ
  pub fault : WordFault

abbrev pub stop : ℕ → List ℕ → WordFault → Stop
stop n w f = record { line = n; word = w; fault = f }

-- what follows on links, or on a fault
abbrev pub onward : {E : Type 0} → Result (List ℕ) E → (E → Stop) → (List ℕ → Result (List ℕ) Stop) → Result (List ℕ) Stop
onward (Ok M) ends go = go M
onward (Err e) ends go = Err (ends e)

-- the links with those of the words of line n
abbrev pub words_into : ℕ → List (List ℕ) → List ℕ → Result (List ℕ) Stop
words_into n [] L = Ok L
words_into n (w ∷ ws) L = onward (pushed w L) (stop n w) (words_into n ws)

-- the links with those of lines, the first of which is line n
abbrev pub lines_into : ℕ → List (List ℕ) → List ℕ → Result (List ℕ) Stop
lines_into n [] L = Ok L
lines_into n (l ∷ ls) L = onward (words_into n (words_of l) L) (λ s. s) (lines_into (n + 1) ls)

-- the links that a text writes
abbrev pub table_of : List ℕ → Result (List ℕ) Stop
table_of text = lines_into 1 (lines_of text) []

-- what a fault tells of a reading: the word that stops it
abbrev pub Stops : Fault BadWord → Result (List ℕ) Stop → Type 0
Stops f o = Tells (λ b. stop b.line (string_bytes b.word) b.fault) f o

-- what a reading returns: the links, or its fault
abbrev pub Reads : Result Links (Fault BadWord) → Result (List ℕ) Stop → Type 0
Reads (Ok t) o = o ≡ Ok (links_of t)
Reads (Err f) o = Stops f o

-- which places a listing holds
abbrev pub Lists : Listing → List ℕ → ℕ → Bool → Type 0
Lists Free L p r = (r ≡ true) ↔ (slice_get L p ≡ Some FREE)
Lists OnNoChain L p r = (r ≡ true) ↔ ((slice_get L p ≢ Some FREE) × (OnChain (at L) p → ⊥))

-- how a fault of a word is printed, behind the word and `is`
abbrev pub word_text : WordFault → List ℕ
word_text NoLink = codes "no link: write a number below 2^32, END or FREE"
word_text TooMany = codes "one link too many: a table has at most 4096"

-- how a word that does not go into a table is printed
abbrev pub wrong_text : BadWord → List ℕ
wrong_text b = codes "line " ++ (decimal b.line ++ (codes ": '" ++ (string_bytes b.word ++ (codes "' is " ++ word_text b.fault))))

-- the name of a listing
abbrev pub listing_text : Listing → List ℕ
listing_text Free = codes "free"
listing_text OnNoChain = codes "on no chain"
