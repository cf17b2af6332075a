-- What a word of a script says.
-- Assumes nothing.
use Rattle.std.specs.Prelude.{ℕ, ◌+◌, ◌*◌, ◌%◌, ◌^◌, ◌==◌, Bool, cond, List, length, drop, Some, None, codes, Option, bit_xor, fold, nat_le, nat_lt}
use Rattle.std.specs.Char.{digit_value}
use Rattle.std.specs.List.{starts_with}
use Rattle.std.specs.Str.{bytes_eq}

-- what a byte is worth as a digit: 0 to 9, and a to f or A to F for 10 to 15; any other byte is no digit
abbrev pub worth : ℕ → Option ℕ
worth c = cond (nat_lt (digit_value c) 16) (Some (digit_value c)) None

-- a number of 64 bits, and nothing where it is larger
abbrev pub fit : ℕ → Option ℕ
fit n = cond (nat_lt n (2 ^ 64)) (Some n) None

-- a number with one digit more, where it is a digit of the base
abbrev pub longer : ℕ → ℕ → Option ℕ → Option ℕ
longer base n None = None
longer base n (Some d) = cond (nat_lt d base) (fit (n * base + d)) None

-- one digit more
abbrev pub more : ℕ → Option ℕ → ℕ → Option ℕ
more base None c = None
more base (Some n) c = longer base n (worth c)

-- the number that digits write; no digits write none
abbrev pub numeral : ℕ → List ℕ → Option ℕ
numeral base text = cond (length text == 0) None (fold (more base) (Some 0) text)

-- the word begins with 0x
abbrev pub hexed : List ℕ → Bool
hexed w = starts_with (λ a b. a == b) w (codes "0x")

-- the number that a word writes: END and FREE are names of two links
abbrev pub number_of : List ℕ → Option ℕ
number_of w = cond (bytes_eq w (codes "END")) (Some 0xfffffffe) (cond (bytes_eq w (codes "FREE")) (Some 0xffffffff)
    (cond (hexed w) (numeral 16 (drop 2 w)) (numeral 10 w)))

-- a number that is at most so much
abbrev pub within : ℕ → Option ℕ → Option ℕ
within most None = None
within most (Some n) = cond (nat_le n most) (Some n) None

-- the same of 32 bits
abbrev pub short_of : List ℕ → Option ℕ
short_of w = within 0xffffffff (number_of w)

-- the byte that two hexadecimal digits write
abbrev pub byte_written : Option ℕ → Option ℕ → Option ℕ
byte_written None o = None
byte_written (Some a) None = None
byte_written (Some a) (Some b) = Some (a * 16 + b)

abbrev pub byte_of : ℕ → ℕ → Option ℕ
byte_of high low = byte_written (worth high) (worth low)

-- one step of FNV-1a
abbrev pub hashed : ℕ → ℕ → ℕ
hashed h b = (bit_xor h b * 0x100000001b3) % (2 ^ 64)
