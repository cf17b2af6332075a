-- The MiniFAT as its host tells and reads it.
-- Assumes nothing.
use Rattle.std.proofs.Common.{◌≡◌, ℕ, ◌*◌, ◌<◌, ◌≤◌, Bool, true, false, not, eqb, List, take, None, Ok, Err, Result, sym, refl, ap, ◌∙◌, MatchResult, mul-le-mul, arith}
use Rattle.std.proofs.lemmas.Bool.{eqb-true}
use Rattle.store.specs.declared.entries.Words.{Words}
use Rattle.store.specs.declared.faults.Fault.{Fault}
use Rattle.store.specs.declared.faults.StoreFault.{StoreFault}
use Rattle.store.specs.Refusals.{Refused, answer}
use Rattle.store.specs.Meaning.{Store, Lawful, bytes_of}
use Rattle.mini.specs.Mini.{fat_at, sectors_of}
use Rattle.minifat.specs.declared.gathering.Gathered.{Gathered}
use Rattle.minifat.specs.Gathered.{gathering_of, gathering_in, gathered, due_blocks, gathered_fat}
use Rattle.minifat.specs.Told.{Faulted, told_of}
use Rattle.minifat.specs.Table.{all_links, fault, row, asking, before, words_of_fat, trimmed_of, fat_of}
use Rattle.minifat.proofs.Gathers.{gathered_over, gathered-within}
use Rattle.minifat.proofs.Sectors.{Lies, sectors_lie, blocks_due, blocks_bytes}

-- the words w were told, and a sector has q blocks
module _ (most : ℕ) (s : Store) (ok : Lawful most s) (layer : ℕ) (w : Words) (f : Ok w ≡ words_of_fat s layer) (q : ℕ) (unit : q * 512 ≡ s.unit) where
  -- then they say how many sectors there are
  count_told : Ok w.count ≡ sectors_of s layer w.start (eqb w.count 0)
  count_told = go (sectors_of s layer (fat_at s) (eqb s.notes.words.count 0)) refl f
    where
      same : (n : ℕ) (b : Bool) → sectors_of s layer (fat_at s) (eqb s.notes.words.count 0) ≡ Ok n → eqb n s.notes.words.count ≡ b
          → Ok w ≡ row (not b) 9 (Ok s.notes.words) → Ok w.count ≡ sectors_of s layer w.start (eqb w.count 0)
      same n true p t e =
          let v : s.notes.words ≡ w = cc in
          let m = eqb-true n _ t in
          rw (← v) (ap Ok (sym m) ∙ sym p)
      same n false p t e = cc

      go : (r : Result ℕ Refused) → sectors_of s layer (fat_at s) (eqb s.notes.words.count 0) ≡ r
          → Ok w ≡ asking r 9 (λ n. row (not (eqb n s.notes.words.count)) 9 (Ok s.notes.words)) → Ok w.count ≡ sectors_of s layer w.start (eqb w.count 0)
      go (Ok n) p e = same n (eqb n s.notes.words.count) p refl e
      go (Err b) p e = cc

  lies : Lies most s ok layer w.start w.count
  lies = sectors_lie most s ok layer w.start _ w.count count_told

  pub blocks_few : w.count * q ≤ 32768
  blocks_few = omega (arith, mul-le-mul lies.few few)
    where
      few : q ≤ 8
      few = omega (arith, unit, ok.small)

  -- all of it is read
  pub fat_read : (Q : StoreFault → Type 0) (u : Store) (read : Result Gathered StoreFault) (r : Result Gathered Fault) → u ≡ s
      → gathering_in read ≡ answer (due_blocks u layer w.start (w.count * q)) (gathered (all_links (take (w.count * q * 512) (bytes_of u w.start))))
      → MatchResult read (λ a. r ≡ Ok a) Q → told_of gathering_of r ≡ gathered_fat s layer
  fat_read Q u read r e t c = go read all c ∙ ap (λ r. before r (λ v. Ok (gathered (all_links (bytes_of s v.start))))) f
    where
      all : gathering_in read ≡ Ok (gathered (all_links (bytes_of s w.start)))
      all =
          t ∙ rw e (ap (λ d. answer d (gathered (all_links (take (w.count * q * 512) (bytes_of s w.start)))))
          (blocks_due most s ok layer w.start w.count q (w.count * q) lies unit refl)
          ∙ ap (λ ys. Ok (gathered (all_links ys))) (blocks_bytes most s ok layer w.start w.count q (w.count * q) lies unit refl))

      go : (x : Result Gathered StoreFault) → gathering_in x ≡ Ok (gathered (all_links (bytes_of s w.start))) → MatchResult x (λ a. r ≡ Ok a) Q
          → told_of gathering_of r ≡ Ok (gathered (all_links (bytes_of s w.start)))
      go (Ok a) z e = let y : gathering_of a ≡ gathered (all_links (bytes_of s w.start)) = cc in ap (told_of gathering_of) e ∙ ap Ok y
      go (Err a) z e = cc

-- M are the first links, and n of all there are in use
module _ (s : Store) (layer : ℕ) (M : List ℕ) (n : ℕ) (f : Ok (record { links = M; used = n }) ≡ gathered_fat s layer) where
  by : (A : Result (List ℕ) Faulted) (above : (L : List ℕ) → record { links = M; used = n } ≡ gathered L → trimmed_of L ≡ A) → A ≡ fat_of s layer
  by A above = go (words_of_fat s layer) f
    where
      go : (r : Result Words Faulted) → Ok (record { links = M; used = n }) ≡ before r (λ w. Ok (gathered (all_links (bytes_of s w.start))))
          → A ≡ before r (λ w. trimmed_of (all_links (bytes_of s w.start)))
      go (Ok w) e = let y : record { links = M; used = n } ≡ gathered (all_links (bytes_of s w.start)) = cc in sym (above (all_links (bytes_of s w.start)) y)
      go (Err x) e = cc

  pub fat_over : 4096 < n → Err (fault 9 None) ≡ fat_of s layer
  fat_over l = by _ (λ L e. gathered_over L M n e l)

  pub fat_told : n ≤ 4096 → Ok (take n M) ≡ fat_of s layer
  fat_told l = by _ (λ L e. gathered-within L M n e l)
