-- A table that was read: what the rows that were passed say of it and of its host, and that the host bears it out.
-- Assumes nothing.
use Rattle.std.proofs.Common.{◌≡◌, ℕ, ◌*◌, ◌/◌, ◌%◌, ◌<◌, ◌≤◌, min, Bool, true, false, not, ◌≢◌, ◌⊎◌, List, length, take, Ok, Err, Result, IfOk, sym, refl, ap, ◌∙◌, inl, inr, ⊎_elim, arith}
use Rattle.std.specs.Prelude.{◌==◌, nat_lt}
use Rattle.std.proofs.lemmas.List.{get_or-take, get_or_past, length-take}
use Rattle.std.proofs.lemmas.Bool.{cases_lt, eqb-true, ltb-false, not-false}
use Rattle.std.proofs.lemmas.List.FromFn.{length-map-range_with_len, get_or-map-range_with_len}
use Rattle.links.specs.Bytes.{link_in}
use Rattle.links.specs.Check.{verdict}
use Rattle.links.specs.Links.{FREE, END, at, Checked}
use Rattle.links.specs.Stack.{trimmed}
use Rattle.links.specs.declared.checks.LinkFault.{LinkFault}
use Rattle.links.specs.declared.stacked.Stacked.{Stacked}
use Rattle.links.proofs.Trimmings.{past_trimmed, trimmed_same}
use Rattle.links.proofs.Verdicts.{decides}
use Rattle.store.specs.declared.entries.Words.{Words}
use Rattle.store.specs.declared.faults.Fault.{Fault}
use Rattle.store.specs.Kinds.{byte_of}
use Rattle.store.specs.Refusals.{Refused}
use Rattle.store.specs.Meaning.{Store, Lawful, bytes_of}
use Rattle.mini.specs.Mini.{Synced, root_of, stream_at, fat_at, sectors_of, Borne}
use Rattle.mini.proofs.Figures.{sectors_counted, Lies, whole_units, count_lies, borne_by}
use Rattle.minifat.specs.Table.{table_in, all_links, row, asking, before, words_of_fat, trimmed_of, fat_of, minis_of, fitted, checked_by, table_of}
use Rattle.minifat.specs.Told.{Faulted, told_of}

-- rows that are passed: what the first gave, and that the others give the answer
pub record Passed {A B : Type 0} (r : Result A Faulted) (below : A → Result B Faulted) (y : B) : Type 0 where
  pub it : A
  pub first : r ≡ Ok it
  pub rest : below it ≡ Ok y

pub passed : {A B : Type 0} (r : Result A Faulted) (below : A → Result B Faulted) (y : B) → before r below ≡ Ok y → Passed r below y
passed (Ok x) below y e = record { it = x; first = refl; rest = e }
passed (Err f) below y e = cc

row_passed : {A : Type 0} (test : Bool) (n : ℕ) (below : Result A Faulted) (y : A) → row test n below ≡ Ok y → (test ≡ false) × (below ≡ Ok y)
row_passed true n below y e = cc
row_passed false n below y e = (refl, e)

asked : {A : Type 0} (r : Result ℕ Refused) (k : ℕ) (below : ℕ → Result A Faulted) (y : A) → asking r k below ≡ Ok y → (n : ℕ) × (r ≡ Ok n) × (below n ≡ Ok y)
asked (Ok n) k below y e = (n, refl, e)
asked (Err f) k below y e = cc

answer_same : {A : Type 0} (a b : A) → ◌≡◌ {A = Result A Faulted} (Ok a) (Ok b) → a ≡ b
answer_same a b e = cc

checked_told : (v : Result Unit LinkFault) (L T : List ℕ) → checked_by v L ≡ Ok T → (v ≡ Ok tt) × (L ≡ T)
checked_told (Ok u) L T e = (refl, answer_same L T e)
checked_told (Err f) L T e = cc

module _ (s : Store) (layer : ℕ) where
  -- the sectors that are told of MiniFAT and mini stream
  abbrev fats : Result ℕ Refused
  fats = sectors_of s layer (fat_at s) (s.notes.words.count == 0)

  abbrev minis : Result ℕ Refused
  minis = sectors_of s layer (stream_at s) ((root_of s).length == 0)

  -- the words are the host's, and tell the MiniFAT's sectors
  words_told : (w : Words) → words_of_fat s layer ≡ Ok w → (fats ≡ Ok s.notes.words.count) × (s.notes.words ≡ w)
  words_told w e =
      let t = asked fats 9 _ w e in
      let p = row_passed (not (t.0 == s.notes.words.count)) 9 (Ok s.notes.words) w t.2 in
      (t.1 ∙ ap Ok (eqb-true t.0 _ (not-false _ p.0)), answer_same _ w p.1)

  -- what the rows on the root say
  record Rooted (r : ℕ) : Type 0 where
    kind : byte_of (root_of s).kind ≡ 5
    whole : (root_of s).length % 64 ≡ 0
    stream : (n : ℕ) × (minis ≡ Ok n) × ((root_of s).length ≤ n * s.unit)
    is : (root_of s).length / 64 ≡ r

  rooted : (r : ℕ) → minis_of s layer ≡ Ok r → Rooted r
  rooted r e =
      let kind = row_passed (not (byte_of (root_of s).kind == 5)) 10 _ r e in
      let whole = row_passed (not ((root_of s).length % 64 == 0)) 10 _ r kind.1 in
      let t = asked minis 10 _ r whole.1 in
      let inside = row_passed (nat_lt (t.0 * s.unit) (root_of s).length) 10 (Ok ((root_of s).length / 64)) r t.2 in
      record {
        kind = eqb-true _ 5 (not-false _ kind.0);
        whole = eqb-true _ 0 (not-false _ whole.0);
        stream = (t.0, t.1, ltb-false (t.0 * s.unit) _ inside.0);
        is = answer_same _ r inside.1;
      }

-- a table that was read: the links of the MiniFAT's bytes without the trailing FREE ones, no more of them than the root has
-- mini sectors, and checked
pub record Read (s : Store) (layer : ℕ) (T : List ℕ) : Type 0 where
  pub fat : sectors_of s layer (fat_at s) (s.notes.words.count == 0) ≡ Ok s.notes.words.count
  pub few : trimmed (all_links (bytes_of s (fat_at s))) ≤ 4096
  pub root : byte_of (root_of s).kind ≡ 5
  pub whole : (root_of s).length % 64 ≡ 0
  pub stream : (n : ℕ) × (sectors_of s layer (stream_at s) ((root_of s).length == 0) ≡ Ok n) × ((root_of s).length ≤ n * s.unit)
  pub is : take ((root_of s).length / 64) (take (trimmed (all_links (bytes_of s (fat_at s)))) (all_links (bytes_of s (fat_at s)))) ≡ T
  pub checked : Checked (at T)

pub table_read : (s : Store) (layer : ℕ) (strict : Bool) (T : List ℕ) → table_of s layer strict ≡ Ok T → Read s layer T
table_read s layer strict T e =
    let fat = passed (fat_of s layer) _ T e in
    let minis = passed (minis_of s layer) _ T fat.rest in
    let fits = passed (fitted strict fat.it minis.it) _ T minis.rest in
    let words = passed (words_of_fat s layer) _ fat.it fat.first in
    let w = words_told s layer words.it words.first in
    let A = all_links (bytes_of s (fat_at s)) in
    let k = trimmed A in
    let cut : trimmed_of A ≡ Ok fat.it = ap (λ (v : Words). trimmed_of (all_links (bytes_of s v.start))) w.1 ∙ words.rest in
    let few = row_passed (nat_lt 4096 k) 9 (Ok (take k A)) fat.it cut in
    let two : take minis.it fat.it ≡ fits.it = answer_same _ _ (row_passed _ 8 (Ok (take minis.it fat.it)) fits.it fits.first).1 in
    let root = rooted s layer minis.it minis.first in
    let same = checked_told (verdict fits.it) fits.it T fits.rest in
    record {
      fat = w.0;
      few = ltb-false 4096 k few.0;
      root = root.kind;
      whole = root.whole;
      stream = root.stream;
      is = (λ i. take (root.is i) (answer_same (take k A) fat.it few.1 i)) ∙ two ∙ same.1;
      checked = (decides T).0 (ap verdict (sym same.1) ∙ same.0);
    }

-- the links of a MiniFAT's bytes
pub all_long : (ys : List ℕ) → length (all_links ys) ≡ length ys / 4
all_long ys = length-map-range_with_len (link_in ys) 0 (length ys / 4)

pub all_at : (ys : List ℕ) (p : ℕ) → p < length ys / 4 → at (all_links ys) p ≡ link_in ys p
all_at ys p m = get_or-map-range_with_len (link_in ys) 0 (length ys / 4) p p FREE m (omega arith)

-- what it holds at a place: the link in the bytes, below so many mini sectors as the root has
module _ (s : Store) (layer : ℕ) (T : List ℕ) (r : Read s layer T) where
  abbrev ys : List ℕ
  ys = bytes_of s (fat_at s)

  abbrev A : List ℕ
  A = all_links ys

  abbrev k : ℕ
  k = trimmed A

  table_long : length T ≡ min ((root_of s).length / 64) k
  table_long = ap length (sym r.is) ∙ omega (arith, length-take ((root_of s).length / 64) (take k A), length-take k A)

  pub read_few : length T ≤ 4096
  read_few = omega (arith, table_long, r.few)

  pub read_link : (p : ℕ) → p < (root_of s).length / 64 → p < length ys / 4 → at T p ≡ link_in ys p
  read_link p l m =
      ap (λ L. at L p) (sym r.is) ∙ get_or-take ((root_of s).length / 64) _ p FREE l
      ∙ ap (λ (f : ℕ → ℕ). f p) (trimmed_same A) ∙ all_at ys p m

  -- behind them it has none
  pub read_past : (p : ℕ) → ((root_of s).length / 64 ≤ p) ⊎ (length ys / 4 ≤ p) → at T p ≡ FREE
  read_past p (inl l) = get_or_past T p FREE (omega (arith, table_long))
  read_past p (inr l) = get_or_past T p FREE (omega (arith, table_long, all_long ys))

  pub read_backed : Synced s T
  read_backed = record {
    links = λ p l. sym (read_link p (omega (arith, l, table_long)) (omega (arith, l, table_long, all_long ys)));
    rest = λ m p l. ⊎_elim (λ h. sym (read_link p h l)) (λ h. sym (all_at ys p l) ∙ past_trimmed A p (omega (arith, m, h, r.whole, table_long)) ∙ sym (read_past p (inl h))) (cases_lt p ((root_of s).length / 64));
  }

  -- and the host bears it out, where mini stream and MiniFAT are two
  pub read_borne : (most : ℕ) → Lawful most s → (stream_at s ≢ fat_at s) ⊎ (fat_at s ≡ END) → Borne s (length T)
  read_borne most ok two =
      let lies : (h : ℕ) (none : Bool) (n : ℕ) → sectors_of s layer h none ≡ Ok n → Lies most s ok h none n = λ h none n e. count_lies most s ok h none n (sectors_counted s layer h none n e) in
      let lf = lies (fat_at s) _ _ r.fat in
      borne_by most s ok r.stream.0 s.notes.words.count (length T) (lies (stream_at s) _ _ r.stream.1) lf two r.whole (omega (arith, table_long)) r.stream.2 refl
      (omega (arith, table_long, all_long ys, ap (λ k. k * s.unit) lf.units, whole_units most s ok (fat_at s)))

pub read_synced : (s : Store) (layer : ℕ) (strict : Bool) (r : Result Stacked Fault) → told_of table_in r ≡ table_of s layer strict
    → IfOk r (λ t. Synced s (table_in t))
read_synced s layer strict (Ok t) e = read_backed s layer (table_in t) (table_read s layer strict (table_in t) (sym e))
read_synced s layer strict (Err f) e = tt
