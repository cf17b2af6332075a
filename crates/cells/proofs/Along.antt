-- Reading and writing along the chains.
-- Assumes nothing.
use Rattle.std.proofs.Common.{◌==◌, ◌≡◌, ℕ, ◌+◌, ◌-◌, ◌*◌, ◌<◌, ◌≤◌, ◌≢◌, List, [], ◌∷◌, length, get_or, map, is_some, is_none, is_ok, Some, None, Ok, Err, Option, Result, unwrap_or, cond, ltb, Bool, true, false, count_by, sym, refl, ap, ◌∙◌, ⊎_elim, arith}
use Rattle.std.specs.Option.{IsSome}
use Rattle.std.proofs.lemmas.Option.{same_Some, none-some}
use Rattle.std.proofs.lemmas.Bool.{eqb-true, cases_lt, ltb-false, false≢true, lt-ltb, le-ltb, cond-true, cond-false}
use Rattle.store.specs.Meaning.{Store, Notes, laid, bytes_of, headed, due_copy, refuse, read_into, wrote}
use Rattle.store.specs.Refusals.{Refused, answer, unless}
use Rattle.chain.specs.Units.{Whole, content, Wrote}
use borrow.Rule.Slice.PartMut.{put_mid}
use Rattle.chain.proofs.Laid.{laid-put, laid_none, length-laid}
use Rattle.chain.proofs.Views.{other_content}
use Rattle.cells.specs.declared.Cells.{Cells}
use Rattle.cells.specs.declared.Note.{Note}
use Rattle.cells.specs.Meant.{meant, due_bytes}
use Rattle.cells.specs.Noted.{unit_at, path, counted}
use Rattle.cells.specs.Stored.{viewed, numbers}
use Rattle.cells.proofs.Gives.{here, some_counts}
use Rattle.cells.proofs.Paths.{sound_of, path_is, path_short, one_note}
use Rattle.cells.proofs.Seeks.{unit_is}
use Rattle.cells.proofs.Stores.{notes_head, viewed_whole, chain_none, bytes_content, content_long, stored_as}

-- some notes, where it does not matter which
pub no_notes : Notes
no_notes = record { entries = []; words = record { start = 0; count = 0 }; others = λ k. None }

pub few_units : (c : Cells) (h : ℕ) → length (path c.notes h) ≤ 64
few_units c h = omega (arith, path_short c.notes h, c.counted)

-- the unit behind the one at rank r
module _ (c : Cells) (h r : ℕ) (more : r + 1 < length (path c.notes h)) where
  next_found : unit_at c.notes h (r + 1) ≡ Some (get_or (path c.notes h) (r + 1) 0)
  next_found = unit_is c.notes h (r + 1) _ c.unique ((path_is c.notes h).ranked (r + 1) more)

  pub next_some : (u : ℕ) → Some u ≡ unit_at c.notes h (r + 1) → u ≡ get_or (path c.notes h) (r + 1) 0
  next_some u e = same_Some u _ (e ∙ next_found)

  pub next_there : IsSome (unit_at c.notes h (r + 1))
  next_there = ap is_some next_found

-- a copy along the chain of h, which has k units
module _ (c : Cells) (n : Notes) (h k end layer : ℕ) (units : Some k ≡ counted (path c.notes h)) where
  units_long : length (content (viewed c.notes c.bytes) h) ≡ k * 512
  units_long = content_long c.notes (sound_of c) c.bytes c.filled n h ∙ ap (λ x. x * 512) (sym (some_counts _ k units).0)

  pub copy_yes : end ≤ k * 512 → due_copy (meant c n) layer h end ≡ None
  copy_yes l = rw (here c n h k units) (cond-false _ _ _ (le-ltb _ end (omega (arith, units_long))))

  pub copy_no : k * 512 < end → due_copy (meant c n) layer h end ≡ refuse 15 layer h
  copy_no l = rw (here c n h k units) (cond-true _ _ _ (lt-ltb _ end (omega (arith, units_long))))

-- what is not refused
pub accepted : (due : Option Refused) → ◌≡◌ {A = Result (Unit {0}) Refused} (Ok tt) (answer {A = Unit {0}} due tt) → due ≡ None
accepted None e = refl
accepted (Some f) e = absurd (false≢true (sym (ap is_ok e)))

-- what is refused leaves the old
pub refused : {A : Type 0} (due : Option Refused) (f : Refused) (old new : A) → ◌≡◌ {A = Result (Unit {0}) Refused} (Err f) (answer {A = Unit {0}} due tt) → old ≡ unless due old new
refused None f old new e = absurd (false≢true (ap is_ok e))
refused (Some g) f old new e = refl

-- where a copy is not refused, it lies within the chain
copied : (o : Option (List ℕ)) (h end layer : ℕ) → headed o layer h (cond (ltb (length (unwrap_or o [])) end) (refuse 15 layer h) None) ≡ None
    → (xs : List ℕ) × (o ≡ Some xs) × (end ≤ length xs)
copied None h end layer e = absurd (none-some _ (sym e))
copied (Some xs) h end layer e = (xs, refl, go (ltb (length xs) end) refl e)
  where
    go : (b : Bool) → ltb (length xs) end ≡ b → cond b (refuse 15 layer h) None ≡ None → end ≤ length xs
    go true f g = absurd (none-some _ (sym g))
    go false f g = ltb-false (length xs) end f

module _ (c : Cells) (n : Notes) (h end layer : ℕ) (due : due_copy (meant c n) layer h end ≡ None) where
  pub within-content : end ≤ length (content (viewed c.notes c.bytes) h)
  within-content =
      let t = copied ((meant c n).chain h) h end layer due in
      omega (arith, t.2, ap length (sym (bytes_content c.notes (sound_of c) c.bytes c.filled n h) ∙ ap (λ o. unwrap_or o []) t.1))

  pub within_small : end ≤ 32768
  within_small = omega (arith, within-content, content_long c.notes (sound_of c) c.bytes c.filled n h, few_units c h)

  some_path : 0 < length (path c.notes h)
  some_path = ⊎_elim (λ l. l)
      (λ l. absurd (none-some _ (sym (chain_none c.notes (sound_of c) c.bytes c.filled n h l) ∙ (copied ((meant c n).chain h) h end layer due).1)))
      (cases_lt 0 (length (path c.notes h)))

pub cells_whole : (c : Cells) → Whole (viewed c.notes c.bytes)
cells_whole c = viewed_whole c.notes (sound_of c) c.bytes c.filled

-- equal numbers are equal notes
same_notes : (M N : List (Option Note)) → map numbers M ≡ map numbers N → M ≡ N
same_notes [] [] e = refl
same_notes [] (o ∷ N) e = absurd (omega (arith, ap length e))
same_notes (o ∷ M) [] e = absurd (omega (arith, ap length e))
same_notes (o ∷ M) (p ∷ N) e = rw (same_note o p cc, same_notes M N cc) refl
  where
    same_note : (o p : Option Note) → numbers o ≡ numbers p → o ≡ p
    same_note None None e = refl
    same_note None (Some n) e = absurd (omega (arith, ap length e))
    same_note (Some n) None e = absurd (omega (arith, ap length e))
    same_note (Some m) (Some n) e = let a : m.head ≡ n.head = cc in let b : m.rank ≡ n.rank = cc in rw (a, b) refl

-- the same view is the same units
pub same_units : (c d : Cells) → viewed d.notes d.bytes ≡ viewed c.notes c.bytes → (n : Notes) → meant d n ≡ meant c n
same_units c d e n =
    let k : d.notes ≡ c.notes = same_notes d.notes c.notes (ap (λ v. v.kept) e) in
    let b : d.bytes ≡ c.bytes = ap (λ v. v.bytes) e in rw (k, b)

-- what a write along the chain of h leaves
module _ (c d : Cells) (n : Notes) (h a layer : ℕ) (ys : List ℕ) (w : Wrote (viewed c.notes c.bytes) (viewed d.notes d.bytes) h a ys)
    (due : due_copy (meant c n) layer h (a + length ys) ≡ None) where
  same : d.notes ≡ c.notes
  same = same_notes d.notes c.notes w.kept

  other_chain : (k : ℕ) → k ≢ h → (meant d n).chain k ≡ (meant c n).chain k
  other_chain k e =
      let t = other_content (viewed c.notes c.bytes) (viewed d.notes d.bytes) h k a ys w
      (λ q i j. let f = notes_head c.notes k q i in let g = notes_head c.notes h q j in e (one_note c.notes q q k h f.0 g.0 refl f.1 g.1).0) in
      rw (t, same)

  pub wrote-meant : meant d n ≡ wrote (meant c n) layer h a ys
  wrote-meant =
      let l = some_path c n h (a + length ys) layer due in
      let here : (meant d n).chain h ≡ Some (laid (bytes_of (meant c n) h) a ys) =
      cond-true _ _ _ (lt-ltb 0 (length (path d.notes h)) (omega (arith, l, ap (λ N. length (path N h)) same))) ∙ ap Some (w.chain ∙ ap (λ xs. laid xs a ys) (sym (bytes_content c.notes (sound_of c) c.bytes c.filled n h))) in
      rw due (stored_as c.notes d.notes c.bytes d.bytes n h _ _ (ap (count_by is_none) same) here other_chain)

-- a copy of no bytes changes nothing, and a copy of some is refused as a store refuses it
pub some_due : (m : Store) (layer h end : ℕ) → (end == 0) ≡ false → due_bytes m layer h end ≡ due_copy m layer h end
some_due m layer h end e = rw e

unless_same : {A : Type 0} (due : Option Refused) (x : A) → x ≡ unless due x x
unless_same None x = refl
unless_same (Some f) x = refl

pub read_none : (m : Store) (layer h a : ℕ) (xs : List ℕ) → (a + length xs == 0) ≡ true → xs ≡ read_into m layer h a xs
read_none m layer h a [] e = unless_same _ []
read_none m layer h a (x ∷ xs) e = absurd (omega (arith, eqb-true (a + length (x ∷ xs)) 0 e))

pub wrote_none : (c : Cells) (n : Notes) (h a layer : ℕ) (ys : List ℕ) → (a + length ys == 0) ≡ true → meant c n ≡ wrote (meant c n) layer h a ys
wrote_none c n h a layer (y ∷ ys) e = absurd (omega (arith, eqb-true (a + length (y ∷ ys)) 0 e))
wrote_none c n h a layer [] e = go ((meant c n).chain h) refl
  where
    go : (o : Option (List ℕ)) → (meant c n).chain h ≡ o → meant c n ≡ wrote (meant c n) layer h a []
    go None k = rw k
    go (Some xs) k =
        let bytes : bytes_of (meant c n) h ≡ xs = ap (λ o. unwrap_or o []) k in
        let same = stored_as c.notes c.notes c.bytes c.bytes n h _ (Some (laid (bytes_of (meant c n) h) a [])) refl (k ∙ ap Some (sym (laid_none xs a) ∙ ap (λ zs. laid zs a []) (sym bytes))) (λ _ _. refl) in
        unless_same (due_copy (meant c n) layer h (a + 0)) (meant c n) ∙ ap (unless (due_copy (meant c n) layer h (a + 0)) (meant c n)) same

-- a write into the bytes
module _ (c : Cells) (i : ℕ) (ys zs : List ℕ) (e : ys ≡ zs) (fits : i + length zs ≤ 32768) where
  written : put_mid i (i + length zs - i) c.bytes ys ≡ laid c.bytes i zs
  written = laid-put c.bytes ys zs i e (omega (arith, c.filled))

  put_long : length (put_mid i (i + length zs - i) c.bytes ys) ≡ 32768
  put_long = ap length written ∙ length-laid c.bytes zs i (omega (arith, c.filled)) ∙ c.filled

  pub written_view : viewed c.notes (put_mid i (i + length zs - i) c.bytes ys) ≡ viewed c.notes (laid c.bytes i zs)
  written_view = ap (viewed c.notes) written

  pub written_whole : Whole (viewed c.notes (put_mid i (i + length zs - i) c.bytes ys))
  written_whole = viewed_whole c.notes (sound_of c) _ put_long
