-- Bytes are laid over a stream, and the workbook stays whole.
-- Assumes nothing.
use Rattle.std.proofs.Common.{◌≡◌, ℕ, ◌+◌, ◌≤◌, ◌≢◌, cond, List, [], length, Some, None, Err, Ok, Result, sym, ap, ◌∙◌, subst, inr, ⊎_elim, arith}
use Rattle.std.proofs.lemmas.Bool.{cases_lt}
use Rattle.std.specs.Prelude.{nat_lt}
use Rattle.std.specs.Option.{unwrap_or}
use Rattle.store.specs.declared.entries.Entry.{Entry}
use Rattle.store.specs.Refusals.{Refused, answer, unless}
use Rattle.store.specs.Meaning.{Store, Lawful, bytes_of, laid, with_chain, refuse, headed, due_copy}
use Rattle.chain.proofs.Dues.{copy_no}
use Rattle.chain.proofs.Laid.{length-laid}
use Rattle.mini.proofs.Figures.{end_none}
use Rattle.minialloc.specs.States.{State, meant_in, Writes}
use Rattle.workbook.specs.declared.homes.Home.{Home}
use Rattle.workbook.specs.declared.homes.Home.TheVariants.{Mini, Host}
use Rattle.workbook.specs.Homes.{store_in, layer_in, over, WritesIn}
use Rattle.workbook.specs.Sights.{seen, home_of, reach, Chained, Fits, Stream}
use Rattle.workbook.specs.Steps.{Writing}
use Rattle.workbook.specs.Whole.{Whole}
use Rattle.workbook.proofs.Entries.{entry_within, root_stays}
use Rattle.workbook.proofs.Found.{chained}
use Rattle.workbook.proofs.Rebuilds.{Clean, Loose, Kept, Rest, written_step}
use Rattle.workbook.proofs.Sights.{stream_by, reach_alike, others_placed, own_beside, placed_whole}
use Rattle.workbook.proofs.Turns.{own_chain}

module _ (most layer : ℕ) (s z : State) (ok : Lawful most s.host) (okz : Lawful most z.host) (w : Whole s) (id : ℕ) (e : Entry) (t : Stream (seen s) id e) (some : e.length ≢ 0)
    (i : ℕ) (ys : List ℕ) (r : Result (Unit {0}) Refused) (inside : i + length ys ≤ reach (seen s) e.length) (step : Writing most layer (home_of e.length) e.start i ys s r z) where
  abbrev pub own : (xs : List ℕ) × Chained (seen s) e xs
  own = chained most layer s ok w id e t some

  loose : Loose s id (home_of e.length) e.start own.0
  loose = record { placed = others_placed (seen s) id w.placed; chain = own.1.chain; beside = own_beside (seen s) id e w.placed t some }

  within : i + length ys ≤ length own.0
  within = omega (arith, inside, own.1.units)

  pub wrote : (r ≡ Ok tt) × Clean most z × Loose z id (home_of e.length) e.start (laid own.0 i ys) × Kept s z id × Rest s z (home_of e.length) e.start
  wrote = written_step most layer s z id (record { lawful = ok; sound = w.sound; synced = w.synced }) okz (home_of e.length) e.start own.0 loose i ys r within step

  there : Stream (seen z) id e
  there = stream_by (seen s) (seen z) wrote.3.entries id e t

  fits : Fits (seen z) e
  fits = inr (
    laid own.0 i ys,
    record {
      some = some;
      chain = wrote.2.chain;
      units = length-laid own.0 ys i within ∙ own.1.units ∙ reach_alike (seen s) (seen z) (sym wrote.3.unit) e.length;
    },
  )

  pub laid_whole : Whole z
  laid_whole = record {
    sound = wrote.1.sound;
    synced = wrote.1.synced;
    root = root_stays s z wrote.3.entries (omega (arith, entry_within s id e t)) (omega (arith, entry_within z id e there)) w.root;
    placed = placed_whole (seen z) id e there wrote.2.placed fits (λ d. wrote.2.beside);
  }

-- a write that a store refuses leaves all as it was
unwritten : (most layer : ℕ) (home : Home) (h i : ℕ) (ys : List ℕ) (s z : State) (r : Result (Unit {0}) Refused) (f : Refused)
    → due_copy (store_in s home) (layer_in layer home) h (i + length ys) ≡ Some f → Writing most layer home h i ys s r z → z ≡ s
unwritten most layer Mini h i ys s z r f d t =
    let w : WritesIn layer s Mini h i ys r z = t.1 in
    let v : Writes s h i ys (Err f) z = subst (λ x. Writes s h i ys x z) (t.0 ∙ ap (λ x. answer x tt) d) w.1 in v
unwritten most layer Host h i ys s z r f d t =
    t.1 ∙ ap (λ x. over s (unless x s.host (with_chain s.host h (Some (laid (bytes_of s.host h) i ys)) s.host.room))) d

headless : (m : Store) (layer h end : ℕ) → m.chain h ≡ None → due_copy m layer h end ≡ refuse 14 layer h
headless m layer h end e = ap (λ o. headed o layer h (cond (nat_lt (length (bytes_of m h)) end) (refuse 15 layer h) None)) e

-- whatever is written over a stream's chain, the workbook stays whole: within its units as above, and past them nothing is
module _ (most layer : ℕ) (s z : State) (ok : Lawful most s.host) (okz : Lawful most z.host) (mini : Lawful 4096 (meant_in s)) (w : Whole s) (id : ℕ) (e : Entry) (t : Stream (seen s) id e)
    (i : ℕ) (ys : List ℕ) (r : Result (Unit {0}) Refused) (step : Writing most layer (home_of e.length) e.start i ys s r z) where
  left : (f : Refused) → due_copy (store_in s (home_of e.length)) (layer_in layer (home_of e.length)) e.start (i + length ys) ≡ Some f → Whole z
  left f d = subst Whole (sym (unwritten most layer (home_of e.length) e.start i ys s z r f d step)) w

  pub overlaid : Whole z
  overlaid = ⊎_elim
      (λ empty.
      let at : home_of e.length ≡ Mini = ap home_of empty.0 in
      let no : (store_in s (home_of e.length)).chain e.start ≡ None = (λ j. (store_in s (at j)).chain (empty.1 j)) ∙ end_none 4096 (meant_in s) mini in
      left _ (headless (store_in s (home_of e.length)) (layer_in layer (home_of e.length)) e.start (i + length ys) no))
      (λ some. ⊎_elim
      (λ past.
      let there = own_chain s e.start some.0 (home_of e.length) some.1.chain in
      let bytes = ap (λ o. unwrap_or o []) there in
      left _ (copy_no (store_in s (home_of e.length)) (layer_in layer (home_of e.length)) e.start some.0 there (i + length ys) (omega (arith, past, some.1.units, ap length bytes))))
      (λ inside. laid_whole most layer s z ok okz w id e t some.1.some i ys r inside step)
      (cases_lt (reach (seen s) e.length) (i + length ys)))
      (w.placed.fits id e tt t)
