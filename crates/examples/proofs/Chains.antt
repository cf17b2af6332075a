-- Which mini sectors are taken, and what is left when they are given back.
-- Assumes nothing.
use Rattle.std.proofs.Common.{◌≡◌, ℕ, ◌-◌, ◌%◌, ◌<◌, List, [], ◌∷◌, length, Ok, sym, refl, ap, ◌∙◌, subst}
use Rattle.std.specs.Prelude.{◌*◌, slice_index_or}
use Rattle.links.specs.Links.{FREE, END}
use Rattle.store.specs.declared.entries.Entry.{Entry}
use Rattle.store.specs.declared.entries.ObjType.TheVariants.{Unallocated}
use Rattle.store.specs.Meaning.{Store, Notes, moved}
use Rattle.chain.specs.Webs.{Web, lengthened}
use Rattle.mini.specs.Mini.{root_of, stream_at, web_of}
use Rattle.mini.specs.Steps.{took_mini, put_mini, shorter_root}
use Rattle.mini.proofs.States.{entered_yes}
use Rattle.mini.proofs.Swaps.{root_moved}
use Rattle.minialloc.specs.States.{State, next_mini, TrimsTo, BeginsChain, FreesChain}
use Rattle.examples.specs.Examples.{OpenedWith, two_free, BeginsBytes, LastFirst, FreedLast, TrimsRoot}

-- the state with another table
abbrev pub tabled : State → List ℕ → List ℕ → State
tabled s L S = record s { links = L; stack = S }

pub links_by : {w v : Web} → w ≡ v → w.links ≡ v.links
links_by e = ap (λ (x : Web). x.links) e

pub stack_by : {w v : Web} → w ≡ v → w.stack ≡ v.stack
stack_by e = ap (λ (x : Web). x.stack) e

-- what follows of a state that has a table follows of one with it
pub at_table : (P : State → Type 0) (s : State) (L S : List ℕ) → s.links ≡ L → s.stack ≡ S → P s → P (tabled s L S)
at_table P s L S e f p = subst (λ K. P (tabled s L K)) f (subst (λ K. P (tabled s K s.stack)) e p)

-- two mini sectors are taken
both_taken : (most layer : ℕ) (s after : State) (h : ℕ) → BeginsChain most layer (tabled s two_free (1 ∷ 3 ∷ [])) 2 (Ok h) after
    → (h ≡ 3) × (after.links ≡ END ∷ END ∷ END ∷ 1 ∷ END ∷ []) × (after.stack ≡ [])
both_taken most layer s after h b =
    let e = b.4 ∙ ap (λ k. lengthened next_mini put_mini 1 (took_mini (web_of b.0 two_free (1 ∷ 3 ∷ []))) k) b.2 in
    (b.2, links_by e, stack_by e)

taken : (most layer : ℕ) (s after : State) (h : ℕ) → OpenedWith two_free s → BeginsBytes most layer s 100 h after → (h ≡ 3) × (after.links ≡ END ∷ END ∷ END ∷ 1 ∷ END ∷ []) × (after.stack ≡ [])
taken most layer s after h o b = both_taken most layer s after h (at_table (λ z. BeginsChain most layer z 2 (Ok h) after) s _ _ o.0 o.1 b)

pub last_first : LastFirst
last_first most layer s after h o b = let t = taken most layer s after h o b in (t.0, t.1)

-- and given back
both_freed : (layer : ℕ) (s after : State) → FreesChain layer (tabled s (END ∷ END ∷ END ∷ 1 ∷ END ∷ []) []) 3 (Ok tt) after → (after.links ≡ two_free) × (after.stack ≡ 3 ∷ 1 ∷ [])
both_freed layer s after f = let t = (at_table (λ q. TrimsTo layer q after) f.0 _ _ (links_by f.2) (stack_by f.2) f.3).0 in (t.0, t.1)

pub freed_last : FreedLast
freed_last most layer s a b after h k o x y z =
    let t = taken most layer s a h o x in
    let u = both_freed layer a b (at_table (λ q. FreesChain layer q 3 (Ok tt) b) a _ _ t.1 t.2 (subst (λ p. FreesChain layer a p (Ok tt) b) t.0 y)) in
    (u.0, (at_table (λ q. BeginsChain most layer q 1 (Ok k) after) b _ _ u.0 u.1 z).2)

-- the notes of what lies below
abbrev pub notes_below : List Store → Notes → Notes
notes_below [] n = n
notes_below (s ∷ ss) n = s.notes

abbrev none : Entry
none = record { kind = Unallocated; start = END; length = 0 }

-- the notes of a host whose root is shorter by 64 bytes for each of n places
abbrev pub shorter_notes : ℕ → Notes → Notes
shorter_notes n x = record {
  entries = moved x.entries 0 (slice_index_or x.entries 0 none).start (((slice_index_or x.entries 0 none).length - 64 * n) % 0x100000000);
  words = x.words;
  others = x.others;
}

-- a table that was trimmed by so many links
pub trimmed_notes : (layer n : ℕ) (m z : Store) (x : Notes) → 0 < length x.entries → m.notes ≡ x → z ≡ shorter_root m layer n → z.notes ≡ shorter_notes n x
trimmed_notes layer n m z x some e q =
    ap (λ (y : Store). y.notes) (q ∙ entered_yes m layer (stream_at m) (((root_of m).length - 64 * n) % 0x100000000) (subst (λ (y : Notes). 0 < length y.entries) (sym e) some))
    ∙ ap (shorter_notes n) e

pub trims_root : TrimsRoot
trims_root layer s after h l r f = go (subst (λ L. FreesChain layer (record s { links = L }) 1 (Ok tt) after) l f)
  where
    go : FreesChain layer (record s { links = END ∷ 2 ∷ END ∷ [] }) 1 (Ok tt) after → (after.links ≡ END ∷ []) × ((root_of after.host).length ≡ 64)
    go f =
        let mid = f.0 in
        let t = (at_table (λ q. TrimsTo layer q after) mid (END ∷ FREE ∷ FREE ∷ []) mid.stack (links_by f.2) refl f.3).0 in
        let notes = trimmed_notes layer 2 mid.host after.host s.host.notes h.some (ap (λ (w : Web). notes_below w.below s.host.notes) f.2) t.2 in (
          t.0,
          ap (λ (x : Notes). (slice_index_or x.entries 0 none).length) notes
              ∙ ap (λ (e : Entry). e.length) (root_moved s.host.notes.entries h.some _ _ none) ∙ ap (λ n. (n - 64 * 2) % 0x100000000) r,
        )
