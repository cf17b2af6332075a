-- What a workbook sees of the entries: all of each, but start and length of the root's.
-- Assumes nothing.
use Rattle.std.proofs.Common.{◌≡◌, ℕ, ◌<◌, ◌≢◌, List, [], ◌∷◌, length, get_or, Some, sym, ap, ◌∙◌, refl, subst, true, eqb, arith}
use Rattle.std.proofs.lemmas.List.{length-set}
use Rattle.std.proofs.lemmas.Option.{slice_get_within, get_or_from_slice_get}
use Rattle.std.specs.List.{slice_get}
use Rattle.links.specs.Links.{END}
use Rattle.store.specs.declared.entries.Entry.{Entry}
use Rattle.store.specs.declared.entries.ObjType.TheVariants.{Unallocated}
use Rattle.store.specs.Kinds.{byte_of}
use Rattle.store.specs.Meaning.{moved}
use Rattle.mini.specs.Mini.{root_of}
use Rattle.minialloc.specs.States.{State}
use Rattle.workbook.specs.Sights.{seen, is_stream, Stream}
use Rattle.workbook.proofs.Effects.{entries_apart}

abbrev none : Entry
none = record { kind = Unallocated; start = 0; length = 0 }

root_kind : (es : List Entry) → 0 < length es → (get_or (moved es 0 END 0) 0 none).kind ≡ (get_or es 0 (record { kind = Unallocated; start = END; length = 0 })).kind
root_kind [] l = absurd (omega arith)
root_kind (x ∷ es) l = refl

-- the entry of a stream is there
pub entry_within : (s : State) (id : ℕ) (e : Entry) → Stream (seen s) id e → id < length s.host.notes.entries
entry_within s id e t = omega (arith, slice_get_within _ id e t.0, length-set s.host.notes.entries 0 (record { kind = (get_or s.host.notes.entries 0 none).kind; start = END; length = 0 }))

-- the root's kind stays where what is seen of the entries does
pub root_stays : (s z : State) → (seen z).entries ≡ (seen s).entries → 0 < length s.host.notes.entries → 0 < length z.host.notes.entries → byte_of (root_of s.host).kind ≡ 5 → byte_of (root_of z.host).kind ≡ 5
root_stays s z e a b r = ap byte_of (sym (root_kind z.host.notes.entries b) ∙ ap (λ es. (get_or es 0 none).kind) e ∙ root_kind s.host.notes.entries a) ∙ r

-- a stream's entry is not the root's
pub no_root : (e : Entry) → is_stream e ≡ true → byte_of e.kind ≢ 5
no_root e is b = let q : eqb 5 2 ≡ true = subst (λ n. eqb n 2 ≡ true) b is in cc

-- so a stream that is seen is an entry of the host
pub entry_seen : (s : State) → byte_of (root_of s.host).kind ≡ 5 → (id : ℕ) (e : Entry) → Stream (seen s) id e → slice_get s.host.notes.entries id ≡ Some e
entry_seen s root id e t = sym (entries_apart s.host.notes.entries id child) ∙ t.0
  where
    child : id ≢ 0
    child z =
        let es = s.host.notes.entries in
        let k : get_or (moved es 0 END 0) 0 none ≡ e = get_or_from_slice_get (moved es 0 END 0) 0 e none (ap (slice_get (moved es 0 END 0)) (sym z) ∙ t.0) in
        no_root e t.1 (ap (λ (d : Entry). byte_of d.kind) (sym k) ∙ ap byte_of (root_kind es (omega (arith, entry_within s id e t))) ∙ root)
