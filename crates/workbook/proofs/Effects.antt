-- What the calls on host and mini store make of what a workbook sees.
-- Assumes nothing.
use mathlib.Core.Path.{fun_ext}
use Rattle.std.proofs.Common.{◌≡◌, ℕ, ◌%◌, ◌<◌, ◌≢◌, ◌||◌, cond, List, [], length, get_or, set, Some, None, Option, eqb, sym, refl, ap, ◌∙◌, subst, inl, inr, ⊎_elim, arith}
use Rattle.std.proofs.lemmas.Bool.{cases_eq, ne_eqb}
use Rattle.std.proofs.lemmas.Map.{update_here, update_apart}
use Rattle.std.specs.Map.{update}
use Rattle.std.proofs.lemmas.List.{get_or-set_other, set_comm}
use Rattle.links.specs.Links.{END}
use Rattle.store.specs.declared.entries.Entry.{Entry}
use Rattle.store.specs.declared.entries.ObjType.TheVariants.{Unallocated}
use Rattle.store.specs.Refusals.{Refused, unless}
use Rattle.store.specs.Meaning.{Store, Notes, Lawful, bytes_of, with_chain, with_notes, moved, entered, due_entry}
use Rattle.chain.specs.Units as Units
use Rattle.chain.specs.Units.{chains_of}
use Rattle.chain.specs.Webs.{stored, path_of}
use Rattle.rooms.specs.declared.Ground.{Ground}
use Rattle.mini.specs.Mini.{root_of, stream_at, fat_at, kept_part, Present, Borne, ground_if, meant_by, mini, Backed}
use Rattle.mini.proofs.Figures.{borne_told}
use Rattle.mini.proofs.Swaps.{bytes_apart, present_apart, borne_with}
use Rattle.minialloc.specs.States.{State, meant_in, web_in, Sound, SyncedIn}
use Rattle.workbook.specs.declared.homes.Home.TheVariants.{Mini, Host}
use Rattle.workbook.specs.Homes.{over}
use Rattle.workbook.proofs.Sights.{get_apart}
use Rattle.std.specs.List.{slice_get}
use Rattle.workbook.specs.Sights.{Sight, seen, rechained}

pub same_sight : (v w : Sight) → v.unit ≡ w.unit → v.entries ≡ w.entries → v.large ≡ w.large → v.small ≡ w.small → v ≡ w
same_sight v w a b c d = λ i. record { unit = a i; entries = b i; large = c i; small = d i }

-- the notes of a mini store are what it leaves of its host
pub notes_of : (s : State) → (meant_in s).notes ≡ kept_part s.host
notes_of s = go (cond s.opened (ground_if s.host (length s.links)) None)
  where
    go : (x : Option Ground) → (meant_by x s.host s.links s.stack).notes ≡ kept_part s.host
    go None = refl
    go (Some g) = refl

-- a chain of the mini store is another one
pub seen_mini : (s z : State) (h r : ℕ) (o : Option (List ℕ)) → z.host.unit ≡ s.host.unit → meant_in z ≡ with_chain (meant_in s) h o r → seen z ≡ rechained (seen s) Mini h o
seen_mini s z h r o u m =
    let notes : kept_part z.host ≡ kept_part s.host = sym (notes_of z) ∙ ap (λ (x : Store). x.notes) m ∙ notes_of s in
    same_sight (seen z) (rechained (seen s) Mini h o) u (ap (λ (n : Notes). n.entries) notes) (ap (λ (n : Notes). n.others) notes) (ap (λ (x : Store). x.chain) m)

-- an open mini store whose host bears it out means the mini sectors that its table links
pub means_of : (most : ℕ) (s : State) → Lawful most s.host → Sound s → meant_in s ≡ stored (web_in s)
means_of most s ok sound = ap (λ p. mini p s.host s.links s.stack) sound.0 ∙ ap (λ x. meant_by x s.host s.links s.stack) (borne_told most s.host ok (length s.links) sound.1)

-- open mini stores whose chains have the same places and whose mini streams the same bytes have the same chains
pub small_by : (most : ℕ) (s z : State) → Lawful most s.host → Lawful most z.host → Sound s → Sound z → path_of z.links ≡ path_of s.links → bytes_of z.host (stream_at z.host) ≡ bytes_of s.host (stream_at s.host)
    → (meant_in z).chain ≡ (meant_in s).chain
unfolding Units.content
small_by most s z ok okz a b paths bytes =
    ap (λ (x : Store). x.chain) (means_of most z okz b)
    ∙ (λ i. chains_of (record { unit = 64; bytes = bytes i; path = paths i; kept = []; below = [] }))
    ∙ sym (ap (λ (x : Store). x.chain) (means_of most s ok a))

-- a chain of the host that is neither mini stream nor MiniFAT is another one
module _ (most : ℕ) (s : State) (ok : Lawful most s.host) (sound : Sound s) (h r : ℕ) (o : Option (List ℕ)) (a : h ≢ stream_at s.host) (b : h ≢ fat_at s.host) where
  abbrev m : Store
  m = with_chain s.host h o r

  at_stream : bytes_of m (stream_at s.host) ≡ bytes_of s.host (stream_at s.host)
  at_stream = bytes_apart s.host h r o (stream_at s.host) (λ e. a (sym e))

  at_fat : bytes_of m (fat_at s.host) ≡ bytes_of s.host (fat_at s.host)
  at_fat = bytes_apart s.host h r o (fat_at s.host) (λ e. b (sym e))

  pub borne_there : Borne m (length s.links)
  borne_there = borne_with s.host h r o (length s.links) (ap length at_stream) (ap length at_fat)
      (present_apart s.host h r o _ _ (λ e. a (sym e)) sound.1.stream) (present_apart s.host h r o _ _ (λ e. b (sym e)) sound.1.fat) sound.1

  pub sound_there : Sound (over s m)
  sound_there = (sound.0, borne_there)

  pub synced_there : SyncedIn s → SyncedIn (over s m)
  synced_there k = subst (λ ys. Backed ys (root_of s.host).length s.links) (sym at_fat) k

  others_there : (k : ℕ) → cond (eqb k (stream_at s.host) || eqb k (fat_at s.host)) None (update eqb s.host.chain h o k)
      ≡ update eqb (λ j. cond (eqb j (stream_at s.host) || eqb j (fat_at s.host)) None (s.host.chain j)) h o k
  others_there k =
      let f = λ (j : ℕ). cond (eqb j (stream_at s.host) || eqb j (fat_at s.host)) None (s.host.chain j) in
      ⊎_elim
      (λ (e : k ≡ h). rw e (rw (ne_eqb h (stream_at s.host) a, ne_eqb h (fat_at s.host) b) (update_here s.host.chain h o) ∙ sym (update_here f h o)))
      (λ n. ap (λ x. cond (eqb k (stream_at s.host) || eqb k (fat_at s.host)) None x) (update_apart s.host.chain h o k n) ∙ sym (update_apart f h o k n)) (cases_eq k h)

  -- the chains of the mini store are the same
  small_there : Lawful most m → (meant_in (over s m)).chain ≡ (meant_in s).chain
  small_there okm = small_by most s (over s m) ok okm sound sound_there refl at_stream

  pub seen_host : Lawful most m → seen (over s m) ≡ rechained (seen s) Host h o
  seen_host okm = same_sight (seen (over s m)) (rechained (seen s) Host h o) refl refl (fun_ext others_there) (small_there okm)

-- an entry but the root's has another start and length
module _ (most : ℕ) (s : State) (ok : Lawful most s.host) (sound : Sound s) (id h n : ℕ) (child : id ≢ 0) (some : 0 < length s.host.notes.entries) where
  abbrev e : Store
  e = with_notes s.host (moved s.host.notes.entries id h n) s.host.notes.words

  pub root_there : root_of e ≡ root_of s.host
  root_there = get_or-set_other s.host.notes.entries id 0 _ _ (λ z. child (sym z))

  pub entered_borne : Borne e (length s.links)
  entered_borne = let t = sound.1 in let q = sym root_there in record {
    two = ⊎_elim (λ d. inl (λ z. d (ap (λ (r : Entry). r.start) (sym root_there) ∙ z))) (λ z. inr z) t.two;
    whole = ap (λ (r : Entry). r.length % 64) root_there ∙ t.whole;
    links = omega (arith, t.links, ap (λ (r : Entry). r.length) root_there);
    inside = omega (arith, t.inside, ap (λ (r : Entry). r.length) root_there, ap (λ (r : Entry). length (bytes_of s.host r.start)) root_there);
    counted = t.counted;
    table = t.table;
    stream = subst (λ (r : Entry). Present s.host r.start r.length) q t.stream;
    fat = t.fat;
  }

  pub entered_sound : Sound (over s e)
  entered_sound = (sound.0, entered_borne)

  pub entered_synced : SyncedIn s → SyncedIn (over s e)
  entered_synced k = subst (λ (r : Entry). Backed (bytes_of s.host (fat_at s.host)) r.length s.links) (sym root_there) k

  abbrev none : Entry
  none = record { kind = Unallocated; start = 0; length = 0 }

  entries_there : moved (moved s.host.notes.entries id h n) 0 END 0 ≡ moved (moved s.host.notes.entries 0 END 0) id h n
  entries_there =
      let es = s.host.notes.entries in
      let a : Entry = record { kind = (get_or es id none).kind; start = h; length = n } in
      let b : Entry = record { kind = (get_or es 0 none).kind; start = END; length = 0 } in
      ap (λ (d : Entry). set (set es id a) 0 (record { kind = d.kind; start = END; length = 0 })) (get_or-set_other es id 0 a none (λ z. child (sym z)))
      ∙ set_comm es id 0 a b child
      ∙ sym (ap (λ (d : Entry). set (set es 0 b) id (record { kind = d.kind; start = h; length = n })) (get_or-set_other es 0 id b none child))

  small_entered : Lawful most e → (meant_in (over s e)).chain ≡ (meant_in s).chain
  small_entered oke = small_by most s (over s e) ok oke sound entered_sound refl (ap (λ (d : Entry). bytes_of s.host d.start) root_there)

  pub seen_entered : Lawful most e → seen (over s e) ≡ record (seen s) { entries = moved (seen s).entries id h n }
  seen_entered oke = same_sight (seen (over s e)) (record (seen s) { entries = moved (seen s).entries id h n }) refl entries_there
      (ap (λ (d : Entry). λ (k : ℕ). cond (eqb k d.start || eqb k (fat_at s.host)) None (s.host.chain k)) root_there) (small_entered oke)

-- setting an entry leaves a host lawful
pub entered_lawful : (most : ℕ) (m : Store) (layer id h n : ℕ) → Lawful most m → Lawful most (entered m layer id h n)
entered_lawful most m layer id h n ok = go (due_entry m layer id)
  where
    go : (d : Option Refused) → Lawful most (unless d m (with_notes m (moved m.notes.entries id h n) m.notes.words))
    go None = record { unit = ok.unit; small = ok.small; few = ok.few; chains = ok.chains; within = ok.within }
    go (Some f) = ok

-- what a workbook sees of the entries is what they are, but for the root's
pub entries_apart : (es : List Entry) (id : ℕ) → id ≢ 0 → slice_get (moved es 0 END 0) id ≡ slice_get es id
entries_apart es id n = get_apart es 0 id _ (record { kind = Unallocated; start = 0; length = 0 }) n
