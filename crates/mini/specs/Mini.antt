-- What a mini store over a host means: a function of the host's meaning and of the table alone. s is the host, L are the
-- links of the table, S is the stack of its free places, and t a number of links.
-- Assumes nothing.
use Rattle.std.specs.Prelude.{◌≡◌, ℕ, ◌+◌, ◌*◌, ◌/◌, ◌%◌, ◌<◌, ◌≤◌, Bool, cond, not, ◌&&◌, ◌||◌, ◌≢◌, ◌⊎◌, List, [], ◌∷◌, length, Some, None, Ok, count_by, Option, Result, ◌==◌, nat_le, slice_index_or}
use Rattle.std.specs.Option.{option_map}
use Rattle.links.specs.Bytes.{link_in}
use Rattle.links.specs.Links.{END, free, at}
use Rattle.store.specs.declared.entries.Entry.{Entry}
use Rattle.store.specs.declared.entries.ObjType.TheVariants.{Unallocated}
use Rattle.store.specs.declared.entries.Words.{Words}
use Rattle.store.specs.Refusals.{Refused, answer}
use Rattle.store.specs.Meaning.{Store, Notes, bytes_of, units_of, with_chain, due_head, moved}
use Rattle.chain.specs.Webs.{Web, stored}
use Rattle.rooms.specs.declared.Ground.{Ground}
use Rattle.rooms.specs.Rooms.{growth}
use Rattle.mini.specs.declared.Asked.{Asked}

-- the root entry, where the mini stream starts, and where the MiniFAT does
abbrev pub root_of : Store → Entry
root_of s = slice_index_or s.notes.entries 0 (record { kind = Unallocated; start = END; length = 0 })

abbrev pub stream_at : Store → ℕ
stream_at s = (root_of s).start

abbrev pub fat_at : Store → ℕ
fat_at s = s.notes.words.start

-- the sectors of the chain that starts there; none are right from END where none need be
abbrev pub sectors_of : Store → ℕ → ℕ → Bool → Result ℕ Refused
sectors_of s layer start none = cond (none && start == END) (Ok 0) (answer (due_head s layer start) (units_of s start))

abbrev pub count_of : Store → ℕ → Bool → Option ℕ
count_of s start none = cond (none && start == END) (Some 0) (option_map (λ xs. length xs / s.unit) (s.chain start))

-- what the host tells
abbrev pub asked_of : Store → Asked
asked_of s = record {
  unit = s.unit;
  room = s.room;
  root = root_of s;
  words = s.notes.words;
  minis = count_of s (stream_at s) ((root_of s).length == 0);
  fats = count_of s (fat_at s) (s.notes.words.count == 0);
}

-- t links fit the root entry r and the words w of a host with such a unit, where the mini stream has m sectors and the
-- MiniFAT f: the two are apart, the root length is of whole mini sectors, one for each link, and within the mini stream,
-- and the MiniFAT has the sectors that are told, and the bytes of each link
abbrev pub fitting : Entry → Words → ℕ → ℕ → ℕ → ℕ → Bool
fitting r w unit m f t =
    (not (r.start == w.start) || w.start == END) && (r.length % 64 == 0 && (nat_le (64 * t) r.length
    && (nat_le r.length (m * unit) && (w.count == f && nat_le (4 * t) (f * unit)))))

-- the figures that room is reckoned from
abbrev pub ground_of : Store → ℕ → Ground
ground_of s t = record {
  unit = s.unit;
  links = t;
  root = (root_of s).length / 64;
  fats = units_of s (fat_at s);
  minis = units_of s (stream_at s);
  spare = s.room;
}

abbrev pub grounded : Store → Option ℕ → Option ℕ → ℕ → Option Ground
grounded s None f t = None
grounded s (Some m) None t = None
grounded s (Some m) (Some f) t = cond (fitting (root_of s) s.notes.words s.unit m f t) (Some (ground_of s t)) None

-- the same where the host bears a table of t links out, else nothing
abbrev pub ground_if : Store → ℕ → Option Ground
ground_if s t = grounded s (asked_of s).minis (asked_of s).fats t

-- a chain is there; from END, where so many bytes or sectors are told, there is none
abbrev pub Present : Store → ℕ → ℕ → Type 0
Present s start n = ((n ≡ 0) × (start ≡ END)) ⊎ ((xs : List ℕ) × (s.chain start ≡ Some xs))

-- the same in words: the host bears a table of t links out
pub record Borne (s : Store) (t : ℕ) : Type 0 where
  pub two : (stream_at s ≢ fat_at s) ⊎ (fat_at s ≡ END)
  pub whole : (root_of s).length % 64 ≡ 0
  pub links : 64 * t ≤ (root_of s).length
  pub inside : (root_of s).length ≤ length (bytes_of s (stream_at s))
  pub counted : s.notes.words.count ≡ units_of s (fat_at s)
  pub table : 4 * t ≤ length (bytes_of s (fat_at s))
  pub stream : Present s (stream_at s) (root_of s).length
  pub fat : Present s (fat_at s) s.notes.words.count

-- what a mini store leaves as it is: the host's entries but for start and length of the root, and its chains but for mini
-- stream and MiniFAT
abbrev pub kept_part : Store → Notes
kept_part s = record {
  entries = moved s.notes.entries 0 END 0;
  words = record { start = END; count = 0 };
  others = λ k. cond (k == stream_at s || k == fat_at s) None (s.chain k);
}

-- the host but for the bytes of the mini stream
abbrev pub sealed : Store → Store
sealed s = with_chain s (stream_at s) None s.room

-- the same figures in a host without room
abbrev pub dry : Ground → Ground
dry g = record { unit = g.unit; links = g.links; root = g.root; fats = g.fats; minis = g.minis; spare = 0 }

-- the mini sectors as units that the table links. Room is the FREE links and the largest growth; ready are those that need
-- no more sectors of the host
abbrev pub web_of : Store → List ℕ → List ℕ → Web
web_of s L S = record {
  unit = 64;
  links = L;
  bytes = bytes_of s (stream_at s);
  stack = S;
  ready = count_by free L + growth (dry (ground_of s (length L)));
  room = count_by free L + growth (ground_of s (length L));
  below = sealed s ∷ [];
  notes = kept_part s;
}

-- shut, a mini store has neither chain nor room
abbrev pub shut_of : Store → Store
shut_of s = record { unit = 64; chain = λ h. None; room = 0; notes = kept_part s }

abbrev pub meant_by : Option Ground → Store → List ℕ → List ℕ → Store
meant_by None s L S = shut_of s
meant_by (Some g) s L S = stored (web_of s L S)

-- what a mini store means: if it is open and the host bears its table out, the mini sectors that the table links
abbrev pub mini : Bool → Store → List ℕ → List ℕ → Store
mini o s L S = meant_by (cond o (ground_if s (length L)) None) s L S

-- the links in the MiniFAT's bytes ys are those of the table: those at its places; and where the root, of r bytes, has more
-- mini sectors than the table has links, all of them, so that those behind the table are FREE
pub record Backed (ys : List ℕ) (r : ℕ) (L : List ℕ) : Type 0 where
  pub links : (p : ℕ) → p < length L → link_in ys p ≡ at L p
  pub rest : 64 * length L < r → (p : ℕ) → p < length ys / 4 → link_in ys p ≡ at L p

-- the MiniFAT's bytes are the links of the table
abbrev pub Synced : Store → List ℕ → Type 0
Synced s L = Backed (bytes_of s (fat_at s)) (root_of s).length L
