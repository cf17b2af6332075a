-- What taking, joining, cutting off and giving back a mini sector leave. w are the mini sectors, and the one store below
-- them is the host without the bytes of the mini stream.
-- Assumes nothing.
use Rattle.std.specs.Prelude.{◌≡◌, ℕ, ◌+◌, ◌-◌, ◌*◌, ◌%◌, Bool, cond, ltb, List, [], ◌∷◌, ◌++◌, map, length, take, replicate, Some, filter, nat_lt, slice_set}
use Rattle.links.specs.Bytes.{bytes_of_link}
use Rattle.links.specs.Links.{FREE, END}
use Rattle.links.specs.Stack.{place_after, links_taken, stack_taken, trimmed}
use Rattle.store.specs.Meaning.{Store, bytes_of, laid, with_chain, with_notes, moved, wrote, entered}
use Rattle.chain.specs.Webs.{Web}
use Rattle.mini.specs.Mini.{root_of, stream_at, fat_at}

-- the link at p of the MiniFAT's bytes is v
abbrev pub relinked : Store → ℕ → ℕ → Store
relinked s p v = with_chain s (fat_at s) (Some (laid (bytes_of s (fat_at s)) (4 * p) (bytes_of_link v))) s.room

-- the root has another length
abbrev pub rooted : Store → ℕ → Store
rooted s n = with_notes s (moved s.notes.entries 0 (stream_at s) n) s.notes.words

-- a table that grows has 64 bytes more of root length
abbrev pub grown_root : List ℕ → Store → Store
grown_root [] s = rooted s ((root_of s).length + 64)
grown_root (x ∷ S) s = s

abbrev pub zeroed : List ℕ → ℕ → List ℕ
zeroed xs p = laid xs (p * 64) (replicate 64 0)

-- a mini sector is taken, zeroed and linked END
abbrev pub took_mini : Web → Web
took_mini w = record {
  unit = w.unit;
  links = links_taken w.links w.stack;
  bytes = zeroed w.bytes (place_after w.links w.stack);
  stack = stack_taken w.stack;
  ready = w.ready - 1;
  room = w.room - 1;
  below = map (λ s. relinked (grown_root w.stack s) (place_after w.links w.stack) END) w.below;
  notes = w.notes;
}

-- the link at e is v
abbrev pub linked_to : Web → ℕ → ℕ → Web
linked_to w e v = record {
  unit = w.unit;
  links = slice_set w.links e v;
  bytes = w.bytes;
  stack = w.stack;
  ready = w.ready;
  room = w.room;
  below = map (λ s. relinked s e v) w.below;
  notes = w.notes;
}

-- and is put behind the place last
abbrev pub put_mini : Web → ℕ → Web
put_mini w last = linked_to (took_mini w) last (place_after w.links w.stack)

-- a chain ends at the place e
abbrev pub ended_mini : Web → ℕ → Web
ended_mini w e = linked_to w e END

-- a mini sector is linked FREE, zeroed and laid on the stack
abbrev pub gave_mini : Web → ℕ → Web
gave_mini w p = record {
  unit = w.unit;
  links = slice_set w.links p FREE;
  bytes = zeroed w.bytes p;
  stack = w.stack ++ p ∷ [];
  ready = w.ready + 1;
  room = w.room + 1;
  below = map (λ s. relinked s p FREE) w.below;
  notes = w.notes;
}

-- what the host's calls leave for a place p that is taken: where it is fresh the root is longer by 64 bytes, p is linked
-- END, and its mini sector zeroed
abbrev pub link_wrote : Store → ℕ → ℕ → ℕ → Store
link_wrote s layer p v = wrote s layer (fat_at s) (4 * p) (bytes_of_link v)

abbrev pub wiped_at : Store → ℕ → ℕ → Store
wiped_at s layer p = wrote s layer (stream_at s) (p * 64) (replicate 64 0)

abbrev pub longer_root : Store → ℕ → Store
longer_root s layer = entered s layer 0 (stream_at s) (((root_of s).length % 0x100000000 + 64) % 0x100000000)

abbrev pub occupied : Store → ℕ → Bool → ℕ → Store
occupied s layer fresh p = wiped_at (link_wrote (cond fresh (longer_root s layer) s) layer p END) layer p

-- and for one that is given back
abbrev pub vacated : Store → ℕ → ℕ → Store
vacated s layer p = wiped_at (link_wrote s layer p FREE) layer p

-- the root is shorter by 64 bytes for each of n places
abbrev pub shorter_root : Store → ℕ → ℕ → Store
shorter_root s layer n = entered s layer 0 (stream_at s) (((root_of s).length - 64 * n) % 0x100000000)

-- trailing FREE links go from the table L, and their places from the stack S, with 64 bytes of root length each
abbrev pub Trims : ℕ → Store → List ℕ → List ℕ → Store → List ℕ → List ℕ → Type 0
Trims layer s L S s' L' S' =
    (L' ≡ take (trimmed L) L) × (S' ≡ filter (λ p. ltb p (trimmed L)) S)
    × (s' ≡ cond (nat_lt 0 (length L - trimmed L)) (shorter_root s layer (length L - trimmed L)) s)
