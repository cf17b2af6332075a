-- Examples of the definitions that the contracts use. layer is the host's layer, and most the most units that it has.
-- Assumes nothing.
use Rattle.std.specs.Prelude.{◌≡◌, ℕ, Bool, true, cond, List, [], ◌∷◌, ◌++◌, length, replicate, Some, None, Ok, Err, Result, ◌==◌}
use Rattle.links.specs.Links.{FREE, END}
use Rattle.links.specs.Check.{verdict}
use Rattle.links.specs.Stack.{free_places}
use Rattle.store.specs.declared.entries.Entry.{Entry}
use Rattle.store.specs.declared.entries.ObjType.TheVariants as Kind
use Rattle.store.specs.Meaning.{Store, Hosted, units_of}
use Rattle.mini.specs.Mini.{root_of}
use Rattle.minifat.specs.Table.{checked_by}
use Rattle.minifat.specs.Told.{Faulted}
use Rattle.minialloc.specs.States.{State, meant_in, Sound, BeginsChain, FreesChain}
use Rattle.drawer.specs.Drawn.{fresh}
use Rattle.workbook.specs.Calls.{Resized}
use Rattle.workbook.specs.Homes.{BeginsIn, FreesIn}
use Rattle.workbook.specs.Opening.{Opened}
use Rattle.workbook.specs.Reading.{stream_bytes}
use Rattle.workbook.specs.Refusals.{refuse, stream_of, fit_of, rooms_of}
use Rattle.workbook.specs.Sights.{seen, home_of, needed, Stream}
use Rattle.workbook.specs.Whole.{Whole, Meant}

-- two links to place 2: refused with 7 at place 1, where the second is
abbrev pub twice : List ℕ
twice = 2 ∷ 2 ∷ END ∷ []

abbrev pub PointedToTwice : Type 0
PointedToTwice = checked_by (verdict twice) twice ≡ Err (record { number = 7; layer = 3; place = 1; lower = None })

-- a workbook over a fresh drawer, opened: 64 units of room, and 480 mini sectors, as 60 units hold them and 4 their links
abbrev pub FreshRoom : Type 0
FreshRoom = (strict : Bool) (s : State) (r : Result (Unit {0}) Faulted) (after : State) → s.host ≡ fresh → Opened 2 s strict r after
    → (r ≡ Ok tt) × (rooms_of after ≡ Ok (64, 480))

-- a host of units of 4,096 bytes without room, with neither mini stream nor MiniFAT: entry 1 is a stream of 4,096 bytes, in
-- the chain of head 0
abbrev pub large : Entry
large = record { kind = Kind.Stream; start = 0; length = 4096 }

abbrev pub full : Store
full = record {
  unit = 4096;
  chain = λ h. cond (h == 0) (Some (replicate 4096 0)) None;
  room = 0;
  notes = record {
    entries = record { kind = Kind.Root; start = END; length = 0 } ∷ large ∷ [];
    words = record { start = END; count = 0 };
    others = λ k. None;
  };
}

abbrev pub over_full : State
over_full = record { opened = true; host = full; links = []; stack = [] }

-- the unit that the stream gives back is one, and its mini sectors would take two, one for their links: so it cannot have
-- 4,095 bytes, but it can have none
abbrev pub NoRoomToMove : Type 0
NoRoomToMove = (layer : ℕ) → (fit_of over_full 1 4095 (stream_of over_full layer 1) ≡ Err (refuse 5 1 None))
    × (fit_of over_full 1 0 (stream_of over_full layer 1) ≡ Ok large)

-- a table as it is when it was opened
abbrev pub OpenedWith : List ℕ → State → Type 0
OpenedWith L s = (s.links ≡ L) × (s.stack ≡ free_places L)

-- the places 1 and 3 are free
abbrev pub two_free : List ℕ
two_free = END ∷ FREE ∷ END ∷ FREE ∷ END ∷ []

-- a stream of so many bytes gets its mini sectors
abbrev pub BeginsBytes : ℕ → ℕ → State → ℕ → ℕ → State → Type 0
BeginsBytes most layer s n h after = BeginsChain most layer s (needed (seen s) (home_of n) n) (Ok h) after

-- the free places are laid rising, and the last is taken first: 100 bytes start at 3, which leads to 1, the end
abbrev pub LastFirst : Type 0
LastFirst = (most layer : ℕ) (s after : State) (h : ℕ) → OpenedWith two_free s → BeginsBytes most layer s 100 h after
    → (h ≡ 3) × (after.links ≡ END ∷ END ∷ END ∷ 1 ∷ END ∷ [])

-- they are freed again, 3 first and then 1: so 64 bytes start at 1
abbrev pub FreedLast : Type 0
FreedLast = (most layer : ℕ) (s a b after : State) (h k : ℕ) → OpenedWith two_free s → BeginsBytes most layer s 100 h a → FreesChain layer a h (Ok tt) b
    → BeginsBytes most layer b 64 k after → (b.links ≡ two_free) × (k ≡ 1)

-- the chain of 1 and 2 is freed at the end of a table with 192 bytes of root length: one link is left, and 64 bytes
abbrev pub TrimsRoot : Type 0
TrimsRoot = (layer : ℕ) (s after : State) → Hosted s.host → s.links ≡ END ∷ 2 ∷ END ∷ [] → (root_of s.host).length ≡ 192 → FreesChain layer s 1 (Ok tt) after
    → (after.links ≡ END ∷ []) × ((root_of after.host).length ≡ 64)

-- so many links, and so many sectors of the MiniFAT by the header's count
abbrev pub Has : ℕ → ℕ → State → Type 0
Has t n s = (length s.links ≡ t) × (s.host.notes.words.count ≡ n)

-- 128 links fill a MiniFAT of one sector of 512 bytes; with the next link it has a second, which it keeps when that link goes
-- and comes again
abbrev pub KeepsSectors : Type 0
KeepsSectors = (most layer : ℕ) (s a b c : State) (h k : ℕ) → Meant most s → Meant most a → Meant most b → Sound s → s.host.unit ≡ 512
    → OpenedWith (replicate 128 END) s → s.host.notes.words.count ≡ 1
    → BeginsIn most layer s (home_of 64) 1 (Ok h) a → FreesIn layer a (home_of 64) h (Ok tt) b → BeginsIn most layer b (home_of 64) 1 (Ok k) c
    → Has 129 2 a × Has 128 2 b × Has 129 2 c

-- a stream of 10 bytes that is resized to 70 has two mini sectors, and behind its 10 bytes 60 zeros
abbrev pub GrowsByZeros : Type 0
GrowsByZeros = (most layer id : ℕ) (s after : State) (e : Entry) → Meant most s → Whole s → Meant most after → stream_of s layer id ≡ Ok e → e.length ≡ 10
    → Resized most layer s id 70 (Ok tt) after
    → (d : Entry) × Stream (seen after) id d × (units_of (meant_in after) d.start ≡ 2) × (stream_bytes after.host d ≡ stream_bytes s.host e ++ replicate 60 0)

pub record Examples : Type 0 where
  pub pointed_to_twice : PointedToTwice
  pub fresh_room : FreshRoom
  pub no_room_to_move : NoRoomToMove
  pub last_first : LastFirst
  pub freed_last : FreedLast
  pub trims_root : TrimsRoot
  pub keeps_sectors : KeepsSectors
  pub grows_by_zeros : GrowsByZeros
