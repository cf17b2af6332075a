-- The calls of a mini store leave the unit of its host; and freeing and cutting leave its room.
-- Assumes nothing.
use Rattle.std.proofs.Common.{◌≡◌, ℕ, zero, suc, ◌-◌, Bool, true, false, cond, List, [], ◌∷◌, length, map, get_or, count_by, Ok, Err, None, Some, Option, Result, sym, refl, ap, ◌∙◌}
use Rattle.std.specs.Prelude.{nat_lt}
use Rattle.links.specs.Links.{FREE, END, free, at}
use Rattle.links.specs.Stack.{trimmed}
use Rattle.links.specs.Walk.{last_or}
use Rattle.store.specs.declared.entries.Entry.{Entry}
use Rattle.store.specs.Refusals.{Refused, unless}
use Rattle.store.specs.Meaning.{Store, Begins, wrote, entered, with_notes, due_copy, due_extend, due_entry}
use Rattle.chain.specs.Webs.{Web, path_of, lengthened, released, shortened}
use Rattle.rooms.specs.declared.Ground.{Ground}
use Rattle.mini.specs.Adding.{GrowsBy, filled, fats_told, AddsFatsBy, minis_told, AddsMinisBy, Reserves}
use Rattle.mini.specs.Mini.{ground_of, web_of, sealed}
use Rattle.mini.specs.Steps.{took_mini, put_mini, ended_mini, gave_mini, grown_root, relinked, shorter_root}
use Rattle.minialloc.specs.States.{State, web_in, next_mini, Writes, BeginsChain, ExtendsChain, CutsChain, FreesChain, TrimsTo}

-- a figure of what is left is that of what was there, where it is that of what is made
unless_same : (f : Store → ℕ) (due : Option Refused) (a b : Store) → f b ≡ f a → f (unless due a b) ≡ f a
unless_same f None a b e = e
unless_same f (Some x) a b e = refl

abbrev unit : Store → ℕ
unit s = s.unit

abbrev room : Store → ℕ
room s = s.room

pub entered_unit : (s : Store) (layer id h n : ℕ) → (entered s layer id h n).unit ≡ s.unit
entered_unit s layer id h n = unless_same unit (due_entry s layer id) s _ refl

begins_unit : (s : Store) (layer n : ℕ) (r : Result ℕ Refused) (z : Store) → Begins s layer n r z → z.unit ≡ s.unit
begins_unit s layer n (Ok h) z b = ap (λ (x : Store). x.unit) b.3
begins_unit s layer n (Err f) z b = ap (λ (x : Store). x.unit) b.1

grows_unit : (o : Bool) (s : Store) (layer start n : ℕ) (r : Result ℕ Refused) (z : Store) → GrowsBy o s layer start n r z → z.unit ≡ s.unit
grows_unit true s layer start n r z g = begins_unit s layer n r z g
grows_unit false s layer start n r z g = ap (λ (x : Store). x.unit) g.1 ∙ unless_same unit (due_extend s layer start n) s _ refl

wrote_unit : (s : Store) (layer h i : ℕ) (ys : List ℕ) → (wrote s layer h i ys).unit ≡ s.unit
wrote_unit s layer h i ys = unless_same unit (due_copy s layer h _) s _ refl

filled_unit : (n : ℕ) (s : Store) (layer h rank : ℕ) → (filled n s layer h rank).unit ≡ s.unit
filled_unit zero s layer h rank = refl
filled_unit (suc n) s layer h rank = filled_unit n _ layer h _ ∙ wrote_unit s layer h _ _

fats_told_unit : (r : Result ℕ Refused) (s : Store) (layer had n : ℕ) → (fats_told r s layer had n).unit ≡ s.unit
fats_told_unit (Ok h) s layer had n = filled_unit n _ layer h had
fats_told_unit (Err f) s layer had n = refl

minis_told_unit : (r : Result ℕ Refused) (s : Store) (layer long : ℕ) → (minis_told r s layer long).unit ≡ s.unit
minis_told_unit (Ok h) s layer long = unless_same unit (due_entry s layer 0) s _ refl
minis_told_unit (Err f) s layer long = refl

adds_fats_unit : (o : Bool) (s : Store) (layer n : ℕ) (z : Store) → AddsFatsBy o s layer n z → z.unit ≡ s.unit
adds_fats_unit true s layer n z e = ap (λ (x : Store). x.unit) e
adds_fats_unit false s layer n z e = ap (λ (x : Store). x.unit) e.3 ∙ fats_told_unit e.0 e.1 layer _ n ∙ grows_unit _ s layer _ n e.0 e.1 e.2

adds_minis_unit : (o : Bool) (s : Store) (layer n : ℕ) (z : Store) → AddsMinisBy o s layer n z → z.unit ≡ s.unit
adds_minis_unit true s layer n z e = ap (λ (x : Store). x.unit) e
adds_minis_unit false s layer n z e = ap (λ (x : Store). x.unit) e.3 ∙ minis_told_unit e.0 e.1 layer _ ∙ grows_unit _ s layer _ n e.0 e.1 e.2

reserves_unit : (most : ℕ) (s : Store) (layer : ℕ) (g : Ground) (k : ℕ) (z : Store) → Reserves most s layer g k z → z.unit ≡ s.unit
reserves_unit most s layer g k z e = adds_minis_unit _ e.0 layer _ z e.3 ∙ adds_fats_unit _ s layer _ e.0 e.2

-- a figure of the store that lies below the mini sectors
abbrev first : (Store → ℕ) → List Store → ℕ
first f [] = 0
first f (s ∷ ss) = f s

first_map : (f : Store → ℕ) (c : Store → Store) → ((s : Store) → f (c s) ≡ f s) → (ss : List Store) → first f (map c ss) ≡ first f ss
first_map f c e [] = refl
first_map f c e (s ∷ ss) = e s

rooted_unit : (S : List ℕ) (s : Store) → (grown_root S s).unit ≡ s.unit
rooted_unit [] s = refl
rooted_unit (x ∷ S) s = refl

put_unit : (w : Web) (e : ℕ) → first unit (put_mini w e).below ≡ first unit w.below
put_unit w e = first_map unit _ (λ s. refl) (took_mini w).below ∙ first_map unit _ (λ s. rooted_unit w.stack s) w.below

lengthened_unit : (n : ℕ) (w : Web) (e : ℕ) → first unit (lengthened next_mini put_mini n w e).below ≡ first unit w.below
lengthened_unit zero w e = refl
lengthened_unit (suc n) w e = lengthened_unit n (put_mini w e) _ ∙ put_unit w e

released_same : (f : Store → ℕ) → ((s : Store) (p v : ℕ) → f (relinked s p v) ≡ f s) → (n : ℕ) (w : Web) (p : ℕ) → first f (released gave_mini n w p).below ≡ first f w.below
released_same f e zero w p = refl
released_same f e (suc n) w p = released_same f e n (gave_mini w p) _ ∙ first_map f _ (λ s. e s p FREE) w.below

shortened_same : (f : Store → ℕ) → ((s : Store) (p v : ℕ) → f (relinked s p v) ≡ f s) → (k n : ℕ) (w : Web) (p : ℕ) → first f (shortened ended_mini gave_mini k n w p).below ≡ first f w.below
shortened_same f e k n w p = go (nat_lt k n)
  where
    go : (b : Bool) → first f (cond b (released gave_mini (n - k) (ended_mini w p) (at w.links p)) w).below ≡ first f w.below
    go true = released_same f e (n - k) (ended_mini w p) (at w.links p) ∙ first_map f _ (λ s. e s p END) w.below
    go false = refl

-- trimming leaves what setting an entry leaves
trims_same : (f : Store → ℕ) → ((m : Store) (es : List Entry) → f (with_notes m es m.notes.words) ≡ f m) → (layer : ℕ) (s z : State) → TrimsTo layer s z → f z.host ≡ f s.host
trims_same f e layer s z t = ap f t.0.2 ∙ go (nat_lt 0 (length s.links - trimmed s.links))
  where
    go : (b : Bool) → f (cond b (shorter_root s.host layer (length s.links - trimmed s.links)) s.host) ≡ f s.host
    go true = unless_same f (due_entry s.host layer 0) s.host _ (e s.host _)
    go false = refl

-- and so does freeing a chain
frees_same : (f : Store → ℕ) → ((s : Store) (p v : ℕ) → f (relinked s p v) ≡ f s) → ((m : Store) (es : List Entry) → f (with_notes m es m.notes.words) ≡ f m) → ((m : Store) → f (sealed m) ≡ f m)
    → (layer : ℕ) (s z : State) (h : ℕ) (r : Result (Unit {0}) Refused) → FreesChain layer s h r z → f z.host ≡ f s.host
frees_same f a b o layer s z h (Ok _) c =
    trims_same f b layer c.0 z c.3 ∙ sym (o c.0.host) ∙ ap (λ (w : Web). first f w.below) c.2 ∙ released_same f a (length (path_of s.links h)) (web_in s) h ∙ o s.host
frees_same f a b o layer s z h (Err g) c = ap (λ (x : State). f x.host) c

-- the calls
pub write_unit : (s z : State) (h i : ℕ) (ys : List ℕ) (r : Result (Unit {0}) Refused) → Writes s h i ys r z → z.host.unit ≡ s.host.unit
write_unit s z h i ys (Ok _) w = ap (first unit) w.3.below
write_unit s z h i ys (Err f) w = ap (λ (x : State). x.host.unit) w

pub begin_unit : (most layer : ℕ) (s z : State) (n : ℕ) (r : Result ℕ Refused) → BeginsChain most layer s n r z → z.host.unit ≡ s.host.unit
begin_unit most layer s z n (Ok h) b =
    ap (λ (w : Web). first unit w.below) b.4 ∙ lengthened_unit (n - 1) (took_mini (web_of b.0 s.links s.stack)) h
    ∙ rooted_unit s.stack _ ∙ reserves_unit most s.host layer (ground_of s.host (length s.links)) (n - count_by free s.links) b.0 b.1
begin_unit most layer s z n (Err f) b = ap (λ (x : State). x.host.unit) b

pub extend_unit : (most layer : ℕ) (s z : State) (h n : ℕ) (r : Result (Unit {0}) Refused) → ExtendsChain most layer s h n r z → z.host.unit ≡ s.host.unit
extend_unit most layer s z h n (Ok _) b =
    ap (λ (w : Web). first unit w.below) b.3 ∙ lengthened_unit n (web_of b.0 s.links s.stack) (last_or 0 (path_of s.links h)) ∙ reserves_unit most s.host layer (ground_of s.host (length s.links)) (n - count_by free s.links) b.0 b.1
extend_unit most layer s z h n (Err f) b = ap (λ (x : State). x.host.unit) b

pub cut_unit : (layer : ℕ) (s z : State) (h k : ℕ) (r : Result (Unit {0}) Refused) → CutsChain layer s h k r z → z.host.unit ≡ s.host.unit
cut_unit layer s z h k (Ok _) c =
    trims_same unit (λ m es. refl) layer c.0 z c.3 ∙ ap (λ (w : Web). first unit w.below) c.2 ∙ shortened_same unit (λ s p v. refl) k (length (path_of s.links h)) (web_in s) (get_or (path_of s.links h) (k - 1) 0)
cut_unit layer s z h k (Err f) c = ap (λ (x : State). x.host.unit) c

pub free_unit : (layer : ℕ) (s z : State) (h : ℕ) (r : Result (Unit {0}) Refused) → FreesChain layer s h r z → z.host.unit ≡ s.host.unit
free_unit = frees_same unit (λ s p v. refl) (λ m es. refl) (λ m. refl)

-- and the room of the host, where a chain is freed
pub free_room : (layer : ℕ) (s z : State) (h : ℕ) (r : Result (Unit {0}) Refused) → FreesChain layer s h r z → z.host.room ≡ s.host.room
free_room = frees_same room (λ s p v. refl) (λ m es. refl) (λ m. refl)
