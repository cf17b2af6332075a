-- What a call makes of a workbook, as its mini store shows it: the table that this keeps while it is shut tells nothing.
-- Assumes nothing.
use Rattle.std.proofs.Common.{◌≡◌, ℕ, ◌≤◌, ◌&&◌, Bool, true, false, List, [], length, None, Ok, Err, Result, sym, refl, ap, ◌∙◌, subst, arith}
use mathlib.Core.Logic.{∥∥₁_elim}
use denote.Struct.Props.{props}
use Rattle.std.proofs.lemmas.Bool.{le-ltb}
use Rattle.std.specs.Prelude.{not, if◌then◌else◌}
use Rattle.links.specs.Links.{free, at, Checked}
use Rattle.links.specs.Stack.{Stacks}
use Rattle.links.proofs.Stacks.{Kept, kept_told}
use Rattle.store.specs.Meaning.{Store, Lawful, entry_of}
use Rattle.mini.specs.Mini.{kept_part, mini}
use Rattle.minifat.specs.Told.{Faulted}
use Rattle.minialloc.specs.States.{State, meant_in, shown_links, as_shown}
use Rattle.workbook.specs.Calls.{Written, WrittenTo, Resized, ResizedTo}
use Rattle.workbook.specs.Events.{Event, opened, measured, read, written, resized, counted, showed_words, showed_entry, showed_links, Performs}
use Rattle.workbook.specs.Opening.{Opened}
use Rattle.workbook.specs.Refusals.{refuse, row, stream_in, stream_of, write_of, fit_of, buffer_of}
use Rattle.workbook.specs.Sights.{seen}
use Rattle.workbook.specs.Whole.{Holds, Meant}
use Rattle.workbook.proofs.Altered.{outcome_written, outcome_resized}
use Rattle.workbook.proofs.Upholding.{write_found, write_left, resize_found, resize_left}

shown_mini : (o : Bool) (m : Store) (L S : List ℕ) → mini o m (if o then L else []) (if o then S else []) ≡ mini o m L S
shown_mini true m L S = refl
shown_mini false m L S = refl

shown_means : (s : State) → meant_in (as_shown s) ≡ meant_in s
shown_means s = shown_mini s.opened s.host s.links s.stack

shown_seen : (s : State) → seen (as_shown s) ≡ seen s
shown_seen s = λ i. record { unit = s.host.unit; entries = (kept_part s.host).entries; large = (kept_part s.host).others; small = (shown_means s i).chain }

-- open, it is shown as it is
shown_open : (s : State) → s.opened ≡ true → as_shown s ≡ s
shown_open s o = λ i. record { opened = s.opened; host = s.host; links = if o i then s.links else []; stack = if o i then s.stack else [] }

none_kept : Kept [] []
none_kept = kept_told [] [] refl refl (λ p. sym (ap (λ b. b && free (at [] p)) (le-ltb p 0 (omega arith))))

few_shown : (o : Bool) (L : List ℕ) → length L ≤ 4096 → length (if o then L else []) ≤ 4096
few_shown true L k = k
few_shown false L k = omega arith

checked_shown : (o : Bool) (L : List ℕ) → Checked (at L) → Checked (at (if o then L else []))
checked_shown true L k = k
checked_shown false L k = none_kept.checked

stacks_shown : (o : Bool) (L S : List ℕ) → Stacks L S → Stacks (if o then L else []) (if o then S else [])
stacks_shown true L S k = k
stacks_shown false L S k = none_kept.stacks

pub meant_shown : {most : ℕ} {s : State} → Meant most s → Meant most (as_shown s)
meant_shown {most} {s} a = record {
  lawful = a.lawful;
  hosted = a.hosted;
  mini = subst (Lawful 4096) (sym (shown_means s)) a.mini;
  few = few_shown s.opened s.links a.few;
  checked = checked_shown s.opened s.links a.checked;
  stacks = stacks_shown s.opened s.links s.stack a.stacks;
}

module _ (most layer : ℕ) where
  -- what a call answers and leaves, where the table stays while it is shut
  abbrev pub Performed : State → Event → State → Type 0
  Performed s (opened strict r) z = Opened layer s strict r (as_shown z)
  Performed s (showed_links L) z = (L ≡ shown_links s) × (z ≡ s)
  Performed s e z = Performs most layer s e z

  shut_stream : (s : State) (id : ℕ) → s.opened ≡ false → stream_of s layer id ≡ Err (refuse 1 0 None)
  shut_stream s id o = ap (λ b. row (not b) (refuse 1 0 None) (stream_in id (entry_of s.host layer id))) o

  module _ (s z : State) (ms : Meant most s) (mz : Meant most z) (hold : Holds s) where
    -- writes and resizes leave it open
    written_open : (id i : ℕ) (ys : List ℕ) (r : Result (Unit {0}) Faulted) → Written most layer s id i ys r z → s.opened ≡ true → z.opened ≡ true
    written_open id i ys (Ok tt) t o =
        let p : IsProp (z.opened ≡ true) = hlevel props in
        let a = write_found most layer s z id i ys t in
        ∥∥₁_elim hold p (λ g. (outcome_written most layer s z ms mz (g o) id a.0 (sym a.1) i ys t).whole.sound.0)
    written_open id i ys (Err f) t o = ap (λ (x : State). x.opened) (write_left most layer s z id i ys f t) ∙ o

    resized_open : (id n : ℕ) (r : Result (Unit {0}) Faulted) → Resized most layer s id n r z → s.opened ≡ true → z.opened ≡ true
    resized_open id n (Ok tt) t o =
        let p : IsProp (z.opened ≡ true) = hlevel props in
        let a = resize_found most layer s z id n t in
        ∥∥₁_elim hold p (λ g. (outcome_resized most layer s z ms mz (g o) id a.0 (sym a.1) n t).whole.sound.0)
    resized_open id n (Err f) t o = ap (λ (x : State). x.opened) (resize_left most layer s z id n f t) ∙ o

    both_open : (e : Event) → s.opened ≡ true → z.opened ≡ true → Performs most layer s e z → Performs most layer (as_shown s) e (as_shown z)
    both_open e o q t = subst (λ (x : State × State). Performs most layer x.0 e x.1) (λ i. (sym (shown_open s o) i, sym (shown_open z q) i)) t

    written_shown : (id i : ℕ) (ys : List ℕ) (r : Result (Unit {0}) Faulted) (b : Bool) → s.opened ≡ b → Written most layer s id i ys r z
        → Written most layer (as_shown s) id i ys r (as_shown z)
    written_shown id i ys r true o t = both_open (written id i ys r) o (written_open id i ys r t o) t
    written_shown id i ys r false o t =
        let D = λ (s z : State) (x : Result _ Faulted). WrittenTo most layer s id i ys (write_of s id i (length ys) x) r z in
        let q = subst (D s z) (shut_stream s id o) t in
        subst (D (as_shown s) (as_shown z)) (sym (shut_stream s id o)) (q.0, ap as_shown q.1)

    resized_shown : (id n : ℕ) (r : Result (Unit {0}) Faulted) (b : Bool) → s.opened ≡ b → Resized most layer s id n r z
        → Resized most layer (as_shown s) id n r (as_shown z)
    resized_shown id n r true o t = both_open (resized id n r) o (resized_open id n r t o) t
    resized_shown id n r false o t =
        let D = λ (s z : State) (x : Result _ Faulted). ResizedTo most layer s id n (fit_of s id n x) r z in
        let q = subst (D s z) (shut_stream s id o) t in
        subst (D (as_shown s) (as_shown z)) (sym (shut_stream s id o)) (q.0, ap as_shown q.1)

    -- so what is shown is what each call is to make of it
    pub shown_performs : (e : Event) → Performed s e z → Performs most layer (as_shown s) e (as_shown z)
    shown_performs (opened strict r) t = t
    shown_performs (measured id r) t = (t.0, ap as_shown t.1)
    shown_performs (read id i out r new) t = (t.0, t.1 ∙ ap (λ v. buffer_of v (stream_of s layer id) i out) (sym (shown_seen s)), ap as_shown t.2)
    shown_performs (written id i ys r) t = written_shown id i ys r s.opened refl t
    shown_performs (resized id n r) t = resized_shown id n r s.opened refl t
    shown_performs (counted r) t = (t.0 ∙ ap (λ (x : Store). row (not s.opened) (refuse 1 0 None) (Ok (s.host.room, x.room))) (sym (shown_means s)), ap as_shown t.1)
    shown_performs (showed_words w) t = (t.0, ap as_shown t.1)
    shown_performs (showed_entry id r) t = (t.0, ap as_shown t.1)
    shown_performs (showed_links L) t = (t.0, ap as_shown t.1)
