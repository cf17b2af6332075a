-- Assumes nothing.
use Rattle.std.proofs.Common.{◌≡◌, ℕ, List, Option}
use mathlib.Core.Path.{fun_ext}
use Rattle.store.specs.declared.entries.Entry.{Entry}
use Rattle.store.specs.Meaning.{Store, Notes}
use Rattle.drawer.specs.Drawn.{fresh}
use Rattle.drawer.proofs.Drawer.new.Goals as goal

noting : List Entry → Notes
noting es = record { entries = es; words = fresh.notes.words; others = fresh.notes.others }

same : (es ks : List Entry) (f g : ℕ → Option (List ℕ)) (r s : ℕ) → es ≡ ks → f ≡ g → r ≡ s
    → ◌≡◌ {A = Store} (record { unit = 512; chain = f; room = r; notes = noting es }) (record { unit = 512; chain = g; room = s; notes = noting ks })
same es ks f g r s a b c = rw (a, b, c)

pub returns : goal.returns
unfolding noting
returns c = same _ _ _ _ _ _ c.new-2.ensures (fun_ext (c.new.ensures.chains fresh.notes)) (c.new.ensures.room fresh.notes)
