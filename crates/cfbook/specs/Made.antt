-- What a line of a script makes of a workbook, or of a chain store.
-- Assumes nothing.
use Rattle.std.specs.Prelude.{◌≡◌, ℕ, List, None, Some, Ok, Err, Option, Result}
use Rattle.calls.specs.declared.faults.Fault as text
use Rattle.calls.specs.declared.faults.Fault.TheVariants.{Wrong, Memory}
use Rattle.calls.specs.Answers.{Answered, replied}
use Rattle.calls.specs.Answers as told_by
use Rattle.calls.specs.Scripts.{asked}
use Rattle.calls.specs.Scripts as said_by
use Rattle.calls.specs.declared.answers.Answer as chain
use Rattle.calls.specs.declared.lines.Call.{Call}
use Rattle.calls.specs.declared.lines.NotACall as words
use Rattle.edits.specs.Scripts.{Said, line_of}
use Rattle.edits.specs.declared.answers.Answer.{Answer}
use Rattle.edits.specs.declared.lines.NotACall.{NotACall}
use Rattle.minifat.specs.Told.{told_of}
use Rattle.replay.specs.Replays.{reply, Asked}
use Rattle.store.specs.Meaning.{Store}
use Rattle.store.specs.Refusals.{told}
use Rattle.store.specs.declared.faults.Fault.{Fault}
use Rattle.store.specs.declared.faults.StoreFault.{StoreFault}
use Rattle.store.specs.declared.stores.ChainStore.{Ghosts}
use Rattle.workbook.specs.declared.Workbook.{Workbook}
use Rattle.workbook.specs.Promises.{state_of}

-- the call that the words of a line say is made, and keeps what calls promise; nothing is changed where they say none, are no
-- call, or there is no memory
abbrev pub Made : {X : Type 0} {K : Ghosts X} → Workbook X K → List (List ℕ) → Result (Option (Result Answer Fault)) (text.Fault NotACall) → Workbook X K → Type 0
Made w ws (Ok (Some r)) z = (c : Said) × (line_of ws ≡ Ok (Some c)) × Asked w c (told_of reply r) z
Made w ws (Ok None) z = (line_of ws ≡ Ok None) × (state_of z ≡ state_of w)
Made w ws (Err (Wrong e)) z = (line_of ws ≡ Err e) × (state_of z ≡ state_of w)
Made w ws (Err (Memory e)) z = state_of z ≡ state_of w

-- the same of a chain store, which is of that layer and means m
abbrev pub MadeOf : Store → ℕ → List (List ℕ) → Result (Option (Result chain.Answer StoreFault)) (text.Fault words.NotACall) → Store → Type 0
MadeOf m layer ws (Ok (Some r)) after = (c : Call) × (said_by.line_of ws ≡ Ok (Some (asked c))) × Answered m layer c (replied told_by.reply (told r)) after
MadeOf m layer ws (Ok None) after = (said_by.line_of ws ≡ Ok None) × (after ≡ m)
MadeOf m layer ws (Err (Wrong e)) after = (said_by.line_of ws ≡ Err e) × (after ≡ m)
MadeOf m layer ws (Err (Memory e)) after = after ≡ m
