-- Assumes nothing.
use Rattle.std.proofs.Common.{false, codes, sym, rules}
use Rattle.std.proofs.lemmas.Str.Pattern.{starts_text}
use Rattle.script.proofs.number.Goals as goal

pub returns-in-None : goal.returns-in-None
returns-in-None c =
    let w = c.args.word.now in
    let decimal = sym (starts_text false (codes "0x") w c.in-None.ensures.cases) in
    search rules
