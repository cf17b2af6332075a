-- Assumes nothing.
use Rattle.std.proofs.Common.{◌≡◌, ℕ, ◌-◌, List, [], ◌∷◌, length, take, sym, refl, arith}
use Rattle.std.proofs.lemmas.List.{length-take-le, take-take}
use Rattle.std.proofs.lemmas.Option.{slice_get_past}
use Rattle.links.proofs.Prefix.{held_some}
use Rattle.links.proofs.held.Links.pop.Goals as goal

none_taken : (xs : List ℕ) → length xs ≡ 0 → xs ≡ take (length xs - 1) xs
none_taken [] e = refl
none_taken (x ∷ xs) e = absurd (omega arith)

pub returns-then-self-eq0 : goal.returns-then-self-eq0
returns-then-self-eq0 c =
    let s = c.args.self.now in
    let k = length-take-le s.count s.links (omega arith) in
    let z : length (take s.count s.links) ≡ 0 = omega arith in
    record { told = sym (slice_get_past (take s.count s.links) _ (omega arith)); after = none_taken _ z }

pub returns : goal.returns
returns c =
    let s = c.args.self.now in
    let k = length-take-le s.count s.links (omega arith) in
    rw k (record { told = held_some s.links s.count (omega arith) (s.count - 1) (omega arith); after = sym (take-take (s.count - 1) s.count s.links (omega arith)) })
