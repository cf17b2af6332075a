-- What always holds of a mini store.
-- Assumes nothing.
use Rattle.std.proofs.Common.{◌≡◌, ℕ, ◌+◌, ◌*◌, ◌/◌, ◌≤◌, Bool, true, false, List, [], ◌∷◌, length, Some, None, sum_by, Option, unwrap_or, sym, refl, ap, ◌∙◌, ⊎_elim, mul-div_cancel, arith}
use Rattle.std.proofs.lemmas.List.Sums.{sum_by-cons}
use Rattle.std.proofs.lemmas.Bool.{cases_lt}
use Rattle.links.specs.Held.{links_of}
use Rattle.links.specs.Walk.{chain_of}
use Rattle.links.specs.declared.stacked.Stacked.{Stacked}
use Rattle.links.proofs.Stacks.{Kept, kept_of, few_of}
use Rattle.store.specs.Meaning.{Store, Lawful, Chain}
use Rattle.chain.specs.Units.{Whole}
use Rattle.chain.specs.Webs.{Woven, stored, viewed}
use Rattle.chain.proofs.Weaves.{some_told, none_told, units_within, woven_whole}
use Rattle.rooms.specs.declared.Ground.{Ground}
use Rattle.rooms.specs.Rooms.{growth}
use Rattle.rooms.proofs.Rooms.{growth_passes, fits_parts}
use Rattle.mini.specs.Mini.{ground_of, ground_if, Borne, web_of, shut_of, meant_by, mini}
use Rattle.mini.proofs.Figures.{told_borne}
use Rattle.mini.proofs.Weaves.{mini_woven}

-- a table that grows as far as it can has at most 4,096 links
growth_cap : (g : Ground) → g.links ≤ 4096 → growth g + g.links ≤ 4096
growth_cap g l = ⊎_elim (λ p. omega (arith, (fits_parts g (growth g) (growth_passes g p)).0)) (λ z. omega arith) (cases_lt 0 (growth g))

no_units : (hs : List ℕ) → sum_by (λ (h : ℕ). 0) hs ≡ 0
no_units [] = refl
no_units (h ∷ hs) = sum_by-cons (λ (h : ℕ). 0) h hs ∙ omega (arith, no_units hs)

pub shut_lawful : (s : Store) → Lawful 4096 (shut_of s)
shut_lawful s = record {
  unit = omega arith;
  small = omega arith;
  few = omega arith;
  chains = λ h xs e. cc;
  within = λ hs a. omega (arith, no_units hs);
}

module _ (s : Store) (L S : List ℕ) (few : length L ≤ 4096) (kept : Kept L S) (b : Borne s (length L)) where
  web_chain : (h : ℕ) (xs : List ℕ) → (stored (web_of s L S)).chain h ≡ Some xs → Chain 64 h xs
  web_chain h xs e = go (chain_of L h) refl
    where
      ok : Woven (web_of s L S)
      ok = mini_woven s L S few kept b

      go : (o : Option (List ℕ)) → chain_of L h ≡ o → Chain 64 h xs
      go None n = cc (none_told (web_of s L S) ok h n)
      go (Some ps) n =
          let c = some_told (web_of s L S) ok (omega arith) h ps n in
          let x : length xs ≡ length ps * 64 = ap (λ o. length (unwrap_or o [])) (sym e ∙ c.chain) ∙ c.long in
          let d : length xs / 64 ≡ length ps = ap (λ k. k / 64) x ∙ mul-div_cancel (length ps) (omega arith) in
          record { head = omega (arith, c.head.place); some = omega (arith, c.some, x); whole = omega (arith, d, x) }

  pub web_lawful : Lawful 4096 (stored (web_of s L S))
  web_lawful = record {
    unit = omega arith;
    small = omega arith;
    few = omega arith;
    chains = web_chain;
    within = λ hs a. omega (arith, units_within (web_of s L S) (mini_woven s L S few kept b) (omega arith) hs a, growth_cap (ground_of s (length L)) few);
  }

pub mini_lawful : (most : ℕ) (s : Store) → Lawful most s → (o : Bool) (L S : List ℕ) → length L ≤ 4096 → Kept L S → Lawful 4096 (mini o s L S)
mini_lawful most s ok false L S few kept = shut_lawful s
mini_lawful most s ok true L S few kept = go (ground_if s (length L)) refl
  where
    go : (o : Option Ground) → ground_if s (length L) ≡ o → Lawful 4096 (meant_by o s L S)
    go None e = shut_lawful s
    go (Some g) e = web_lawful s L S few kept (told_borne most s ok (length L) g e).0

-- the same of a table with its stack, whose invariant says the rest
module _ (t : Stacked) (s : Store) where
  pub stacked_lawful : (most : ℕ) (o : Bool) → Lawful most s → Lawful 4096 (mini o s (links_of t.links) (links_of t.stack))
  stacked_lawful most o ok = mini_lawful most s ok o _ _ (few_of t.links) (kept_of t)

  pub stacked_woven : Borne s (length (links_of t.links)) → Woven (web_of s (links_of t.links) (links_of t.stack))
  stacked_woven b = mini_woven s _ _ (few_of t.links) (kept_of t) b

  pub stacked_whole : Borne s (length (links_of t.links)) → Whole (viewed (web_of s (links_of t.links) (links_of t.stack)))
  stacked_whole b = woven_whole (web_of s (links_of t.links) (links_of t.stack)) (stacked_woven b) (omega arith)
