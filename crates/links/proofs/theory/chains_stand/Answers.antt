-- Each theorem from its lemma.
-- Assumes nothing.
use Rattle.std.proofs.Common.{ℕ, List, [], ◌∷◌, ◌++◌, set, refl}
use Rattle.links.specs.Links.{FREE, END, at, Head}
use Rattle.links.specs.Chains.{Wrote}
use Rattle.links.specs.Theory.{Sounds}
use Rattle.links.proofs.Paths.{unique, frame, no_repeat, used, same_head}
use Rattle.links.proofs.Members.{in_mid}
use Rattle.links.proofs.Effects.{wrote-set, take-one, append, cut, free_one}
use Rattle.links.proofs.Counts.{inside, path_short, within}
use Rattle.links.proofs.Tables.{grow, trim}
use Rattle.links.proofs.Traces.{chain_head}
use Rattle.links.proofs.Verdicts.{decides}
use Rattle.links.proofs.Wipes.{wipe, wiping_steps, extend, shorten}
use Rattle.links.proofs.theory.chains_stand.Goals as goal

sounds : Sounds
sounds L v ps h = record {
  apart = no_repeat (at L) v ps h;
  used = λ x i. let u = (used (at L) v x ps h i).0 in (inside L x u, u);
  short = path_short L v ps h;
}

-- a write to a place of a head's chain
wrote_on : (L : List ℕ) (h : ℕ) (es : List ℕ) (e v : ℕ) (fs : List ℕ) → Head (at L) h (es ++ e ∷ fs) → Wrote (at L) (at (set L e v)) e v
wrote_on L h es e v fs p = wrote-set L e v (inside L e (used (at L) h e _ p.path (in_mid e es fs)).0)

pub returns : goal.returns
returns c = record {
  unique = λ a v ps qs h k. unique a v v ps qs h refl k;
  framed = λ a b v ps. frame a b v END ps;
  sounds = sounds;
  disjoint = same_head;
  within = within;
  decides = decides;
  heads = λ L p ps few. chain_head L few p ps;
  takes = λ L f k i l e. take-one (at L) _ f k l e (wrote-set L f END i);
  grows = grow;
  appends = λ L h f es e fs k p q n. append (at L) _ h f es e fs k p q n (wrote_on L h es e f [] p);
  extends = extend;
  cuts = λ L h es e q qs k p. cut (at L) _ h es e q qs k p (wrote_on L h es e END (q ∷ qs) p);
  shortens = shorten;
  frees = λ L p qs k h. free_one (at L) _ p qs k h (wrote_on L p [] p FREE qs h);
  wipes = wipe;
  steps = λ a b c h v ps p w. wiping_steps a b h v ps p w c;
  trims = trim;
}
