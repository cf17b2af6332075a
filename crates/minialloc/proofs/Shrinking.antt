-- Cutting and freeing a chain, and the trimming behind.
-- Assumes nothing.
use Rattle.std.proofs.Common.{◌≡◌, ℕ, zero, suc, ◌+◌, ◌-◌, ◌*◌, ◌<◌, ◌≤◌, ◌≢◌, ◌⊎◌, List, [], ◌∷◌, length, get_or, take, Some, None, Ok, Result, sym, refl, ap, ◌∙◌, subst, inl, inr, ⊎_elim, arith}
use Rattle.links.specs.Links.{at}
use Rattle.links.specs.Walk.{reach}
use Rattle.store.specs.declared.faults.Refusal.TheVariants.{BadCount}
use Rattle.store.specs.Refusals.{Refused, refused_by, answer}
use Rattle.store.specs.Meaning.{bytes_of, with_chain, due_head, due_cut, cut_to, freed}
use Rattle.chain.specs.Webs.{stored, path_of, shortened, released}
use Rattle.chain.proofs.Dues.{cut_no, cut_done, freed_done}
use Rattle.mini.specs.Steps.{ended_mini, gave_mini}
use Rattle.mini.proofs.Rests.{Trimmed, trimmed_done}
use Rattle.mini.proofs.Told.{means_open}
use Rattle.minialloc.specs.States.{State, meant_in, web_in, Sound, SyncedIn, TrimsTo, CutsChain, FreesChain}
use Rattle.minialloc.specs.declared.Found.{Found}
use Rattle.minialloc.proofs.Copies.{chain_here, units_here}
use Rattle.minialloc.proofs.Lasting.{Lasting, Seen}

reach_place : (d : ℕ) (ps : List ℕ) (r : ℕ) → r < length ps → reach d ps r ≡ get_or ps r 0
reach_place d [] r l = absurd (omega arith)
reach_place d (x ∷ ps) zero l = refl
reach_place d (x ∷ ps) (suc r) l = reach_place x ps r (omega arith)

module _ {most : ℕ} {s z : State} {h r : ℕ} {f : Found} (a : Seen most s z h r f) (k : ℕ) where
  -- a cut that keeps none, or more than there are
  pub cut_due : (k ≡ 0) ⊎ ((k ≢ 0) × (f.chain.units < k)) → due_cut (meant_in s) 3 h k ≡ Some (refused_by (record { refusal = BadCount; layer = 3; place = h }))
  cut_due e = cut_no (meant_in s) 3 h _ (chain_here a) k (⊎_elim (λ q. inl q) (λ q. inr (omega (arith, q.1, units_here a))) e)

  -- the place that the chain is cut behind
  pub cut_place : r ≡ k - 1 → k ≢ 0 → k ≤ f.chain.units → f.chain.place ≡ get_or (path_of z.links h) (k - 1) 0
  cut_place e p l = a.place ∙ ap (reach 0 (path_of z.links h)) e ∙ reach_place 0 (path_of z.links h) (k - 1) (omega (arith, l, p, a.units))

-- x is the state when the units are given back, and y when the table is trimmed
module _ {most : ℕ} (layer : ℕ) {s z x y : State} {h r : ℕ} {f : Found} (a : Seen most s z h r f) (okx : Lasting most x) (oky : Lasting most y) (sound : Sound x) (tr : TrimsTo layer x y) (same : at y.links ≡ at x.links) where
  trim : Trimmed x.host y.host x.links y.links x.stack y.stack
  trim = trimmed_done most layer x.host y.host okx.lawful okx.hosted x.links x.stack y.links y.stack okx.few okx.kept oky.few oky.kept sound.1 tr.0 same

  trim_means : meant_in y ≡ stored (web_in x)
  trim_means = means_open most y.host oky.lawful y.links y.stack oky.few oky.kept y.opened (tr.1 ∙ sound.0) trim.borne ∙ trim.means

  opened : x.opened ≡ z.opened
  opened = sound.0 ∙ sym a.base.sound.0

  pub trim_sound : Sound y
  trim_sound = (tr.1 ∙ sound.0, trim.borne)

  pub trim_synced : SyncedIn x → SyncedIn y
  trim_synced = trim.synced

  pub cut_yes : (k : ℕ) → k ≢ 0 → k ≤ f.chain.units → stored (web_in x) ≡ with_chain (stored (web_in z)) h (Some (take (k * 64) (bytes_of (stored (web_in z)) h))) ((web_in z).room + (f.chain.units - k))
      → ◌≡◌ {A = Result (Unit {0}) Refused} (Ok tt) (answer (due_cut (meant_in s) 3 h k) tt) × (meant_in y ≡ cut_to (meant_in s) 3 h k)
  cut_yes k p l is = cut_done (meant_in s) (stored (web_in z)) (meant_in y) 3 a.base.means h _ a.chained.chain k p (omega (arith, l, a.chained.units))
      (trim_means ∙ is ∙ ap (λ i. with_chain (stored (web_in z)) h (Some (take (k * 64) (bytes_of (stored (web_in z)) h))) ((web_in z).room + (i - k))) (sym a.chained.units))

  pub cut_cuts : (k : ℕ) → f.chain.place ≡ get_or (path_of z.links h) (k - 1) 0 → web_in x ≡ shortened ended_mini gave_mini k f.chain.units (web_in z) f.chain.place → CutsChain layer s h k (Ok tt) y
  cut_cuts k p w = subst (λ q. CutsChain layer q h k (Ok tt) y) a.base.same
      (x, opened, w ∙ (λ i. shortened ended_mini gave_mini k (a.units i) (web_in z) (p i)), tr)

  pub freed_yes : stored (web_in x) ≡ with_chain (stored (web_in z)) h None ((web_in z).room + f.chain.units)
      → ◌≡◌ {A = Result (Unit {0}) Refused} (Ok tt) (answer (due_head (meant_in s) 3 h) tt) × (meant_in y ≡ freed (meant_in s) 3 h)
  freed_yes is = freed_done (meant_in s) (stored (web_in z)) (meant_in y) 3 a.base.means h _ a.chained.chain
      (trim_means ∙ is ∙ ap (λ i. with_chain (stored (web_in z)) h None ((web_in z).room + i)) (sym a.chained.units))

  pub freed_frees : web_in x ≡ released gave_mini f.chain.units (web_in z) h → FreesChain layer s h (Ok tt) y
  freed_frees w = subst (λ q. FreesChain layer q h (Ok tt) y) a.base.same (x, opened, w ∙ (λ i. released gave_mini (a.units i) (web_in z) h), tr)
