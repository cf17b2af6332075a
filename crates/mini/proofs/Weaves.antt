-- The mini sectors are linked units: what always holds of them, and what taking and giving back do to chains.
-- Assumes nothing.
use Rattle.std.proofs.Common.{◌≡◌, ℕ, ◌+◌, ◌-◌, ◌*◌, ◌<◌, ◌≤◌, ◌≢◌, List, [], ◌++◌, length, drop, set, replicate, sym, refl, ap, ◌∙◌, append-nil, add-zero, arith}
use Rattle.std.proofs.lemmas.List.{drop_all, length-replicate}
use Rattle.links.specs.Links.{END, at}
use Rattle.links.specs.Chains.{Taken}
use Rattle.links.specs.Stack.{place_after, links_taken}
use Rattle.links.proofs.Counts.{inside}
use Rattle.links.proofs.Effects.{take-one, wrote-set}
use Rattle.links.proofs.Stacks.{Kept}
use Rattle.links.proofs.Takings.{taking}
use Rattle.links.proofs.Wipes.{extend}
use Rattle.store.specs.Meaning.{Store, bytes_of, laid}
use Rattle.chain.specs.Units.{cell}
use Rattle.chain.specs.Webs.{Web, Woven, Took, Behind, Gave, Ended}
use Rattle.chain.proofs.Joined.{length-cell, cell_same, cell_other}
use Rattle.mini.specs.Mini.{stream_at, ground_of, Borne, web_of}
use Rattle.mini.specs.Steps.{zeroed, took_mini, put_mini, ended_mini, gave_mini}
use Rattle.mini.proofs.Growths.{dry_less}

-- what a zeroed mini sector holds, and what the others do
module _ (bs : List ℕ) (p : ℕ) (l : p * 64 + 64 ≤ length bs) where
  zero_long : 0 + length {A = ℕ} (replicate 64 0) ≤ 64
  zero_long = omega (arith, length-replicate {A = ℕ} 64 0)

  pub zeroed_here : cell 64 (zeroed bs p) p ≡ replicate 64 0
  unfolding laid
  zeroed_here =
      let e : p * 64 ≡ p * 64 + 0 = sym (add-zero (p * 64)) in
      let rest : drop (0 + length {A = ℕ} (replicate 64 0)) (cell 64 bs p) ≡ [] = drop_all (0 + length {A = ℕ} (replicate 64 0)) (cell 64 bs p) (omega (arith, length-cell 64 bs p l, length-replicate {A = ℕ} 64 0)) in
      ap (λ k. cell 64 (laid bs k (replicate 64 0)) p) e ∙ cell_same 64 bs p l 0 (replicate 64 0) zero_long ∙ ap (λ zs. replicate 64 0 ++ zs) rest ∙ append-nil _

  pub zeroed_other : (q : ℕ) → q ≢ p → cell 64 (zeroed bs p) q ≡ cell 64 bs q
  zeroed_other q n =
      let e : p * 64 ≡ p * 64 + 0 = sym (add-zero (p * 64)) in
      ap (λ k. cell 64 (laid bs k (replicate 64 0)) q) e ∙ cell_other 64 bs p l 0 (replicate 64 0) zero_long q n

module _ (s : Store) (L S : List ℕ) (few : length L ≤ 4096) (kept : Kept L S) where
  pub mini_woven : Borne s (length L) → Woven (web_of s L S)
  mini_woven b = record { few = few; checked = kept.checked; inner = λ p u. omega (arith, inside L p u, b.links, b.inside) }

  -- a mini sector is taken: whatever table v has, its bytes are zeroed
  module _ (bytes : place_after L S * 64 + 64 ≤ length (bytes_of s (stream_at s))) (ready : 0 < (web_of s L S).ready) where
    took_by : (v : Web) → v.unit ≡ 64 → v.notes ≡ (web_of s L S).notes → v.bytes ≡ zeroed (bytes_of s (stream_at s)) (place_after L S)
        → v.room ≡ (web_of s L S).room - 1 → v.ready ≡ (web_of s L S).ready - 1 → Took (web_of s L S) v (place_after L S)
    took_by v eu en eb er ed = record {
      beside = record { unit = eu; notes = en; other = λ q u n. ap (λ bs. cell 64 bs q) eb ∙ zeroed_other _ _ bytes q n };
      free = (taking L S few kept.stacks).free;
      zero = ap (λ bs. cell 64 bs (place_after L S)) eb ∙ zeroed_here _ _ bytes;
      room = omega (arith, er, ready, dry_less (ground_of s (length L)));
      ready = omega (arith, ed, ready);
    }

    pub took_took : Took (web_of s L S) (took_mini (web_of s L S)) (place_after L S)
    took_took = took_by _ refl refl refl refl refl

    pub took_taken : Taken (at L) (at (links_taken L S)) (place_after L S)
    took_taken = let t = taking L S few kept.stacks in take-one (at L) _ _ kept.checked t.small t.free t.wrote

    pub put_behind : (last : ℕ) → at L last ≡ END → Behind (web_of s L S) (put_mini (web_of s L S) last) last (place_after L S)
    put_behind last e =
        let t = taking L S few kept.stacks in
        let p = place_after L S in
        let n : last ≢ p = λ q. omega (arith, ap (at L) q, t.free) in
        let u : at (links_taken L S) last ≡ END = t.wrote.rest last n ∙ e in
        record {
          took = took_by _ refl refl refl refl refl;
          longer = λ h es d. extend (at L) (at (links_taken L S)) (at (set (links_taken L S) last p)) h p es last kept.checked d t.small t.free t.wrote
              (wrote-set (links_taken L S) last p (inside (links_taken L S) last (omega arith)));
        }

  pub ended_ended : (e : ℕ) → Ended (web_of s L S) (ended_mini (web_of s L S) e) e
  ended_ended e = record { unit = refl; notes = refl; bytes = refl; links = refl; room = refl; ready = refl }

  pub gave_gave : (p : ℕ) → p * 64 + 64 ≤ length (bytes_of s (stream_at s)) → Gave (web_of s L S) (gave_mini (web_of s L S) p) p
  gave_gave p l = record { unit = refl; notes = refl; other = λ q n. zeroed_other _ _ l q n; links = refl; room = refl; ready = refl }
