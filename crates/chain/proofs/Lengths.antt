-- Units put behind a chain one after the other.
-- Assumes nothing.
use Rattle.std.proofs.Common.{◌≡◌, ℕ, suc, ◌+◌, ◌-◌, ◌<◌, ◌≤◌, List, [], ◌∷◌, ◌++◌, Some, unwrap_or, sym, ap, ◌∙◌, arith}
use Rattle.std.proofs.lemmas.Map.{update_here}
use Rattle.links.specs.Links.{END, at}
use Rattle.links.proofs.Paths.{parts}
use Rattle.links.specs.Chains.{Taken}
use Rattle.store.specs.Meaning.{bytes_of, zeros, with_chain}
use Rattle.chain.specs.Webs.{Web, Woven, Took, Behind, EndsWith, stored, with_more, with_new, lengthened}
use Rattle.chain.proofs.Strands.{chains_some, bytes_is, ends_next, behind_stored, took_stored}
use Rattle.chain.proofs.Zeros.{chain_twice, no_zeros, zeros_sum, more-zeros}

-- after i of n units: the chain of h, which ended with last in w, ends with e in v
pub record Growing (next : Web → ℕ) (put : Web → ℕ → Web) (w : Web) (h last n i : ℕ) (v : Web) (e : ℕ) : Type 0 where
  pub front : List ℕ
  pub ends : EndsWith v h e front
  pub some : i ≤ n
  pub ready : v.ready + i ≡ w.ready
  pub room : v.room + i ≡ w.room
  pub left : lengthened next put (n - i) v e ≡ lengthened next put n w last
  pub stores : stored v ≡ with_more w h i

module _ {next : Web → ℕ} {put : Web → ℕ → Web} {w : Web} {h last n : ℕ} where
  pub growing_start : Woven w → ((es : List ℕ) × EndsWith w h last es) → Growing next put w h last n 0 w last
  growing_start ok e =
      let z : n - 0 ≡ n = omega arith in
      let y : w.room - 0 ≡ w.room = omega arith in
      record {
        front = e.0;
        ends = e.1;
        some = omega arith;
        ready = omega arith;
        room = omega arith;
        left = ap (λ k. lengthened next put k w last) z;
        stores = sym (rw y (no_zeros (stored w) h (bytes_of (stored w) h) (chains_some w ok h _ e.1 ∙ ap Some (sym (bytes_is w ok h _ e.1)))));
      }

  module _ {i : ℕ} {v : Web} {e : ℕ} (g : Growing next put w h last n i v e) where
    pub growing_more : {x : Web} {f : ℕ} → i < n → Woven v → Woven x → f ≡ next v → x ≡ put v e → Behind v x e f → Growing next put w h last n (i + 1) x f
    growing_more {x} {f} l wv wx ef ex b =
        let k : n - i ≡ suc (n - (i + 1)) = omega arith in
        let j : i + 1 ≡ suc i = omega arith in
        let r : v.room - 1 ≡ w.room - (i + 1) = omega (arith, g.room) in
        record {
          front = g.front ++ e ∷ [];
          ends = ends_next v x wv wx h e f g.front g.ends b;
          some = omega arith;
          ready = omega (arith, g.ready, b.took.ready);
          room = omega (arith, g.room, b.took.room);
          left = rw (ef, ex) (rw k at g.left);
          stores = behind_stored v x wv wx h e f g.front g.ends b
              ∙ ap (λ s. with_chain s h (Some (bytes_of s h ++ zeros s 1)) (v.room - 1)) g.stores
              ∙ more-zeros (stored w) h (bytes_of (stored w) h) i (w.room - i) (v.room - 1)
              ∙ (λ t. with_chain (stored w) h (Some (bytes_of (stored w) h ++ zeros (stored w) (sym j t))) (r t));
        }

    pub growing_end : at v.links e ≡ END
    growing_end = (parts (at v.links) h END e g.front [] g.ends.path).2

    pub growing_all : n ≤ i → (v ≡ lengthened next put n w last) × (stored v ≡ with_more w h n)
    growing_all l =
        let z : n - i ≡ 0 = omega (arith, g.some) in
        let q : n ≡ i = omega (arith, g.some) in
        (rw z at g.left, rw q g.stores)

-- a chain that is begun with one unit, and lengthened by the others
pub begun : {w v : Web} (x : Web) {f n : ℕ} → Woven w → Woven v → 0 < n → Took w v f → Taken (at w.links) (at v.links) f
    → stored x ≡ with_more v f (n - 1) → stored x ≡ with_new w f n
begun {w} {v} x {f} {n} ww wv some t k e =
    let s = took_stored w v ww wv f t k in
    let r : v.room - (n - 1) ≡ w.room - n = omega (arith, t.room) in
    let m = with_chain (stored w) f (Some (zeros (stored w) 1)) (w.room - 1) in
    let b : bytes_of m f ≡ zeros (stored w) 1 = ap (λ o. unwrap_or o []) (update_here (stored w).chain f (Some (zeros (stored w) 1))) in
    let z : zeros (stored w) 1 ++ zeros (stored w) (n - 1) ≡ zeros (stored w) n = zeros_sum (stored w) 1 (n - 1) ∙ ap (zeros (stored w)) (omega arith) in
    e ∙ ap (λ y. with_chain y f (Some (bytes_of y f ++ zeros y (n - 1))) (v.room - (n - 1))) s
    ∙ chain_twice (stored w) f (Some (zeros (stored w) 1)) (Some (bytes_of m f ++ zeros m (n - 1))) (w.room - 1) (v.room - (n - 1))
    ∙ (λ i. with_chain (stored w) f (Some (b i ++ zeros (stored w) (n - 1))) (r i)) ∙ ap (λ ys. with_chain (stored w) f (Some ys) (w.room - n)) z
