-- The units of a chain given back one after the other, from its head on.
-- Assumes nothing.
use Rattle.std.proofs.Common.{◌≡◌, ℕ, suc, ◌+◌, ◌-◌, ◌<◌, ◌≤◌, ◌≢◌, List, [], ◌∷◌, length, None, sym, refl, ap, ◌∙◌, inl, inr, arith}
use Rattle.links.specs.Links.{FREE, POINTERS, at, In, Path, Head}
use Rattle.links.specs.Chains.{Wrote, Wiping}
use Rattle.links.proofs.Counts.{inside}
use Rattle.links.proofs.Effects.{wrote-set, free_one}
use Rattle.links.proofs.Paths.{same_head, starts, used}
use Rattle.links.proofs.Wipes.{wipe, wiping_none, wiping_steps}
use Rattle.chain.specs.Units.{cell}
use Rattle.chain.specs.Webs.{Web, Woven, Gave, path_of, stored, without, released}
use Rattle.chain.proofs.Strands.{path_headed, chains_none, chain_kept, one_chain}

-- the path of a head
pub path_head : (w : Web) → Woven w → (h : ℕ) → 0 < length (path_of w.links h) → Head (at w.links) h (path_of w.links h)
path_head w ok = path_headed w.links ok.few

-- after i of n units of the chain ps of h, at the place p of v
pub record Releasing (gave : Web → ℕ → Web) (w : Web) (h : ℕ) (ps : List ℕ) (n i : ℕ) (v : Web) (p : ℕ) : Type 0 where
  pub chain : Head (at w.links) h ps
  pub units : n ≡ length ps
  pub rest : List ℕ
  pub sum : i + length rest ≡ n
  pub way : Path (at v.links) p rest
  pub head : 0 < length rest → Head (at v.links) p rest
  pub among : (x : ℕ) → In x rest → In x ps
  pub wiping : Wiping (at w.links) (at v.links) h p
  pub unit : v.unit ≡ w.unit
  pub notes : v.notes ≡ w.notes
  pub room : v.room ≡ w.room + i
  pub other : (q : ℕ) → (In q ps → ⊥) → cell w.unit v.bytes q ≡ cell w.unit w.bytes q
  pub left : released gave (n - i) v p ≡ released gave n w h

module _ {gave : Web → ℕ → Web} {w : Web} {h : ℕ} {ps : List ℕ} {n : ℕ} where
  pub releasing_start : Head (at w.links) h ps → n ≡ length ps → Releasing gave w h ps n 0 w h
  releasing_start d e =
      let z : n - 0 ≡ n = omega arith in
      record {
        chain = d;
        units = e;
        rest = ps;
        sum = omega arith;
        way = d.path;
        head = λ l. d;
        among = λ x i. i;
        wiping = wiping_none (at w.links) h;
        unit = refl;
        notes = refl;
        room = omega arith;
        other = λ q m. refl;
        left = ap (λ k. released gave k w h) z;
      }

  module _ {i : ℕ} {v : Web} {p : ℕ} (r : Releasing gave w h ps n i v p) where
    -- the next place can be given back
    pub releasing_at : i < n → (at v.links p ≢ FREE) × ((q : ℕ) → at v.links q ≢ p)
    releasing_at l = let c = r.head (omega (arith, r.sum)) in ((used _ p p r.rest c.path (starts _ p r.rest c)).0, c.first)

    pub releasing_more : {u : Web} {q : ℕ} → i < n → Woven v → q ≡ at v.links p → u ≡ gave v p → Gave v u p → Releasing gave w h ps n (i + 1) u q
    releasing_more {u} {q} l wv eq eu g = go r.rest r.sum (r.head (omega (arith, r.sum))) r.among
      where
        live : at v.links p ≢ FREE
        live = (releasing_at l).0

        change : Wrote (at v.links) (at u.links) p FREE
        change = rw g.links (wrote-set v.links p FREE (inside v.links p live))

        go : (rest : List ℕ) → i + length rest ≡ n → Head (at v.links) p rest → ((x : ℕ) → In x rest → In x ps) → Releasing gave w h ps n (i + 1) u q
        go [] s c m = absurd (omega arith)
        go (x ∷ qs) s c m =
            let k : n - i ≡ suc (n - (i + 1)) = omega arith in
            let f = free_one _ _ p qs wv.checked (record { place = c.place; first = c.first; path = (refl, c.path.1, c.path.2) }) change in
            record {
              chain = r.chain;
              units = r.units;
              rest = qs;
              sum = omega arith;
              way = on qs c.path.2 f.right;
              head = further qs c.path.2 f.right;
              among = λ y j. m y (inr j);
              wiping = rw eq (((wiping_steps _ _ h p ps r.chain.path r.wiping (at u.links)).0 c.place).2 change);
              unit = g.unit ∙ r.unit;
              notes = g.notes ∙ r.notes;
              room = omega (arith, g.room, r.room);
              other = λ y j. rw (← r.unit) (g.other y (λ z. j (m y (inl (z ∙ sym c.path.0))))) ∙ r.other y j;
              left = rw (eq, eu) (rw k at r.left);
            }
          where
            further : (qs : List ℕ) → Path (at v.links) (at v.links p) qs → ((q : ℕ) → at v.links p ≡ q → q < POINTERS → Head (at u.links) q qs)
                → 0 < length qs → Head (at u.links) q qs
            further [] t c l = absurd (omega arith)
            further (y ∷ ys) t c l = c q (sym eq) (rw eq t.1)

            on : (qs : List ℕ) → Path (at v.links) (at v.links p) qs → ((q : ℕ) → at v.links p ≡ q → q < POINTERS → Head (at u.links) q qs)
                → Path (at u.links) q qs
            on [] t c = eq ∙ t
            on (y ∷ ys) t c = (further (y ∷ ys) t c (omega arith)).path

    pub releasing_all : Woven w → Woven v → n ≤ i → (v ≡ released gave n w h) × (stored v ≡ without w h n)
    releasing_all ww wv l =
        let z : n - i ≡ 0 = omega arith in
        let gone = wipe _ _ h ps ww.checked r.chain ((wiping_steps _ _ h p ps r.chain.path r.wiping (at v.links)).1 (done r.rest r.sum r.way)) in (
          rw z at r.left,
          one_chain w v h None (w.room + n) r.unit r.notes (omega (arith, r.room, r.sum)) (chains_none v wv h gone.gone)
              (λ k m. chain_kept w v ww wv r.unit k (λ qs. gone.others k qs m m) (λ qs c q j. r.other q (λ o. m (sym (same_head _ h k q ps qs ww.checked r.chain c o j))))),
        )
      where
        done : (rest : List ℕ) → i + length rest ≡ n → Path (at v.links) p rest → POINTERS ≤ p
        done [] s t = omega (arith, t)
        done (x ∷ xs) s t = absurd (omega arith)
