-- The call that joins a unit to a chain.
-- Assumes nothing.
use Rattle.std.proofs.Common.{◌≡◌, ℕ, ◌+◌, ◌-◌, ◌*◌, ◌<◌, ◌≤◌, Bool, true, false, cond, eqb, ltb, ◌&&◌, ◌||◌, List, length, set, replicate, is_some, is_none, Some, None, Option, sym, refl, ap, ◌∙◌, arith}
use borrow.Rule.Slice.PartMut.{mid_of, put_mid, mid_len}
use Rattle.std.specs.Bool.{then_some}
use Rattle.std.proofs.lemmas.Option.{cond_some}
use Rattle.std.proofs.lemmas.Bool.{and_parts, eqb-true, lt-ltb, le-ltb, ltb-true, false≢true}
use Rattle.store.specs.Meaning.{Notes, laid}
use Rattle.chain.proofs.Laid.{laid-put, length-laid}
use Rattle.cells.specs.declared.Note.{Note}
use Rattle.cells.specs.Noted.{note_at, path, joins}
use Rattle.cells.specs.Stored.{stored, joined_to}
use Rattle.cells.proofs.Changes.{join_sound}
use Rattle.cells.proofs.Gives.{is_free}
use Rattle.cells.proofs.Paths.{Sound}
use Rattle.cells.proofs.Seeks.{note}
use Rattle.cells.proofs.Stores.{join_stored}

-- the rank that a free unit would note
module _ (N : List (Option Note)) (u h k : ℕ) (rank : k ≡ length (path N h)) (inner : u < length N) (vacant : false ≡ is_some (note_at N u)) (t : Bool) where
  told : t ≡ (ltb 0 k || eqb u h) → then_some t k ≡ cond (joins N u h) (Some (length (path N h))) None
  told e = rw (lt-ltb u (length N) inner, unnoted (note_at N u) vacant, sym rank) (go t (ltb 0 k || eqb u h) e)
    where
      unnoted : (o : Option Note) → false ≡ is_some o → is_none o ≡ true
      unnoted None e = refl
      unnoted (Some n) e = absurd (false≢true e)

      go : (t b : Bool) → t ≡ b → then_some t k ≡ cond b (Some k) None
      go true b e = rw (← e) refl
      go false b e = rw (← e) refl

  pub told_longer : t ≡ ltb 0 k → 0 < k → then_some t k ≡ cond (joins N u h) (Some (length (path N h))) None
  told_longer e l = let y = lt-ltb 0 k l in told (e ∙ y ∙ sym (ap (λ b. b || eqb u h) y))

  pub told_named : t ≡ eqb u h → k ≤ 0 → then_some t k ≡ cond (joins N u h) (Some (length (path N h))) None
  told_named e l = told (e ∙ sym (ap (λ b. b || eqb u h) (le-ltb 0 k l)))

module _ (N : List (Option Note)) (u h : ℕ) (j : joins N u h ≡ true) where
  free : (u < length N) × (note_at N u ≡ None)
  free =
      let p = and_parts (ltb u (length N) && is_none (note_at N u)) _ j in
      let q = and_parts (ltb u (length N)) (is_none (note_at N u)) p.0 in (ltb-true u (length N) q.0, is_free _ q.1)

  names : length (path N h) ≡ 0 → u ≡ h
  names e =
      let p = and_parts (ltb u (length N) && is_none (note_at N u)) _ j in
      eqb-true u h (rw e at p.1)

module _ (N : List (Option Note)) (B : List ℕ) (s : Sound N) (filled : length B ≡ 32768) (u h r : ℕ) (ys : List ℕ)
    (fill : ys ≡ replicate (length (mid_of (u * 512) (u * 512 + 512 - u * 512) B)) 0) (asked : Some r ≡ cond (joins N u h) (Some (length (path N h))) None) where
  pub yes : joins N u h ≡ true
  yes = (cond_some (joins N u h) (length (path N h)) r (sym asked)).0

  rank : r ≡ length (path N h)
  rank = sym (cond_some (joins N u h) (length (path N h)) r (sym asked)).1

  inner : u < length N
  inner = (free N u h yes).0

  zero : ys ≡ replicate 512 0
  zero =
      let k : length (mid_of (u * 512) (u * 512 + 512 - u * 512) B) ≡ 512 = omega (arith, mid_len (u * 512) (u * 512 + 512) B (omega (arith, inner, s.counted, filled))) in
      fill ∙ ap (λ k. replicate k 0) k

  bytes : put_mid (u * 512) (u * 512 + 512 - u * 512) B ys ≡ laid B (u * 512) (replicate 512 0)
  bytes = laid-put B ys (replicate 512 0) (u * 512) zero (omega (arith, inner, s.counted, filled))

  pub joined-filled : length (put_mid (u * 512) (u * 512 + 512 - u * 512) B ys) ≡ 32768
  joined-filled = ap length bytes ∙ length-laid B (replicate 512 0) (u * 512) (omega (arith, inner, s.counted, filled)) ∙ filled

  pub joined_sound : Sound (set N u (Some (note h r)))
  joined_sound = rw rank (join_sound N s h u inner (free N u h yes).1 (names N u h yes))

  pub joined-stored : (n : Notes) → stored (set N u (Some (note h r))) (put_mid (u * 512) (u * 512 + 512 - u * 512) B ys) n ≡ joined_to (stored N B n) h
  joined-stored n = rw (rank, bytes) (join_stored N B s filled n h u inner (free N u h yes).1 (names N u h yes))
