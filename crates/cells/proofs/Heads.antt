-- How many units note a head: as many as its chain has.
-- Assumes nothing.
use Rattle.std.proofs.Common.{◌≡◌, ℕ, zero, suc, ◌+◌, ◌-◌, ◌<◌, ◌≤◌, Bool, true, false, cond, eqb, ◌≢◌, List, [], ◌∷◌, length, get_or, map, count_by, Some, None, Option, sym, refl, ap, ◌∙◌, ⊎_elim, arith}
use Rattle.std.proofs.lemmas.List.{get_or-map, length-map}
use Rattle.std.proofs.lemmas.List.Sums.{sum_by-cons}
use Rattle.std.proofs.lemmas.Bool.{cases_lt, cond-true, eqb-true, eq-eqb}
use Rattle.links.specs.Links.{FREE, live, at, In}
use Rattle.links.proofs.Counts.{live_count, live_among, inside}
use Rattle.chain.proofs.Joined.{in_get_d}
use Rattle.cells.specs.declared.Note.{Note}
use Rattle.cells.specs.Noted.{note_at, ranks, path, Down}
use Rattle.cells.proofs.Changes.{before}
use Rattle.cells.proofs.Seeks.{note, inside as noting}
use Rattle.cells.proofs.Paths.{Sound, path_is, ranked_apart, ranked_head, ranks-path}

-- this notes the head h
abbrev pub heads : ℕ → Option Note → Bool
heads h None = false
heads h (Some n) = eqb n.head h

-- the units as a table of links, FREE where a unit does not note h
abbrev mark : ℕ → Option Note → ℕ
mark h o = cond (heads h o) 0 FREE

abbrev marks : ℕ → List (Option Note) → List ℕ
marks h N = map (mark h) N

marks_live : (h : ℕ) (N : List (Option Note)) → count_by live (marks h N) ≡ count_by (heads h) N
marks_live h [] = refl
marks_live h (o ∷ N) =
    rw (sum_by-cons (λ x. cond (live x) 1 0) (mark h o) (marks h N), sum_by-cons (λ x. cond (heads h x) 1 0) o N) (go (heads h o) (marks_live h N))
  where
    go : (t : Bool) → count_by live (marks h N) ≡ count_by (heads h) N
        → cond (live (cond t 0 FREE)) 1 0 + count_by live (marks h N) ≡ cond t 1 0 + count_by (heads h) N
    go true e = omega arith
    go false e = omega arith

-- where a rank is noted, so is each below
lower : (N : List (Option Note)) (h k r u : ℕ) → Down N → note_at N u ≡ Some (note h (k + r)) → (v : ℕ) × (note_at N v ≡ Some (note h r))
lower N h zero r u d e = (u, e ∙ ap (λ q. Some (note h q)) (omega arith))
lower N h (suc k) r u d e =
    let v = before N u h (k + r) d (e ∙ ap (λ q. Some (note h q)) (omega arith)) in lower N h k r v.0 d v.1

module _ (N : List (Option Note)) (h : ℕ) (s : Sound N) where
  -- a unit that notes h is on its chain
  on_path : (u r : ℕ) → note_at N u ≡ Some (note h r) → In u (path N h)
  on_path u r e = ⊎_elim
      (λ l. let f = s.unique _ u (note h r) ((path_is N h).ranked r l) e in rw f at (in_get_d (path N h) r l))
      (λ l. let v = lower N h (r - length (path N h)) (length (path N h)) u s.down (e ∙ ap (λ q. Some (note h q)) (omega arith)) in
      absurd ((path_is N h).done v.0 v.1))
      (cases_lt r (length (path N h)))

  marked : (u : ℕ) → at (marks h N) u ≢ FREE → In u (path N h)
  marked u m =
      let i = inside (marks h N) u m in
      go (note_at N u) refl (λ f. m (get_or-map (mark h) N u None FREE (omega (arith, length-map N (mark h))) ∙ f))
    where
      go : (o : Option Note) → note_at N u ≡ o → mark h o ≢ FREE → In u (path N h)
      go None e k = absurd (k refl)
      go (Some n) e k = yes (eqb n.head h) refl e k
        where
          yes : (t : Bool) → eqb n.head h ≡ t → note_at N u ≡ Some n → cond t 0 FREE ≢ FREE → In u (path N h)
          yes false f g j = absurd (j refl)
          yes true f g j = on_path u n.rank (g ∙ ap (λ q. Some (note q n.rank)) (eqb-true n.head h f))

  path_marked : (u : ℕ) → In u (path N h) → at (marks h N) u ≢ FREE
  path_marked u i m =
      let r = ranked_head N h (path N h) (path_is N h).ranked u i in
      omega (
        arith,
        sym (get_or-map (mark h) N u None FREE (noting N u (note h r.0) r.1)) ∙ m,
        ap (mark h) r.1 ∙ cond-true (eqb h h) 0 FREE (eq-eqb h h refl),
      )

  pub noted-ranks : count_by (heads h) N ≡ ranks N h
  noted-ranks =
      let a = live_count (marks h N) (path N h) (ranked_apart N h (path N h) (path_is N h).ranked) path_marked in
      let b = live_among (marks h N) (path N h) marked in
      omega (arith, a, b, marks_live h N, ranks-path N h s.counted)
