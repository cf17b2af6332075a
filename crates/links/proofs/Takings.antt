-- A FREE place is taken, and put behind another.
-- Assumes nothing.
use Rattle.std.proofs.Common.{◌≡◌, ℕ, ◌-◌, ◌<◌, ◌≤◌, Bool, true, false, cond, ltb, ◌≢◌, List, [], ◌∷◌, ◌++◌, length, set, Some, None, Option, sym, refl, ap, ◌∙◌, subst, ⊎_elim, arith}
use Rattle.std.specs.Bool.{then_some}
use Rattle.std.specs.List.{slice_get}
use Rattle.std.proofs.lemmas.List.{take_all, take_at, take_more, length_push, get_or_past}
use Rattle.std.proofs.lemmas.Bool.{cases_Bool, ltb-true}
use Rattle.links.specs.Links.{FREE, END, POINTERS, at}
use Rattle.links.specs.Chains.{Wrote}
use Rattle.links.specs.Walk.{last_or}
use Rattle.links.specs.Stack.{Stacks, has_room, place_after, links_taken, stack_taken}
use Rattle.links.proofs.Effects.{wrote-set, checked_wrote, take-one}
use Rattle.links.proofs.Lookups.{some_link, no_link}
use Rattle.links.proofs.Members.{in_mid}
use Rattle.links.proofs.Counts.{inside}
use Rattle.links.proofs.Tables.{grow, wrote_push}
use Rattle.links.proofs.Stacks.{Kept, stacks_taken, stacks_grown, stacks_relinked}

nil_of : (S : List ℕ) → length S ≡ 0 → S ≡ []
nil_of [] e = refl
nil_of (x ∷ S) e = absurd (omega arith)

-- a list that has a last element, by it
last_of : (S : List ℕ) (p : ℕ) → Some p ≡ slice_get S (length S - 1) → S ≡ stack_taken S ++ p ∷ []
last_of S p h =
    let r = some_link S (length S - 1) p h in
    sym (take_all _ S (omega (arith, r.0))) ∙ take_more S (length S - 1) FREE r.0 ∙ ap (λ x. stack_taken S ++ x ∷ []) (sym r.1)

last_or_push : (d p : ℕ) (T : List ℕ) → last_or d (T ++ p ∷ []) ≡ p
last_or_push d p [] = refl
last_or_push d p (x ∷ T) = last_or_push x p T

room_push : (L T : List ℕ) (p : ℕ) → has_room L (T ++ p ∷ []) ≡ true
room_push L [] p = refl
room_push L (x ∷ T) p = refl

taken_push : (L T : List ℕ) (p : ℕ) → links_taken L (T ++ p ∷ []) ≡ set L p END
taken_push L [] p = refl
taken_push L (x ∷ T) p = ap (λ q. set L q END) (last_or_push x p T)

-- a place was taken, or none could be
abbrev pub Took : List ℕ → List ℕ → List ℕ → List ℕ → Option ℕ → Type 0
Took L S L' S' r = record {
  told : r ≡ cond (has_room L S) (Some (place_after L S)) None;
  table : L' ≡ cond (has_room L S) (links_taken L S) L;
  places : S' ≡ stack_taken S;
} × Kept L' S'

took_last : (L T : List ℕ) (p : ℕ) → length L ≤ 4096 → Kept L (T ++ p ∷ []) → Took L (T ++ p ∷ []) (set L p END) T (Some p)
took_last L T p few k =
    let f = k.stacks.free p (in_mid p T []) in (
      record {
        told = rw (room_push L T p) (ap Some (sym (last_or_push (length L) p T)));
        table = rw (room_push L T p) (sym (taken_push L T p));
        places = sym (take_at T (p ∷ []) _ (omega (arith, length_push T p)));
      },
      record {
        checked = (take-one (at L) _ p k.checked (omega (arith, f.0)) f.1 (wrote-set L p END f.0)).checked;
        stacks = stacks_taken L T p k.stacks;
      },
    )

-- from the stack
pub took_popped : (L S L' S' : List ℕ) (p : ℕ) → length L ≤ 4096 → Kept L S
    → Some p ≡ slice_get S (length S - 1) → S' ≡ stack_taken S → L' ≡ set L p END → Took L S L' S' (Some p)
took_popped L S L' S' p few k h s t = go (stack_taken S) (last_of S p h) s
  where
    go : (T : List ℕ) → S ≡ T ++ p ∷ [] → S' ≡ T → Took L S L' S' (Some p)
    go T f g = rw (f, g, t) (took_last L T p few (rw f at k))

took_pushed : (L : List ℕ) (b : Bool) → Kept L [] → b ≡ ltb (length L) 4096
    → Took L [] (cond b (L ++ END ∷ []) L) [] (then_some b (length L))
took_pushed L true k e = (
  record { told = rw (← e); table = rw (← e); places = refl },
  record {
    checked = (grow L k.checked (omega (arith, ltb-true (length L) 4096 (sym e)))).checked;
    stacks = stacks_grown L [] END (omega arith) k.stacks;
  },
)
took_pushed L false k e = (record { told = rw (← e); table = rw (← e); places = refl }, k)

-- or behind the last link, where there is room
module _ (L S L' S' : List ℕ) (b : Bool) (k : Kept L S) (h : None ≡ slice_get S (length S - 1)) (s : S' ≡ stack_taken S)
    (t : b ≡ ltb (length L) 4096) (u : L' ≡ cond b (L ++ END ∷ []) L) where
  pub took_grown : (p : ℕ) (r : Option ℕ) → p ≡ length L → r ≡ then_some b p → Took L S L' S' r
  took_grown p r e v =
      let f = nil_of S (omega (arith, no_link S (length S - 1) h)) in
      let g : S' ≡ [] = rw f at s in
      rw (f, g, u, v, e) (took_pushed L b (rw f at k) t)

  pub took_kept : Kept L' S'
  took_kept = (took_grown _ _ refl refl).1

-- a list that is not empty, by its last element
snoc : (x : ℕ) (S : List ℕ) → (T : List ℕ) × (p : ℕ) × (x ∷ S ≡ T ++ p ∷ [])
snoc x [] = ([], x, refl)
snoc x (y ∷ S) = let r = snoc y S in (x ∷ r.0, r.1, ap (λ l. x ∷ l) r.2)

-- the place that is taken was FREE, and only its link is changed
pub record Taking (L S : List ℕ) : Type 0 where
  pub wrote : Wrote (at L) (at (links_taken L S)) (place_after L S) END
  pub free : at L (place_after L S) ≡ FREE
  pub small : place_after L S < POINTERS

pub taking : (L S : List ℕ) → length L ≤ 4096 → Stacks L S → Taking L S
taking L [] few s = record { wrote = wrote_push L END; free = get_or_past L (length L) FREE (omega arith); small = omega arith }
taking L (x ∷ S) few s = let r = snoc x S in rw r.2 (go r.0 r.1 (rw r.2 at s))
  where
    go : (T : List ℕ) (p : ℕ) → Stacks L (T ++ p ∷ []) → Taking L (T ++ p ∷ [])
    go T p k =
        let f = k.free p (in_mid p T []) in
        let e = last_or_push (length L) p T in
        record {
          wrote = rw (taken_push L T p, e) (wrote-set L p END f.0);
          free = rw e f.1;
          small = omega (arith, e, f.0);
        }

-- the table and the stack after a place was taken
pub kept_taken : (L S : List ℕ) → length L ≤ 4096 → Kept L S → Kept (links_taken L S) (stack_taken S)
kept_taken L S few k =
    let t = taking L S few k.stacks in
    record { checked = (take-one (at L) _ _ k.checked t.small t.free t.wrote).checked; stacks = stacks S k.stacks }
  where
    less : (T : List ℕ) (p : ℕ) → stack_taken (T ++ p ∷ []) ≡ T
    less T p = take_at T (p ∷ []) _ (omega (arith, length_push T p))

    stacks : (S : List ℕ) → Stacks L S → Stacks (links_taken L S) (stack_taken S)
    stacks [] s = stacks_grown L [] END (omega arith) s
    stacks (x ∷ S) s =
        let r = snoc x S in
        let p = r.1 in
        let go : Stacks (links_taken L (r.0 ++ p ∷ [])) (stack_taken (r.0 ++ p ∷ [])) = rw (taken_push L r.0 p, less r.0 p) (stacks_taken L r.0 p (rw r.2 at s)) in
        let P : List ℕ → Type 0 = λ T. Stacks (links_taken L T) (stack_taken T) in
        subst P (sym r.2) go

-- and may be put behind a place that is linked END
kept_joined : (L S : List ℕ) (e : ℕ) → length L ≤ 4096 → Kept L S → Kept (links_taken L S) (stack_taken S) → at L e ≡ END
    → Kept (set (links_taken L S) e (place_after L S)) (stack_taken S)
kept_joined L S e few k k1 h =
    let t = taking L S few k.stacks in
    let p = place_after L S in
    let n : e ≢ p = λ s. omega (arith, ap (at L) s, t.free) in
    let u : at (links_taken L S) e ≡ END = t.wrote.rest e n ∙ h in
    let w = wrote-set (links_taken L S) e p (inside (links_taken L S) e (omega arith)) in
    record {
      checked = checked_wrote _ _ e p k1.checked w
          (λ _ z. omega (arith, w.rest p (λ s. n (sym s)), t.wrote.here))
          (λ _. (take-one (at L) _ p k.checked t.small t.free t.wrote).new.first) (omega (arith, t.small));
      stacks = stacks_relinked (links_taken L S) (stack_taken S) e p (omega arith) (omega (arith, t.small)) k1.stacks;
    }

-- the same by what the calls tell: L₁ and S₁ after the place was taken, L₂ after it was joined
pub joined : (L S L₁ S₁ L₂ : List ℕ) (e p : ℕ) → length L ≤ 4096 → Kept L S → Kept L₁ S₁ → at L e ≡ END
    → Some p ≡ cond (has_room L S) (Some (place_after L S)) None → L₁ ≡ cond (has_room L S) (links_taken L S) L → S₁ ≡ stack_taken S
    → L₂ ≡ set L₁ e p → Kept L₂ S₁
joined L S L₁ S₁ L₂ e p few k k₁ h told table places after = ⊎_elim yes no (cases_Bool (has_room L S))
  where
    yes : has_room L S ≡ true → Kept L₂ S₁
    yes y =
        let a : Some p ≡ Some (place_after L S) = rw y at told in
        let q : p ≡ place_after L S = cc in
        let t : L₁ ≡ links_taken L S = rw y at table in
        rw (after, t, places, q) (kept_joined L S e few k (rw (t, places) at k₁) h)

    no : has_room L S ≡ false → Kept L₂ S₁
    no n =
        let a : Some p ≡ None = rw n at told in
        let z : ◌≡◌ {A = ℕ} 0 1 = cc in
        absurd (omega arith)
