-- What `try_fold` gives, where each call gives an `Option`: the fold of the function that the calls compute, which keeps
-- nothing where there is nothing.
-- Assumes nothing.
use Rattle.std.proofs.Common.{◌≡◌, List, [], ◌∷◌, Some, None, Option, fold, sym, refl, ap, ◌∙◌, subst}
use Rattle.std.specs.ControlFlow.{continue_value}
use Rattle.std.specs.Fn.{Called}
use Rattle.std.specs.Iterator.{AlwaysYields, Yields, TryFoldTurn, TryFoldsItems}
use Rattle.std.specs.List.{FoldsTo}
use Rattle.std.specs.Option.{MatchOption}
use Rattle.std.specs.declared.ops.ControlFlow.{ControlFlow}
use Rattle.std.proofs.lemmas.Iterator.{YieldsList}
use Rattle.std.proofs.lemmas.List.Folds.{fold_stays}
use denote.Param.Members.{Mut}

-- a call goes on with what it gave, and breaks off where it gave nothing
abbrev pub branches : {B E : Type 0} → Option B → ControlFlow E B → Type 0
branches w c = w ≡ continue_value c

module _ (E : Type 0) {S A B F Y : Type 0} (steps : S → Option A → S → Type 0) (v : A → Y) (g : Mut F (B × (A × Unit {0})) (Option B)) (f : F)
    (h : Option B → Y → Option B) (none : (y : Y) → h None y ≡ None)
    (gives : (b : B) (x : A) (w : Option B) (q : F) → Called g f (b, (x, tt)) w q → (q ≡ f) × (w ≡ h (Some b) (v x))) where
  -- the calls went on from p to q, and then there was no item, or a call broke off
  walked : (ys : List Y) (s t u : S) (xs : List A) (o : Option A) (p q : F × B) (r : Option B) → AlwaysYields steps v s ys
      → Yields steps s xs t → steps t o u → p.0 ≡ f → FoldsTo {P = F × B} (TryFoldTurn g (branches {E = E})) p xs q
      → MatchOption o (r ≡ Some q.1) (λ x. (w : Option B) × (i : F) × (e : E) × Called g q.0 (q.1, (x, tt)) w i × (w ≡ None) × (r ≡ None))
      → r ≡ fold h (Some p.1) ys
  walked [] s t u [] None p q r all y st a c m = m ∙ ap (λ j. Some j.1) (sym c)
  walked [] s t u [] (Some x) p q r all y st a c m = absurd (all x u (subst (λ j. steps j (Some x) u) (sym y) st))
  walked [] s t u (x ∷ xs) o p q r all y st a c m = absurd (all x y.0 y.1)
  walked (y ∷ ys) s t u [] None p q r all d st a c m = absurd (all.0 u (subst (λ j. steps j None u) (sym d) st))
  walked (y ∷ ys) s t u [] (Some x) p q r all d st a c m =
      let same = (all.1 x u (subst (λ j. steps j (Some x) u) (sym d) st)).0 in
      let called = gives q.1 x m.0 m.1 (subst (λ j. Called g j (q.1, (x, tt)) m.0 m.1) (sym (ap (λ j. j.0) c) ∙ a) m.3) in
      let stops : h (Some p.1) y ≡ None = ap (λ j. h (Some j.1) y) c ∙ ap (h (Some q.1)) (sym same) ∙ sym called.1 ∙ m.4 in
      m.5 ∙ sym (ap (λ z. fold h z ys) stops ∙ fold_stays h None none ys)
  walked (y ∷ ys) s t u (x ∷ xs) o p q r all d st a c m =
      let next = all.1 x d.0 d.1 in
      let called = gives p.1 x c.1.0 c.0.0 (subst (λ j. Called g j (p.1, (x, tt)) c.1.0 c.0.0) a c.1.1) in
      let goes : Some c.0.1 ≡ h (Some p.1) y = sym c.1.2 ∙ called.1 ∙ ap (h (Some p.1)) next.0 in
      walked ys d.0 t u xs o c.0 q r next.1 d.2 st called.0 c.2 m ∙ ap (λ z. fold h z ys) goes

  pub tried : {s u : S} {ys : List Y} (init : B) (r : Option B) → YieldsList steps v s ys
      → TryFoldsItems steps g (branches {E = E}) (λ _ k. k ≡ None) s f init r u → r ≡ fold h (Some init) ys
  tried {s} {u} {ys} init r road d = walked ys s d.4.0 u d.0 d.1 (f, init) (d.2, d.3) r road.runs d.4.1 d.4.2 refl d.5 d.6
