-- To free a whole chain, at once and place by place; and what two changes do, from what each does.
-- Assumes nothing.
use Rattle.std.proofs.Common.{◌≡◌, ℕ, ◌<◌, ◌≤◌, ◌≢◌, List, [], ◌∷◌, ◌++◌, sym, refl, ap, ◌∙◌, inl, ⊎_elim, append-nil, arith}
use Rattle.std.proofs.lemmas.List.{append_assoc}
use Rattle.std.proofs.lemmas.Bool.{cases_eq}
use Rattle.links.specs.Links.{FREE, END, POINTERS, In, Path, Checked, Head}
use Rattle.links.specs.Chains.{Wrote, Wiped, Wiping, Others, FreedWhole, Extended, Shortened}
use Rattle.links.proofs.Effects.{take-one, append, cut}
use Rattle.links.proofs.Members.{cases_in, in_append, in_left, in_right, mid_apart}
use Rattle.links.proofs.Paths.{frame, used, closed, after, same_head, no_repeat, starts, parts, join, onto}

pub wipe : (a b : ℕ → ℕ) (p : ℕ) (ps : List ℕ) → Checked a → Head a p ps → Wiped a b ps → FreedWhole a b p
wipe a b p ps c h w = record {
  checked = record {
    leads = λ x l f. ⊎_elim (λ i. out x l i) (λ n. c.leads x (rw (kept x l) at l) (sym (w.rest (a x) n) ∙ ap b (sym (kept x l)) ∙ f)) (cases_in (a x) ps);
    apart = λ x y l e. c.apart x y (rw (kept x l) at l) (sym (kept x l) ∙ e ∙ kept y (rw e at l));
  };
  gone = λ qs k. (used b p p qs k.path (starts b p qs k)).0 (w.gone p (starts a p ps h));
  others = λ k qs n _. (
    λ q. record {
      place = q.place;
      first = λ x e. q.first x (sym (kept x (rw e q.place)) ∙ e);
      path = frame a b k END qs (λ x i. w.rest x (λ j. n (same_head a k p x qs ps c q h i j))) q.path;
    },
    λ q. record {
      place = q.place;
      first = λ x e. ⊎_elim
          (λ i. (used b k k qs q.path (starts b k qs q)).0 (w.gone k (rw e at (after a p x ps h.path i (rw e q.place)))))
          (λ m. q.first x (w.rest x m ∙ e)) (cases_in x ps);
      path = frame b a k END qs (λ x i. sym (w.rest x (λ j. (used b k x qs q.path i).0 (w.gone x j)))) q.path;
    },
  );
}
  where
    off : (x : ℕ) → b x < POINTERS → In x ps → ⊥
    off x l i = omega (arith, w.gone x i)

    kept : (x : ℕ) → b x < POINTERS → b x ≡ a x
    kept x l = w.rest x (off x l)

    out : (x : ℕ) → b x < POINTERS → In (a x) ps → ⊥
    out x l i = off x l (closed a p x ps c h i)

pub wiping_none : (a : ℕ → ℕ) (h : ℕ) → Wiping a a h h
wiping_none a h = record { done = []; way = refl; wiped = record { gone = λ x i. absurd i; rest = λ x n. refl } }

module _ (a b : ℕ → ℕ) (h v : ℕ) (ps : List ℕ) (p : Path a h ps) (w : Wiping a b h v) where
  -- the next place is not yet freed
  wiping_at : v < POINTERS → (In v w.done → ⊥) × (b v ≡ a v) × (a v ≢ FREE)
  wiping_at l = go (onto a h v w.done ps w.way p)
    where
      go : (qs : List ℕ) × Path a v qs × (ps ≡ w.done ++ qs) → (In v w.done → ⊥) × (b v ≡ a v) × (a v ≢ FREE)
      go ([], k, e) = absurd (omega arith)
      go (q ∷ qs, k, e) =
          let off = (mid_apart q w.done qs (rw e at (no_repeat a h ps p))).0 in
          let off' : In v w.done → ⊥ = rw (← k.0) off in
          (off', w.wiped.rest v off', (used a v v (q ∷ qs) k (inl (sym k.0))).0)

  wiping_more : (c : ℕ → ℕ) → v < POINTERS → Wrote b c v FREE → Wiping a c h (b v)
  wiping_more c l t = record {
    done = w.done ++ v ∷ [];
    way = join a h v (b v) w.done (v ∷ []) w.way (refl, l, sym (wiping_at l).1);
    wiped = record {
      gone = λ x i. ⊎_elim (λ e. ap c e ∙ t.here)
          (λ n. t.rest x n ∙ w.wiped.gone x (⊎_elim (λ j. j) (⊎_elim (λ e. absurd (n e)) absurd) (in_append x w.done (v ∷ []) i))) (cases_eq x v);
      rest = λ x n. t.rest x (λ e. n (in_right x w.done (v ∷ []) (inl e))) ∙ w.wiped.rest x (λ i. n (in_left x w.done (v ∷ []) i));
    };
  }

  wiping_all : POINTERS ≤ v → w.done ≡ ps
  wiping_all l = go (onto a h v w.done ps w.way p)
    where
      go : (qs : List ℕ) × Path a v qs × (ps ≡ w.done ++ qs) → w.done ≡ ps
      go ([], k, e) = sym (e ∙ append-nil w.done)
      go (q ∷ qs, k, e) = absurd (omega arith)

  pub wiping_steps : (c : ℕ → ℕ) →
      (v < POINTERS → (b v ≡ a v) × (a v ≢ FREE) × (Wrote b c v FREE → Wiping a c h (b v))) × (POINTERS ≤ v → Wiped a b ps)
  wiping_steps c = (
    λ l. let r = wiping_at l in (r.1, r.2, wiping_more c l),
    λ l. rw (wiping_all l) at w.wiped,
  )

others_both : (a b c : ℕ → ℕ) (p q r s x y : ℕ) → Others a b p q → Others b c r s
    → ((k : ℕ) → k ≢ x → k ≢ y → (k ≢ p) × (k ≢ q) × (k ≢ r) × (k ≢ s)) → Others a c x y
others_both a b c p q r s x y o u far k qs n m =
    let f = far k n m in let i = o k qs f.0 f.1 in let j = u k qs f.2 f.3 in (λ h. j.0 (i.0 h), λ h. i.1 (j.1 h))

-- a free place is taken, and put at the end of a chain
pub extend : (a b c : ℕ → ℕ) (h f : ℕ) (es : List ℕ) (e : ℕ) → Checked a → Head a h (es ++ e ∷ []) → f < POINTERS → a f ≡ FREE
    → Wrote a b f END → Wrote b c e f → Extended a c h f (es ++ e ∷ [])
extend a b c h f es e ca p l free w t =
    let r = take-one a b f ca l free w in
    let n : f ≢ h = λ s. (used a h h _ p.path (starts a h _ p)).0 (ap a (sym s) ∙ free) in
    let u = append b c h f es e (f ∷ []) r.checked ((r.others h _ (λ s. n (sym s)) (λ s. n (sym s))).0 p) r.new n t in
    record {
      checked = u.checked;
      longer = rw append_assoc u.longer;
      others = others_both a b c f f h f h f r.others u.others (omega arith);
    }

-- a chain is cut off, and what followed is freed
pub shorten : (a b c : ℕ → ℕ) (h : ℕ) (es : List ℕ) (e q : ℕ) (qs : List ℕ) → Checked a → Head a h (es ++ e ∷ q ∷ qs)
    → Wrote a b e END → Wiped b c (q ∷ qs) → Shortened a c h q (es ++ e ∷ [])
shorten a b c h es e q qs ca p w t =
    let r = cut a b h es e q qs ca p w in
    let u = wipe b c q (q ∷ qs) r.checked r.right t in
    let n : h ≢ q = λ s. p.first e (sym (parts a h END e es (q ∷ qs) p.path).2.0 ∙ sym s) in
    record {
      checked = u.checked;
      shorter = (u.others h _ n n).0 r.left;
      others = others_both a b c h q q q h q r.others u.others (omega arith);
    }
