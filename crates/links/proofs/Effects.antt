-- What one write to a link table does to its heads and their paths.
-- Assumes nothing.
use Rattle.std.proofs.Common.{◌≡◌, ℕ, ◌<◌, ◌≢◌, List, [], ◌∷◌, ◌++◌, length, set, sym, refl, ap, ◌∙◌, subst, inl, ⊎_elim, arith}
use Rattle.std.proofs.lemmas.Bool.{cases_eq}
use Rattle.std.proofs.lemmas.List.{get_or-set_same, get_or-set_other}
use Rattle.links.specs.Links.{FREE, END, POINTERS, at, In, Seg, Path, Checked, Head}
use Rattle.links.specs.Chains.{Wrote, Others, Taken, Appended, Parted, Freed}
use Rattle.links.proofs.Members.{in_mid, mid_apart}
use Rattle.links.proofs.Paths.{frame, used, same_head, no_repeat, starts, parts, join}

pub wrote-set : (L : List ℕ) (e v : ℕ) → e < length L → Wrote (at L) (at (set L e v)) e v
wrote-set L e v l = record { here = get_or-set_same L e v FREE l; rest = λ k n. get_or-set_other L e k v FREE n }

back : {a b : ℕ → ℕ} {e v : ℕ} → Wrote a b e v → Wrote b a e (a e)
back w = record { here = refl; rest = λ k n. sym (w.rest k n) }

-- what a write has to look for so that the table stays checked
pub checked_wrote : (a b : ℕ → ℕ) (e v : ℕ) → Checked a → Wrote a b e v
    → (v < POINTERS → b v ≢ FREE) → (v < POINTERS → (y : ℕ) → a y ≢ v) → (v ≡ FREE → (y : ℕ) → a y ≢ e) → Checked b
checked_wrote a b e v c w to fresh from = record { leads = leads; apart = apart }
  where
    leads : (p : ℕ) → b p < POINTERS → b (b p) ≢ FREE
    leads p l = grind (arith, cases_eq p e, cases_eq (a p) e, w.here, w.rest, c.leads, to, from)

    apart : (p q : ℕ) → b p < POINTERS → b p ≡ b q → p ≡ q
    apart p q l s = grind (arith, cases_eq p e, cases_eq q e, w.here, w.rest, c.apart, fresh)

framed : (a b : ℕ → ℕ) (e v u w : ℕ) (ps : List ℕ) → Wrote a b e v → (In e ps → ⊥) → Seg a u ps w → Seg b u ps w
framed a b e v u w ps t off h = frame a b u w ps (λ x i. t.rest x (λ s. off (rw s at i))) h

kept : (a b : ℕ → ℕ) (e v k : ℕ) (qs : List ℕ) → Wrote a b e v → Head a k qs → (In e qs → ⊥) → k ≢ v → Head b k qs
kept a b e v k qs w h off n = record {
  place = h.place;
  first = λ q s. ⊎_elim (λ e'. n (sym s ∙ ap b e' ∙ w.here)) (λ n'. h.first q (sym (w.rest q n') ∙ s)) (cases_eq q e);
  path = framed a b e v k END qs w off h.path;
}

-- e stands on no head's chain but h's
abbrev Only : (ℕ → ℕ) → ℕ → ℕ → Type 0
Only a e h = (k : ℕ) (qs : List ℕ) → Head a k qs → In e qs → k ≡ h

only : (a : ℕ → ℕ) (e h : ℕ) (ps : List ℕ) → Checked a → Head a h ps → In e ps → Only a e h
only a e h ps c p i k qs q j = same_head a k h e qs ps c q p j i

only_free : (a : ℕ → ℕ) (e h : ℕ) → a e ≡ FREE → Only a e h
only_free a e h f k qs q j = absurd ((used a k e qs q.path j).0 f)

others : (a b : ℕ → ℕ) (e v h q : ℕ) → Wrote a b e v → Only a e h → Only b e h
    → ((k : ℕ) → k < POINTERS → k ≢ q → (k ≢ v) × (k ≢ a e)) → Others a b h q
others a b e v h q w oa ob far k qs n m = (
  λ p. kept a b e v k qs w p (λ i. n (oa k qs p i)) (far k p.place m).0,
  λ p. kept b a e (a e) k qs (back w) p (λ i. n (ob k qs p i)) (far k p.place m).1,
)

-- taking a free place
pub take-one : (a b : ℕ → ℕ) (f : ℕ) → Checked a → f < POINTERS → a f ≡ FREE → Wrote a b f END → Taken a b f
take-one a b f c l free w = record
    { checked = cb; new = new; others = others a b f END f f w (only_free a f f free) (only b f f (f ∷ []) cb new (inl refl)) (omega arith) }
  where
    cb : Checked b
    cb = checked_wrote a b f END c w (omega arith) (omega arith) (omega arith)

    new : Head b f (f ∷ [])
    new = record { place = l; first = λ q s. grind (arith, cases_eq q f, w.here, w.rest, c.leads q); path = (refl, l, w.here) }

-- putting one chain behind another
pub append : (a b : ℕ → ℕ) (h f : ℕ) (es : List ℕ) (e : ℕ) (fs : List ℕ)
    → Checked a → Head a h (es ++ e ∷ []) → Head a f fs → f ≢ h → Wrote a b e f → Appended a b h f es e fs
append a b h f es e fs c p q n w = record {
  checked = cb;
  longer = longer;
  inner = λ qs r. r.first e w.here;
  others = others a b e f h f w oa (only b e h (es ++ e ∷ fs) cb longer (in_mid e es fs)) (omega (arith, s.2));
}
  where
    oa : Only a e h
    oa = only a e h (es ++ e ∷ []) c p (in_mid e es [])

    s : Seg a h es e × (e < POINTERS) × (a e ≡ END)
    s = parts a h END e es [] p.path

    cb : Checked b
    cb = checked_wrote a b e f c w
        (λ l. grind (arith, cases_eq f e, w.here, w.rest f, (used a f f fs q.path (starts a f fs q)).0)) (λ l. q.first) (omega arith)

    longer : Head b h (es ++ e ∷ fs)
    longer = record {
      place = p.place;
      first = λ x t. grind (arith, cases_eq x e, w.here, w.rest x, p.first x);
      path = join b h e END es (e ∷ fs)
          (framed a b e f h e es w (mid_apart e es [] (no_repeat a h _ p.path)).0 s.0)
          (refl, s.1, rw w.here (framed a b e f f END fs w (λ i. n (oa f fs q i)) q.path));
    }

-- cutting a chain off behind its place e
pub cut : (a b : ℕ → ℕ) (h : ℕ) (es : List ℕ) (e q : ℕ) (qs : List ℕ)
    → Checked a → Head a h (es ++ e ∷ q ∷ qs) → Wrote a b e END → Parted a b h es e q qs
cut a b h es e q qs c p w = record {
  checked = cb;
  left = left;
  right = right;
  others = others a b e END h q w (only a e h _ c p (in_mid e es (q ∷ qs))) (only b e h _ cb left (in_mid e es [])) (omega (arith, s.2));
}
  where
    s : Seg a h es e × (e < POINTERS) × Path a (a e) (q ∷ qs)
    s = parts a h END e es (q ∷ qs) p.path

    m : (In e es → ⊥) × (In e (q ∷ qs) → ⊥)
    m = mid_apart e es (q ∷ qs) (no_repeat a h _ p.path)

    cb : Checked b
    cb = checked_wrote a b e END c w (omega arith) (omega arith) (omega arith)

    left : Head b h (es ++ e ∷ [])
    left = record {
      place = p.place;
      first = λ x t. grind (arith, cases_eq x e, w.here, w.rest x, p.first x, p.place);
      path = join b h e END es (e ∷ []) (framed a b e END h e es w m.0 s.0) (refl, s.1, w.here);
    }

    right : Head b q (q ∷ qs)
    right = record {
      place = omega (arith, s.2);
      first = λ x t. grind (arith, cases_eq x e, w.here, w.rest x, c.apart x e, s.2);
      path = subst (λ v. Path b v (q ∷ qs)) (sym s.2.0) (framed a b e END (a e) END (q ∷ qs) w m.1 s.2);
    }

-- freeing the first place of a chain
pub free_one : (a b : ℕ → ℕ) (p : ℕ) (qs : List ℕ) → Checked a → Head a p (p ∷ qs) → Wrote a b p FREE → Freed a b p qs
free_one a b p qs c h w = record {
  checked = checked_wrote a b p FREE c w (omega arith) (omega arith) (λ _. h.first);
  gone = λ ps k. (used b p p ps k.path (starts b p ps k)).0 w.here;
  right = λ q e l. record {
    place = l;
    first = λ x t. grind (arith, cases_eq x p, w.here, w.rest x, c.apart x p);
    path = framed a b p FREE q END qs w (no_repeat a p (p ∷ qs) h.path).0 (rw e at h.path.2);
  };
  others = others a b p FREE p (a p) w (only a p p (p ∷ qs) c h (inl refl)) (only_free b p p w.here) (omega arith);
}
