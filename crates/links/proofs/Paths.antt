-- Paths: unique, kept by changes elsewhere, without repetition; heads share no place.
-- Assumes nothing.
use Rattle.std.proofs.Common.{◌≡◌, ℕ, ◌<◌, ◌≤◌, ◌≢◌, ◌⊎◌, List, [], ◌∷◌, ◌++◌, length, sym, refl, ap, ◌∙◌, inl, inr, ⊎_elim, arith}
use Rattle.links.specs.Links.{FREE, END, POINTERS, In, Apart, Seg, Path, Checked, Head}

pub unique : (a : ℕ → ℕ) (v w : ℕ) (ps qs : List ℕ) → Path a v ps → v ≡ w → Path a w qs → ps ≡ qs
unique a v w [] [] h e k = refl
unique a v w [] (q ∷ qs) h e k = absurd (omega arith)
unique a v w (p ∷ ps) [] h e k = absurd (omega arith)
unique a v w (p ∷ ps) (q ∷ qs) h e k = let r = unique a (a v) (a w) ps qs h.2 (ap a e) k.2 in cc

pub frame : (a b : ℕ → ℕ) (v w : ℕ) (ps : List ℕ) → ((k : ℕ) → In k ps → b k ≡ a k) → Seg a v ps w → Seg b v ps w
frame a b v w [] same h = h
frame a b v w (p ∷ ps) same h =
    (h.0, h.1, rw (same v (inl (sym h.0))) (frame a b (a v) w ps (λ k i. same k (inr i)) h.2))

-- from a place on a path there is a path, no longer than it
pub onward : (a : ℕ → ℕ) (v x : ℕ) (ps : List ℕ) → Path a v ps → In x ps → (qs : List ℕ) × Path a x qs × (length qs ≤ length ps)
onward a v x [] h i = absurd i
onward a v x (p ∷ ps) h (inl e) = (p ∷ ps, rw (e ∙ h.0) h, omega arith)
onward a v x (p ∷ ps) h (inr i) = let r = onward a (a v) x ps h.2 i in (r.0, r.1, omega arith)

-- a place met twice would have two paths of different lengths
pub no_repeat : (a : ℕ → ℕ) (v : ℕ) (ps : List ℕ) → Path a v ps → Apart ps
no_repeat a v [] h = tt
no_repeat a v (p ∷ ps) h = (
  λ i. let r = onward a (a v) p ps h.2 i in
      let e = ap length (unique a v p (p ∷ ps) r.0 h (sym h.0) r.1) in omega arith,
  no_repeat a (a v) ps h.2,
)

pub used : (a : ℕ → ℕ) (v x : ℕ) (ps : List ℕ) → Path a v ps → In x ps → (a x ≢ FREE) × (x < POINTERS)
used a v x [] h i = absurd i
used a v x (p ∷ []) h (inl e) = (λ f. let k : a x ≡ a v = cc in omega arith, omega arith)
used a v x (p ∷ q ∷ ps) h (inl e) = (λ f. let k : a x ≡ a v = cc in omega arith, omega arith)
used a v x (p ∷ ps) h (inr i) = used a (a v) x ps h.2 i

-- a place on a path is its start, or a place on the path points to it
pub before : (a : ℕ → ℕ) (v x w : ℕ) (ps : List ℕ) → Seg a v ps w → In x ps → (x ≡ v) ⊎ ((y : ℕ) × In y ps × (a y ≡ x))
before a v x w [] h i = absurd i
before a v x w (p ∷ ps) h (inl e) = inl (e ∙ h.0)
before a v x w (p ∷ ps) h (inr i) =
    ⊎_elim (λ e. inr (v, inl (sym h.0), sym e)) (λ t. inr (t.0, inr t.1, t.2)) (before a (a v) x w ps h.2 i)

-- a path holds what its places point to
pub after : (a : ℕ → ℕ) (v y : ℕ) (ps : List ℕ) → Path a v ps → In y ps → a y < POINTERS → In (a y) ps
after a v y [] h i l = absurd i
after a v y (p ∷ []) h (inl e) l = let s : a y ≡ a v = cc in absurd (omega arith)
after a v y (p ∷ q ∷ ps) h (inl e) l = inr (inl (ap a (e ∙ h.0) ∙ sym h.2.0))
after a v y (p ∷ ps) h (inr i) l = inr (after a (a v) y ps h.2 i l)

-- a head's chain holds, with a place, each place that points to it
pub closed : (a : ℕ → ℕ) (k y : ℕ) (qs : List ℕ) → Checked a → Head a k qs → In (a y) qs → In y qs
closed a k y qs c h i =
    ⊎_elim (λ e. absurd (h.first y e)) (λ t. rw (c.apart y t.0 (used a k (a y) qs h.path i).1 (sym t.2)) t.1)
    (before a k (a y) END qs h.path i)

pub upward : (a : ℕ → ℕ) (k v x : ℕ) (ps qs : List ℕ) → Checked a → Head a k qs → Path a v ps → In x ps → In x qs → In v qs
upward a k v x [] qs c h s i j = absurd i
upward a k v x (p ∷ ps) qs c h s (inl e) j = rw (← s.0, ← e) j
upward a k v x (p ∷ ps) qs c h s (inr i) j = closed a k v qs c h (upward a k (a v) x ps qs c h s.2 i j)

pub same_head : (a : ℕ → ℕ) (h k x : ℕ) (ps qs : List ℕ) → Checked a → Head a h ps → Head a k qs → In x ps → In x qs → h ≡ k
same_head a h k x ps qs c p q i j =
    ⊎_elim (λ e. e) (λ t. absurd (p.first t.0 t.2))
    (before a k h END qs q.path (upward a k h x ps qs c q p.path i j))

pub starts : (a : ℕ → ℕ) (p : ℕ) (ps : List ℕ) → Head a p ps → In p ps
starts a p [] h = absurd (omega (arith, h.place, h.path))
starts a p (x ∷ ps) h = inl (sym h.path.0)

-- a path cut at its place e, and put together again
pub parts : (a : ℕ → ℕ) (v w e : ℕ) (es fs : List ℕ) → Seg a v (es ++ e ∷ fs) w → Seg a v es e × (e < POINTERS) × Seg a (a e) fs w
parts a v w e [] fs h = (sym h.0, omega arith, rw h.0 h.2)
parts a v w e (x ∷ es) fs h = let r = parts a (a v) w e es fs h.2 in ((h.0, h.1, r.0), r.1, r.2)

pub join : (a : ℕ → ℕ) (v u w : ℕ) (ps qs : List ℕ) → Seg a v ps u → Seg a u qs w → Seg a v (ps ++ qs) w
join a v u w [] qs h k = rw h k
join a v u w (p ∷ ps) qs h k = (h.0, h.1, join a (a v) u w ps qs h.2 k)

-- a path goes on from each link on it
pub onto : (a : ℕ → ℕ) (h v : ℕ) (es ps : List ℕ) → Seg a h es v → Path a h ps → (qs : List ℕ) × Path a v qs × (ps ≡ es ++ qs)
onto a h v [] ps s k = (ps, rw s at k, refl)
onto a h v (e ∷ es) [] s k = absurd (omega arith)
onto a h v (e ∷ es) (p ∷ ps) s k =
    let r = onto a (a h) v es ps s.2 k.2 in let t = r.2 in (r.0, r.1, cc)
