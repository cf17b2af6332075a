-- What a host tells of mini stream and MiniFAT, and what follows where it bears a table out.
-- Assumes nothing.
use Rattle.std.proofs.Common.{◌≡◌, ℕ, ◌*◌, ◌/◌, ◌%◌, ◌^◌, ◌<◌, ◌≤◌, Bool, true, false, cond, not, ◌&&◌, ◌||◌, eqb, ◌≢◌, ◌⊎◌, List, [], ◌∷◌, length, Some, None, Ok, Option, unwrap_or, sym, refl, ap, ◌∙◌, inl, inr, ⊎_elim, mul-le-mul, zero-mul, arith}
use native.Mathlib.Nat.{zero-div}
use Rattle.std.specs.Option.{option_map}
use Rattle.std.proofs.lemmas.Bool.{and_parts, and_from, or_cases, or_left, or_right, not-true, eqb-true, eqb-false, eq-eqb, ne_eqb, leb-true, le-leb}
use Rattle.links.specs.Links.{END}
use Rattle.rooms.specs.declared.Ground.{Ground}
use Rattle.store.specs.Refusals.{answer}
use Rattle.store.specs.Meaning.{Store, Lawful, bytes_of, units_of, headed}
use Rattle.mini.specs.Mini.{root_of, stream_at, fat_at, sectors_of, count_of, asked_of, fitting, ground_of, grounded, ground_if, Present, Borne}
use Rattle.mini.specs.declared.Asked.{Asked}

-- sectors that are told without a refusal
pub sectors_counted : (s : Store) (layer h : ℕ) (none : Bool) (n : ℕ) → sectors_of s layer h none ≡ Ok n → count_of s h none ≡ Some n
sectors_counted s layer h none n e = go (none && eqb h END) (s.chain h) e
  where
    go : (b : Bool) (o : Option (List ℕ)) → cond b (Ok 0) (answer (headed o layer h None) (length (unwrap_or o []) / s.unit)) ≡ Ok n
        → cond b (Some 0) (option_map (λ xs. length xs / s.unit) o) ≡ Some n
    go true o q = cc
    go false None q = cc
    go false (Some xs) q = cc

-- the sectors of a chain, where they are told
module _ (most : ℕ) (s : Store) (ok : Lawful most s) where
  -- END is no head
  pub end_none : s.chain END ≡ None
  end_none = go (s.chain END) refl
    where
      go : (o : Option (List ℕ)) → s.chain END ≡ o → o ≡ None
      go None e = refl
      go (Some xs) e = absurd (omega (arith, (ok.chains END xs e).head))

  pub end_bytes : (h : ℕ) → h ≡ END → bytes_of s h ≡ []
  end_bytes h e = ap (λ o. unwrap_or o []) (ap s.chain e ∙ end_none)

  pub end_units : (h : ℕ) → h ≡ END → units_of s h ≡ 0
  end_units h e = ap (λ xs. length xs / s.unit) (end_bytes h e) ∙ zero-div s.unit

  -- a chain's bytes are its units
  pub whole_units : (h : ℕ) → units_of s h * s.unit ≡ length (bytes_of s h)
  whole_units h = go (s.chain h) refl
    where
      go : (o : Option (List ℕ)) → s.chain h ≡ o → length (unwrap_or o []) / s.unit * s.unit ≡ length (unwrap_or o [])
      go None e = rw (zero-div s.unit, zero-mul s.unit) refl
      go (Some xs) e = (ok.chains h xs e).whole

  pub record Lies (h : ℕ) (none : Bool) (n : ℕ) : Type 0 where
    pub units : n ≡ units_of s h
    pub there : ((none ≡ true) × (h ≡ END)) ⊎ ((xs : List ℕ) × (s.chain h ≡ Some xs))

  pub count_lies : (h : ℕ) (none : Bool) (n : ℕ) → count_of s h none ≡ Some n → Lies h none n
  count_lies h none n e = go (none && eqb h END) refl e
    where
      some : (o : Option (List ℕ)) → s.chain h ≡ o → option_map (λ xs. length xs / s.unit) o ≡ Some n → Lies h none n
      some None p q = cc
      some (Some xs) p q = let r : length xs / s.unit ≡ n = cc in record { units = sym r ∙ ap (λ o. length (unwrap_or o []) / s.unit) (sym p); there = inr (xs, p) }

      go : (b : Bool) → (none && eqb h END) ≡ b → cond b (Some 0) (option_map (λ xs. length xs / s.unit) (s.chain h)) ≡ Some n → Lies h none n
      go true p q =
          let r = and_parts none (eqb h END) p in
          let k : h ≡ END = eqb-true h END r.1 in
          let u = end_units h k in
          record { units = cc; there = inl (r.0, k) }
      go false p q = some (s.chain h) refl q

  -- no chain has more units than a store, nor more bytes
  pub units_few : (h : ℕ) → units_of s h ≤ 4096
  units_few h = omega (arith, ok.within (h ∷ []) (absurd, tt), ok.few)

  pub bytes_few : (h : ℕ) → length (bytes_of s h) ≤ 16777216
  bytes_few h = omega (arith, whole_units h, mul-le-mul (units_few h) ok.small)

  module _ (m f t : ℕ) (lm : Lies (stream_at s) (eqb (root_of s).length 0) m) (lf : Lies (fat_at s) (eqb s.notes.words.count 0) f) where
    -- figures that bear a table of t links out
    pub borne_by : (stream_at s ≢ fat_at s) ⊎ (fat_at s ≡ END) → (root_of s).length % 64 ≡ 0 → 64 * t ≤ (root_of s).length → (root_of s).length ≤ m * s.unit
        → s.notes.words.count ≡ f → 4 * t ≤ f * s.unit → Borne s t
    borne_by two whole links inside counted table = record {
      two = two;
      whole = whole;
      links = links;
      inside = omega (arith, inside, ap (λ k. k * s.unit) lm.units, whole_units (stream_at s));
      counted = counted ∙ lf.units;
      table = omega (arith, table, ap (λ k. k * s.unit) lf.units, whole_units (fat_at s));
      stream = ⊎_elim (λ p. inl (eqb-true _ _ p.0, p.1)) inr lm.there;
      fat = ⊎_elim (λ p. inl (eqb-true _ _ p.0, p.1)) inr lf.there;
    }

    apart_from : (not (eqb (stream_at s) (fat_at s)) || eqb (fat_at s) END) ≡ true → (stream_at s ≢ fat_at s) ⊎ (fat_at s ≡ END)
    apart_from h = ⊎_elim (λ e. inl (eqb-false _ _ (not-true _ e))) (λ e. inr (eqb-true _ _ e)) (or_cases _ _ h)

    borne_fitting : fitting (root_of s) s.notes.words s.unit m f t ≡ true → Borne s t
    borne_fitting h =
        let a = and_parts _ _ h in
        let b = and_parts _ _ a.1 in
        let c = and_parts _ _ b.1 in
        let d = and_parts _ _ c.1 in
        let e = and_parts _ _ d.1 in
        borne_by (apart_from a.0) (eqb-true _ _ b.0) (leb-true _ _ c.0) (leb-true _ _ d.0) (eqb-true _ _ e.0) (leb-true _ _ e.1)

  -- where figures are told, the host bears the table out, and they are these
  pub told_borne : (t : ℕ) (g : Ground) → ground_if s t ≡ Some g → Borne s t × (g ≡ ground_of s t)
  told_borne t g e = go (asked_of s).minis (asked_of s).fats refl refl e
    where
      last : (m f : ℕ) (b : Bool) → Lies (stream_at s) (eqb (root_of s).length 0) m → Lies (fat_at s) (eqb s.notes.words.count 0) f
          → fitting (root_of s) s.notes.words s.unit m f t ≡ b → cond b (Some (ground_of s t)) None ≡ Some g → Borne s t × (g ≡ ground_of s t)
      last m f true lm lf p q = (borne_fitting m f t lm lf p, cc)
      last m f false lm lf p q = cc

      go : (o p : Option ℕ) → (asked_of s).minis ≡ o → (asked_of s).fats ≡ p → grounded s o p t ≡ Some g → Borne s t × (g ≡ ground_of s t)
      go None p a b e = cc
      go (Some m) None a b e = cc
      go (Some m) (Some f) a b e =
          last m f (fitting (root_of s) s.notes.words s.unit m f t) (count_lies (stream_at s) (eqb (root_of s).length 0) m a) (count_lies (fat_at s) (eqb s.notes.words.count 0) f b) refl e

  count_there : (h n : ℕ) → Present s h n → count_of s h (eqb n 0) ≡ Some (units_of s h)
  count_there h n (inl (z, e)) = rw (z, e, end_none) (ap Some (sym (zero-div s.unit)))
  count_there h n (inr (xs, e)) = go (eqb n 0 && eqb h END) refl
    where
      go : (b : Bool) → (eqb n 0 && eqb h END) ≡ b → cond b (Some 0) (option_map (λ xs. length xs / s.unit) (s.chain h)) ≡ Some (units_of s h)
      go true p = let k : h ≡ END = eqb-true h END (and_parts _ _ p).1 in let q : Some xs ≡ None = sym e ∙ (ap s.chain k ∙ end_none) in cc
      go false p = rw e refl

  -- and where the host bears the table out, they are told
  pub borne_told : (t : ℕ) → Borne s t → ground_if s t ≡ Some (ground_of s t)
  borne_told t b = rw (count_there (stream_at s) (root_of s).length b.stream, count_there (fat_at s) s.notes.words.count b.fat, fit)
    where
      two : (stream_at s ≢ fat_at s) ⊎ (fat_at s ≡ END) → (not (eqb (stream_at s) (fat_at s)) || eqb (fat_at s) END) ≡ true
      two (inl n) = or_left _ _ (ap not (ne_eqb _ _ n))
      two (inr e) = or_right _ _ (eq-eqb _ _ e)

      fit : fitting (root_of s) s.notes.words s.unit (units_of s (stream_at s)) (units_of s (fat_at s)) t ≡ true
      fit = and_from _ _ (two b.two) (and_from _ _ (eq-eqb _ _ b.whole) (and_from _ _ (le-leb _ _ b.links)
          (and_from _ _ (le-leb _ _ (omega (arith, b.inside, whole_units (stream_at s)))) (and_from _ _ (eq-eqb _ _ b.counted) (le-leb _ _ (omega (arith, b.table, whole_units (fat_at s))))))))

  module _ (a : Asked) (m f t : ℕ) (is : a ≡ asked_of s) (pm : Some m ≡ a.minis) (pf : Some f ≡ a.fats) where
    lies_m : Lies (stream_at s) (eqb (root_of s).length 0) m
    lies_m = count_lies _ _ m (sym (pm ∙ ap (λ x. x.minis) is))

    lies_f : Lies (fat_at s) (eqb s.notes.words.count 0) f
    lies_f = count_lies _ _ f (sym (pf ∙ ap (λ x. x.fats) is))

    -- the root length in mini sectors fits 32 bits
    pub ground_small : fitting a.root a.words a.unit m f t ≡ true → a.root.length / 64 < 2 ^ 32
    ground_small h =
        let b = borne_fitting m f t lies_m lies_f (sym (λ i. fitting (is i).root (is i).words (is i).unit m f t) ∙ h) in
        omega (arith, b.inside, bytes_few (stream_at s), ap (λ x. x.root.length) is)
