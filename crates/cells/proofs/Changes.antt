-- What joining a unit to a chain, and taking a chain's last unit off, do to the chains.
-- Assumes nothing.
use Rattle.std.proofs.Common.{◌≡◌, ℕ, ◌+◌, ◌<◌, true, ◌≢◌, List, [], ◌∷◌, ◌++◌, length, get_or, set, is_some, Some, None, Option, sym, refl, ap, ◌∙◌, ⊎_elim, arith}
use Rattle.std.proofs.lemmas.Option.{none-some}
use Rattle.std.proofs.lemmas.List.{get_or-set_same, get_or-set_other, length-set, length_push, get_or_push, get_or_append_left}
use Rattle.std.proofs.lemmas.Bool.{cases_eq, cases_lt}
use Rattle.cells.specs.declared.Note.{Note}
use Rattle.cells.specs.Noted.{note_at, unit_at, path, Unique, Down, Named}
use Rattle.cells.proofs.Seeks.{note, inside, unit_found, unit_there}
use Rattle.cells.proofs.Paths.{Sound, IsPath, one_note, path_is, path_only}

-- a unit that notes the rank r, where one notes the next
pub before : (N : List (Option Note)) (u h r : ℕ) → Down N → note_at N u ≡ Some (note h (r + 1)) → (v : ℕ) × (note_at N v ≡ Some (note h r))
before N u h r d e = go (unit_at N h r) refl (d u h r e)
  where
    go : (o : Option ℕ) → unit_at N h r ≡ o → is_some o ≡ true → (v : ℕ) × (note_at N v ≡ Some (note h r))
    go None f t = absurd (let z : ◌≡◌ {A = ℕ} 0 1 = cc in omega arith)
    go (Some v) f t = (v, unit_found N h r v f)

found : (N : List (Option Note)) (h r u : ℕ) → note_at N u ≡ Some (note h r) → is_some (unit_at N h r) ≡ true
found N h r u e = let v = unit_there N h r u e in ap is_some v.1

-- a free unit u is joined to the chain of h
module _ (N : List (Option Note)) (s : Sound N) (h u : ℕ) (inner : u < length N) (vacant : note_at N u ≡ None)
    (names : length (path N h) ≡ 0 → u ≡ h) where
  n : ℕ
  n = length (path N h)

  J : List (Option Note)
  J = set N u (Some (note h n))

  here : note_at J u ≡ Some (note h n)
  unfolding J
  here = get_or-set_same N u (Some (note h n)) None inner

  else : (x : ℕ) → x ≢ u → note_at J x ≡ note_at N x
  unfolding J
  else x k = get_or-set_other N u x (Some (note h n)) None k

  -- a unit on a chain is not the one that is joined
  other : (x : ℕ) (o : Note) → note_at N x ≡ Some o → x ≢ u
  other x o e k = none-some o (sym vacant ∙ ap (note_at N) (sym k) ∙ e)

  stays : (x : ℕ) (o : Note) → note_at N x ≡ Some o → note_at J x ≡ Some o
  stays x o e = else x (other x o e) ∙ e

  -- the rank behind the path is noted by the new unit alone
  top_only : (x k r : ℕ) → k ≡ h → r ≡ n → note_at J x ≡ Some (note k r) → x ≡ u
  unfolding n
  top_only x k r a b e = ⊎_elim (λ i. i) (λ i. absurd ((path_is N h).done x (sym (else x i) ∙ rw (a, b) at e))) (cases_eq x u)

  unique' : Unique J
  unique' x y o e f = ⊎_elim
      (λ (a : x ≡ u). let t = one_note J x u o.head h o.rank n a e here in a ∙ sym (top_only y o.head o.rank t.0 t.1 f))
      (λ a. ⊎_elim
      (λ (b : y ≡ u). let t = one_note J y u o.head h o.rank n b f here in top_only x o.head o.rank t.0 t.1 e ∙ sym b)
      (λ b. s.unique x y o (sym (else x a) ∙ e) (sym (else y b) ∙ f)) (cases_eq y u)) (cases_eq x u)

  down' : Down J
  unfolding n
  down' x k r e = ⊎_elim
      (λ (a : x ≡ u). let t = one_note J x u k h (r + 1) n a e here in
      let b : r < n = omega (arith, t.1) in
      found J k r (get_or (path N h) r 0) (stays _ (note k r) ((path_is N h).ranked r b ∙ ap (λ q. Some (note q r)) (sym t.0))))
      (λ a. let t = before N x k r s.down (sym (else x a) ∙ e) in found J k r t.0 (stays t.0 (note k r) t.1)) (cases_eq x u)

  named' : Named J
  unfolding n
  named' x k e = ⊎_elim
      (λ (a : x ≡ u). let t = one_note J x u k h 0 n a e here in t.0 ∙ sym (names (sym t.1)) ∙ sym a)
      (λ a. s.named x k (sym (else x a) ∙ e)) (cases_eq x u)

  pub join_sound : Sound (set N u (Some (note h (length (path N h)))))
  unfolding J n
  join_sound = record { counted = length-set N u (Some (note h n)) ∙ s.counted; unique = unique'; down = down'; named = named' }

  joined_is : IsPath J h (path N h ++ u ∷ [])
  unfolding n
  joined_is = record {
    ranked = λ r l. ⊎_elim
        (λ j. rw (get_or_append_left (path N h) (u ∷ []) 0 r j) (stays _ (note h r) ((path_is N h).ranked r j)))
        (λ j. let e : length (path N h) ≡ r = omega (arith, length_push (path N h) u) in
        rw (get_or_push (path N h) u 0 r e) (here ∙ ap (λ q. Some (note h q)) e)) (cases_lt r (length (path N h)));
    done = λ x e. let t = before J x h n down' (e ∙ ap (λ q. Some (note h q)) (length_push (path N h) u)) in
        ⊎_elim
        (λ (a : x ≡ u). omega (arith, (one_note J x u h h _ n a e here).1, length_push (path N h) u))
        (λ a. let b = before N x h n s.down (sym (else x a) ∙ e ∙ ap (λ q. Some (note h q)) (length_push (path N h) u)) in (path_is N h).done b.0 b.1) (cases_eq x u);
  }

  pub join_path : path (set N u (Some (note h (length (path N h))))) h ≡ path N h ++ u ∷ []
  unfolding J n
  join_path = path_only J h (path N h ++ u ∷ []) unique' joined_is

  pub join_others : (k : ℕ) → k ≢ h → path (set N u (Some (note h (length (path N h))))) k ≡ path N k
  unfolding J n
  join_others k d = path_only J k (path N k) unique' (record {
    ranked = λ r l. stays _ (note k r) ((path_is N k).ranked r l);
    done = λ x e. ⊎_elim
        (λ (a : x ≡ u). d (one_note J x u k h _ n a e here).0)
        (λ a. (path_is N k).done x (sym (else x a) ∙ e)) (cases_eq x u);
  })

-- the last unit u of the chain of h is taken off
module _ (N : List (Option Note)) (s : Sound N) (h u : ℕ) (us : List ℕ) (last : path N h ≡ us ++ u ∷ []) where
  G : List (Option Note)
  G = set N u None

  is : IsPath N h (us ++ u ∷ [])
  is = rw last at (path_is N h)

  pub top : note_at N u ≡ Some (note h (length us))
  top = rw (get_or_push us u 0 (length us) refl) at (is.ranked (length us) (omega (arith, length_push us u)))

  gone : note_at G u ≡ None
  unfolding G
  gone = get_or-set_same N u None None (inside N u _ top)

  same : (x : ℕ) → x ≢ u → note_at G x ≡ note_at N x
  unfolding G
  same x k = get_or-set_other N u x None None k

  was : (x : ℕ) (o : Note) → note_at G x ≡ Some o → (x ≢ u) × (note_at N x ≡ Some o)
  was x o e =
      let a : x ≢ u = λ k. none-some o (sym gone ∙ ap (note_at G) (sym k) ∙ e) in (a, sym (same x a) ∙ e)

  -- what notes another head or rank stays
  keeps : (x k r : ℕ) → ((k ≡ h) → (r ≡ length us) → ⊥) → note_at N x ≡ Some (note k r) → note_at G x ≡ Some (note k r)
  keeps x k r d e = same x (λ i. let t = one_note N x u k h r (length us) i e top in d t.0 t.1) ∙ e

  unique'' : Unique G
  unique'' x y o e f = s.unique x y o (was x o e).1 (was y o f).1

  pub part_sound : Sound (set N u None)
  unfolding G
  part_sound = record {
    counted = length-set N u None ∙ s.counted;
    unique = unique'';
    down = λ x k r e. let i = (was x _ e).1 in let t = before N x k r s.down i in
        found G k r t.0 (keeps t.0 k r (λ a b. is.done x (i ∙ ap Some (past k r a b))) t.1);
    named = λ x k e. s.named x k (was x _ e).1;
  }
    where
      past : (k r : ℕ) → k ≡ h → r ≡ length us → note k (r + 1) ≡ note h (length (us ++ u ∷ []))
      past k r a b = rw (a, b, length_push us u) refl

  pub part_path : path (set N u None) h ≡ us
  unfolding G
  part_path = path_only G h us unique'' (record {
    ranked = λ r l. keeps _ h r (λ a b. omega arith)
        (rw (get_or_append_left us (u ∷ []) 0 r l) at (is.ranked r (omega (arith, length_push us u))));
    done = λ x e. let t = was x _ e in t.0 (s.unique x u _ t.1 top);
  })

  pub part_others : (k : ℕ) → k ≢ h → path (set N u None) k ≡ path N k
  unfolding G
  part_others k d = path_only G k (path N k) unique'' (record {
    ranked = λ r l. keeps _ k r (λ a b. d a) ((path_is N k).ranked r l);
    done = λ x e. (path_is N k).done x (was x _ e).1;
  })
