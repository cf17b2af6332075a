-- The units as a store of chains.
-- Assumes nothing.
use Rattle.std.proofs.Common.{◌≡◌, ℕ, ◌+◌, ◌-◌, ◌*◌, ◌/◌, ◌<◌, ◌≤◌, cond, eqb, ◌≢◌, List, [], ◌∷◌, ◌++◌, length, get_or, take, set, replicate, is_none, Some, None, sum_by, count_by, Option, unwrap_or, sym, refl, ap, ◌∙◌, ⊎_elim, mul-div_cancel, arith, rules}
use mathlib.Core.Path.{fun_ext}
use Rattle.std.specs.List.{flat_map}
use Rattle.std.specs.Map.{update}
use Rattle.std.proofs.lemmas.Option.{same_Some, none-some}
use Rattle.std.proofs.lemmas.Map.{update_here, update_apart}
use Rattle.std.proofs.lemmas.List.{nil_from_length, flat_map_more, same_lists, places, length_push, take_at}
use Rattle.std.proofs.lemmas.List.Sums.{sum_by-cons, sum_by-set, get_or-le-sum_by}
use Rattle.std.proofs.lemmas.Bool.{cases_eq, cases_lt, lt-ltb, le-ltb, cond-true, cond-false}
use Rattle.links.specs.Links.{In, Apart}
use Rattle.links.proofs.Members.{in_left}
use Rattle.links.proofs.Counts.{Parted, parted_within}
use Rattle.store.specs.Meaning.{Notes, Lawful, Chain, laid, units_of, bytes_of, with_chain}
use Rattle.chain.specs.Units.{Whole, cell, content}
use Rattle.chain.proofs.Joined.{in_get_d, length_units, joined_same, length-cell, cell_same, cell_other}
use Rattle.chain.proofs.Views.{length-content}
use Rattle.cells.specs.declared.Note.{Note}
use Rattle.cells.specs.Noted.{note_at, path}
use Rattle.cells.specs.Stored.{viewed, stored, joined_to, taken_back, but_last}
use Rattle.cells.proofs.Seeks.{note, inside}
use Rattle.cells.proofs.Paths.{Sound, one_note, path_is, ranked_head, ranked_apart, marked, marked_live, marked_free, length-marked}
use Rattle.cells.proofs.Changes.{join_path, join_others, top, part_path, part_others}

module _ (N : List (Option Note)) (h : ℕ) where
  -- a unit of the chain of h notes h
  pub notes_head : (x : ℕ) → In x (path N h) → (r : ℕ) × (note_at N x ≡ Some (note h r))
  notes_head = ranked_head N h (path N h) (path_is N h).ranked

  pub path_apart : Apart (path N h)
  path_apart = ranked_apart N h (path N h) (path_is N h).ranked

  pub unit_small : (x : ℕ) → In x (path N h) → x < length N
  unit_small x i = let e = notes_head x i in inside N x (note h e.0) e.1

  pub path_first : Sound N → 0 < length (path N h) → get_or (path N h) 0 0 ≡ h
  path_first s l = sym (s.named _ h ((path_is N h).ranked 0 l))

  pub head_small : Sound N → 0 < length (path N h) → h < 64
  head_small s l = omega (arith, path_first s l, unit_small _ (in_get_d (path N h) 0 l), s.counted)

module _ (N : List (Option Note)) (s : Sound N) where
  pub viewed_whole : (B : List ℕ) → length B ≡ 32768 → Whole (viewed N B)
  viewed_whole B f = record {
    some = omega arith;
    first = λ h. path_first N h s;
    apart = path_apart N;
    inner = λ h p i. omega (arith, unit_small N h p i, s.counted);
  }

  module _ (B : List ℕ) (f : length B ≡ 32768) (n : Notes) where
    pub chain_some : (h : ℕ) → 0 < length (path N h) → (stored N B n).chain h ≡ Some (content (viewed N B) h)
    chain_some h l = cond-true _ _ _ (lt-ltb 0 (length (path N h)) l)

    pub chain_none : (h : ℕ) → length (path N h) ≤ 0 → (stored N B n).chain h ≡ None
    chain_none h l = cond-false _ _ _ (le-ltb 0 (length (path N h)) l)

    empty-content : (h : ℕ) → length (path N h) ≤ 0 → content (viewed N B) h ≡ []
    unfolding content
    empty-content h l = ap (flat_map (cell 512 B)) (nil_from_length (path N h) (omega arith))

    -- the bytes of a chain, also where there is none
    pub bytes_content : (h : ℕ) → bytes_of (stored N B n) h ≡ content (viewed N B) h
    bytes_content h = ⊎_elim
        (λ l. ap (λ o. unwrap_or o []) (chain_some h l))
        (λ l. ap (λ o. unwrap_or o []) (chain_none h l) ∙ sym (empty-content h l)) (cases_lt 0 (length (path N h)))

    pub content_long : (h : ℕ) → length (content (viewed N B) h) ≡ length (path N h) * 512
    content_long h = length-content (viewed N B) (viewed_whole B f) h

    pub units_path : (h : ℕ) → units_of (stored N B n) h ≡ length (path N h)
    units_path h = ap (λ xs. length xs / 512) (bytes_content h) ∙ ap (λ k. k / 512) (content_long h) ∙ mul-div_cancel (length (path N h)) (omega arith)

    sum_same : (hs : List ℕ) → sum_by (units_of (stored N B n)) hs ≡ sum_by (λ h. length (path N h)) hs
    sum_same [] = refl
    sum_same (h ∷ hs) =
        sum_by-cons (units_of (stored N B n)) h hs ∙ rw (units_path h, sum_same hs) (sym (sum_by-cons (λ k. length (path N k)) h hs))

    parted : (hs : List ℕ) → Parted (marked N) (path N) hs
    parted hs = record {
      single = λ h i. path_apart N h;
      taken = λ h x i j. let e = notes_head N h x j in marked_live N x (note h e.0) e.1;
      owner = λ h k x i j a b. let e = notes_head N h x a in let g = notes_head N k x b in (one_note N x x h k e.0 g.0 refl e.1 g.1).0;
    }

    chain_of_lem : (h : ℕ) (xs : List ℕ) → (stored N B n).chain h ≡ Some xs → Chain 512 h xs
    chain_of_lem h xs e = ⊎_elim
        (λ l. let t : xs ≡ content (viewed N B) h = same_Some _ _ (sym e ∙ chain_some h l) in
        let k = content_long h in
        let i = head_small N h s l in
        rw t (record { head = omega arith; some = omega arith; whole = rw k (ap (λ m. m * 512) (mul-div_cancel (length (path N h)) (omega arith))) }))
        (λ l. absurd (none-some xs (sym (chain_none h l) ∙ e))) (cases_lt 0 (length (path N h)))

    pub lawful : Lawful 64 (stored N B n)
    lawful = record {
      unit = omega arith;
      small = omega arith;
      few = omega arith;
      chains = chain_of_lem;
      within = λ hs d. omega (arith, sum_same hs, parted_within (marked N) (path N) hs (parted hs) d, marked_free N, length-marked N, s.counted);
    }

-- a store whose chain of h is another, and its room, and that is else the same
pub stored_as : (N M : List (Option Note)) (B A : List ℕ) (n : Notes) (h room : ℕ) (w : Option (List ℕ)) → count_by is_none M ≡ room
    → (stored M A n).chain h ≡ w → ((k : ℕ) → k ≢ h → (stored M A n).chain k ≡ (stored N B n).chain k)
    → stored M A n ≡ with_chain (stored N B n) h w room
stored_as N M B A n h room w r here else = rw (fun_ext each, r)
  where
    each : (k : ℕ) → (stored M A n).chain k ≡ update eqb (stored N B n).chain h w k
    each k = ⊎_elim
        (λ (e : k ≡ h). rw e (here ∙ sym (update_here (stored N B n).chain h w)))
        (λ d. else k d ∙ sym (update_apart (stored N B n).chain h w k d)) (cases_eq k h)

-- equal paths over equal bytes are equal chains
same_chain : (N M : List (Option Note)) (B A : List ℕ) (n : Notes) (k : ℕ) → path M k ≡ path N k → ((x : ℕ) → In x (path N k) → cell 512 A x ≡ cell 512 B x)
    → (stored M A n).chain k ≡ (stored N B n).chain k
unfolding content
same_chain N M B A n k e c = rw (e, joined_same (cell 512 B) (cell 512 A) (path N k) c)

joined_push : (f : ℕ → List ℕ) (us : List ℕ) (u : ℕ) → flat_map f (us ++ u ∷ []) ≡ flat_map f us ++ f u
joined_push f us u = sym (flat_map_more f [] us u)

laid-zeros : (xs : List ℕ) (m : ℕ) → length xs ≡ m → laid xs 0 (replicate m 0) ≡ replicate m 0
unfolding laid
laid-zeros xs m e = same_lists _ _ (search (rules, places)) (λ k d l. grind (arith, places))

-- a note more is a free unit less
pub noted_more : (N : List (Option Note)) (u : ℕ) (o : Option Note) → u < length N
    → count_by is_none (set N u o) + cond (is_none (note_at N u)) 1 0 ≡ count_by is_none N + cond (is_none o) 1 0
noted_more N u o l = omega (arith, sum_by-set (λ x. cond (is_none x) 1 0) N u o None l)

pub one_free : (N : List (Option Note)) (u : ℕ) → u < length N → note_at N u ≡ None → 0 < count_by is_none N
one_free N u l e = omega (arith, rw e at (get_or-le-sum_by (λ x. cond (is_none x) 1 0) N u None l))

-- a free unit u is joined to the chain of h, and zeroed
module _ (N : List (Option Note)) (B : List ℕ) (s : Sound N) (f : length B ≡ 32768) (n : Notes) (h u : ℕ) (inner : u < length N) (vacant : note_at N u ≡ None)
    (names : length (path N h) ≡ 0 → u ≡ h) where
  A : List ℕ
  A = laid B (u * 512) (replicate 512 0)

  J : List (Option Note)
  J = set N u (Some (note h (length (path N h))))

  at_start : u * 512 + 0 ≡ u * 512
  at_start = omega arith

  zeroed : cell 512 A u ≡ replicate 512 0
  unfolding A
  zeroed =
      rw (← at_start) (cell_same 512 B u (omega (arith, s.counted)) 0 (replicate 512 0) (omega arith) ∙ laid-zeros (cell 512 B u) 512 (length-cell 512 B u (omega (arith, s.counted))))

  other_cell : (x : ℕ) → x ≢ u → cell 512 A x ≡ cell 512 B x
  unfolding A
  other_cell x d = rw (← at_start) (cell_other 512 B u (omega (arith, s.counted)) 0 (replicate 512 0) (omega arith) x d)

  -- no unit of a chain is the free one
  on_chain : (k x : ℕ) → In x (path N k) → x ≢ u
  on_chain k x i e = let t = notes_head N k x i in none-some (note k t.0) (sym vacant ∙ ap (note_at N) (sym e) ∙ t.1)

  join_content : content (viewed J A) h ≡ content (viewed N B) h ++ replicate 512 0
  unfolding content J
  join_content =
      rw (join_path N s h u inner vacant names)
      (joined_push (cell 512 A) (path N h) u ∙ rw (zeroed, joined_same (cell 512 B) (cell 512 A) (path N h) (λ x i. other_cell x (on_chain h x i))))

  pub join_stored : stored (set N u (Some (note h (length (path N h))))) (laid B (u * 512) (replicate 512 0)) n ≡ joined_to (stored N B n) h
  unfolding A J
  join_stored = stored_as N J B A n h _ _ room
      (cond-true _ _ _ (lt-ltb 0 (length (path J h)) (omega (arith, ap length (join_path N s h u inner vacant names), length_push (path N h) u)))
      ∙ ap Some (join_content ∙ ap (λ xs. xs ++ replicate 512 0) (sym (bytes_content N s B f n h))))
      (λ k d. same_chain N J B A n k (join_others N s h u inner vacant names k d) (λ x i. other_cell x (on_chain k x i)))
    where
      room : count_by is_none (set N u (Some (note h (length (path N h))))) ≡ count_by is_none N - 1
      room = omega (arith, rw vacant at (noted_more N u (Some (note h (length (path N h)))) inner))

-- the last unit u of the chain of h is taken off
module _ (N : List (Option Note)) (B : List ℕ) (s : Sound N) (f : length B ≡ 32768) (n : Notes) (h u : ℕ) (us : List ℕ) (last : path N h ≡ us ++ u ∷ []) where
  F : List (Option Note)
  F = set N u None

  xs : List ℕ
  xs = content (viewed N B) h

  units_long : length xs ≡ length us * 512 + 512
  unfolding xs
  units_long = omega (arith, content_long N s B f n h, ap length last, length_push us u)

  rest_long : length (flat_map (cell 512 B) us) ≡ length us * 512
  rest_long = length_units (cell 512 B) 512 us
      (λ q i. length-cell 512 B q (omega (arith, unit_small N h q (rw last (in_left q us (u ∷ []) i)), s.counted)))

  part_content : flat_map (cell 512 B) us ≡ take (length xs - 512) xs
  unfolding content xs
  part_content =
      let k : length xs - 512 ≡ length (flat_map (cell 512 B) us) = omega (arith, units_long, rest_long) in
      rw k (sym (rw last (rw (joined_push (cell 512 B) us u) (take_at (flat_map (cell 512 B) us) (cell 512 B u) _ refl))))

  part_chain : (stored F B n).chain h ≡ but_last xs
  unfolding F content
  part_chain = rw (part_path N s h u us last) (⊎_elim
      (λ l. cond-true _ _ _ (lt-ltb 0 (length us) l) ∙ rw (lt-ltb 512 (length xs) (omega (arith, units_long))) (ap Some part_content))
      (λ l. cond-false _ _ _ (le-ltb 0 (length us) l) ∙ rw (le-ltb 512 (length xs) (omega (arith, units_long))) refl) (cases_lt 0 (length us)))

  pub part_stored : stored (set N u None) B n ≡ taken_back (stored N B n) h
  unfolding F xs
  part_stored =
      let c = chain_some N s B f n h (omega (arith, ap length last, length_push us u)) in
      rw c (stored_as N F B B n h _ _ room part_chain (λ k d. same_chain N F B B n k (part_others N s h u us last k d) (λ x i. refl)))
    where
      room : count_by is_none (set N u None) ≡ count_by is_none N + 1
      room = let t = top N s h u us last in omega (arith, rw t at (noted_more N u None (inside N u _ t)))
