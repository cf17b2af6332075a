-- Sectors are added to the MiniFAT and to the mini stream: the mini store means the same, and has more ready.
-- Assumes nothing.
use Rattle.std.proofs.Common.{◌≡◌, ℕ, zero, suc, ◌+◌, ◌-◌, ◌*◌, ◌/◌, ◌%◌, ◌<◌, ◌≤◌, Bool, true, false, cond, ◌||◌, eqb, ◌≢◌, ◌⊎◌, List, [], ◌++◌, length, drop, replicate, Some, None, Ok, Err, Option, Result, unwrap_or, sym, refl, ap, ◌∙◌, subst, inl, inr, ⊎_elim, append-nil, mod-eq_of_lt, suc-mul, add-mul, zero-mul, mul-div_cancel, arith}
use mathlib.Core.Path.{fun_ext}
use Rattle.std.specs.Map.{update}
use Rattle.std.proofs.lemmas.List.{length-append, length-replicate, replicate-append-replicate, drop_all, length-set}
use Rattle.std.proofs.lemmas.Map.{update_here, update_apart, update-update}
use Rattle.std.proofs.Math.Bool.{or-false, or_comm}
use Rattle.std.proofs.Math.Nat.{mul-pos}
use Rattle.std.proofs.lemmas.Bool.{cases_eq, eq-eqb, ne_eqb, or_right}
use Rattle.links.specs.Links.{END}
use Rattle.store.specs.declared.entries.Entry.{Entry}
use Rattle.store.specs.declared.entries.ObjType.TheVariants.{Unallocated}
use Rattle.store.specs.Refusals.{Refused, answer, unless}
use Rattle.store.specs.Meaning.{Store, Hosted, Lawful, MAX_HEAD, bytes_of, units_of, zeros, laid, with_chain, with_notes, Begins, wrote, worded, moved}
use Rattle.chain.proofs.Dues.{begin_yes, extend_yes}
use Rattle.chain.proofs.Laid.{laid_none, laid-laid, laid_right, length-laid}
use Rattle.chain.proofs.Zeros.{chain_same, chain_twice}
use Rattle.rooms.specs.Rooms.{fats_needed, minis_needed, need, fits}
use Rattle.rooms.proofs.Rooms.{fits_parts}
use Rattle.mini.specs.Adding.{GrowsBy, Grows, filled, fats_told, minis_told, AddsFatsBy, AddsMinisBy, AddsFats, AddsMinis}
use Rattle.mini.specs.Mini.{root_of, stream_at, fat_at, ground_of, Present, Borne, kept_part}
use Rattle.mini.proofs.Figures.{end_none, end_bytes, whole_units, units_few, bytes_few}
use Rattle.mini.proofs.States.{wrote_yes, hosted_same, entered_yes}
use Rattle.mini.proofs.Swaps.{same_notes, bytes_here, root_moved, moved_twice}

-- n sectors went to the end of the chain of start, or to a new chain; it is that of h
pub record Grew (s : Store) (start n h : ℕ) (after : Store) : Type 0 where
  pub is : after ≡ with_chain s h (Some (bytes_of s start ++ zeros s n)) (s.room - n)
  pub head : ((h ≡ start) × (start ≢ END)) ⊎ ((start ≡ END) × (s.chain h ≡ None) × (h ≤ MAX_HEAD))

module _ (most layer : ℕ) (s : Store) (ok : Lawful most s) (n : ℕ) (some : n ≢ 0) (room : n ≤ s.room) where
  grew : (start : ℕ) → (start ≡ END) ⊎ ((xs : List ℕ) × (s.chain start ≡ Some xs)) → (r : Result ℕ Refused) (mid : Store) → Grows s layer start n r mid
      → (h : ℕ) × (r ≡ Ok h) × Grew s start n h mid
  grew start there r mid g = ⊎_elim new old (cases_eq start END)
    where
      begun : (r : Result ℕ Refused) → start ≡ END → Begins s layer n r mid → (h : ℕ) × (r ≡ Ok h) × Grew s start n h mid
      begun (Ok h) e b =
          (h, refl, record { is = b.3 ∙ ap (λ ys. with_chain s h (Some (ys ++ zeros s n)) (s.room - n)) (sym (end_bytes most s ok start e)); head = inr (e, b.1, b.2) })
      begun (Err f) e b = let q : None ≡ Some f = sym (begin_yes s layer n some room) ∙ b.0 in cc

      new : start ≡ END → (h : ℕ) × (r ≡ Ok h) × Grew s start n h mid
      new e = begun r e (subst (λ b. GrowsBy b s layer start n r mid) (eq-eqb start END e) g)

      old : start ≢ END → (h : ℕ) × (r ≡ Ok h) × Grew s start n h mid
      old d = ⊎_elim (λ e. absurd (d e))
          (λ x.
          let f = subst (λ b. GrowsBy b s layer start n r mid) (ne_eqb start END d) g in
          let due = extend_yes s layer start x.0 x.1 n room in (
            start,
            f.0 ∙ ap (λ o. answer o start) due,
            record { is = f.1 ∙ ap (λ o. unless o s (with_chain s start (Some (bytes_of s start ++ zeros s n)) (s.room - n))) due; head = inl (refl, d) },
          ))
          there

-- sectors of a chain that are filled with FREE
pub filled_is : (n : ℕ) (s : Store) (layer h rank : ℕ) (bs : List ℕ) → s.chain h ≡ Some bs → 0 < length bs → (rank + n) * s.unit ≤ length bs
    → filled n s layer h rank ≡ with_chain s h (Some (laid bs (rank * s.unit) (replicate (n * s.unit) 255))) s.room
filled_is zero s layer h rank bs e some l =
    let z : 0 * s.unit ≡ 0 = zero-mul s.unit in
    sym (rw (z, laid_none bs (rank * s.unit)) (chain_same s h (Some bs) e))
filled_is (suc n) s layer h rank bs e some l =
    let u = s.unit in
    let ones : List ℕ = replicate u 255 in
    let here : bytes_of s h ≡ bs = ap (λ o. unwrap_or o []) e in
    let lu : length ones ≡ u = length-replicate u 255 in
    let sum : (rank + suc n) * u ≡ rank * u + (u + n * u) = add-mul rank (suc n) u ∙ ap (λ k. rank * u + k) (suc-mul n u ∙ omega arith) in
    let fits : rank * u + length ones ≤ length bs = omega (arith, sum, lu, l) in
    let one : wrote s layer h (rank * u) ones ≡ with_chain s h (Some (laid bs (rank * u) ones)) s.room =
    wrote_yes s h layer (rank * u) ones (omega (arith, some, ap length here)) (omega (arith, fits, ap length here)) ∙ ap (λ ys. with_chain s h (Some (laid ys (rank * u) ones)) s.room) here in
    let next = with_chain s h (Some (laid bs (rank * u) ones)) s.room in
    let long : length (laid bs (rank * u) ones) ≡ length bs = length-laid bs ones (rank * u) fits in
    let more : (rank + 1 + n) * u ≡ (rank + suc n) * u = ap (λ k. k * u) (omega arith) in
    let on : (rank + 1) * u ≡ rank * u + length ones = add-mul rank 1 u ∙ omega (arith, lu, suc-mul 0 u, zero-mul u) in
    ap (λ z. filled n z layer h (rank + 1)) one
    ∙ filled_is n next layer h (rank + 1) (laid bs (rank * u) ones) (update_here s.chain h (Some (laid bs (rank * u) ones))) (omega (arith, some, long)) (omega (arith, more, long, l))
    ∙ chain_twice s h (Some (laid bs (rank * u) ones)) (Some (laid (laid bs (rank * u) ones) ((rank + 1) * u) (replicate (n * u) 255))) s.room s.room
    ∙ ap (λ k. with_chain s h (Some (laid (laid bs (rank * u) ones) k (replicate (n * u) 255))) s.room) on
    ∙ ap (λ ys. with_chain s h (Some ys) s.room)
    (laid-laid bs ones (replicate (n * u) 255) (rank * u) fits ∙ ap (laid bs (rank * u)) (replicate-append-replicate u (n * u) 255 ∙ ap (λ k. replicate k 255) (sym (suc-mul n u ∙ omega arith))))

-- what lies behind the end of a list, laid over whole
laid_behind : (xs ys zs : List ℕ) (u : ℕ) → length xs ≡ u → length ys ≡ length zs → laid (xs ++ ys) u zs ≡ xs ++ zs
unfolding laid
laid_behind xs ys zs u e n =
    let z : u ≡ u + 0 = omega arith in
    let all : drop (0 + length zs) ys ≡ [] = drop_all (0 + length zs) ys (omega arith) in
    ap (λ k. laid (xs ++ ys) k zs) z ∙ laid_right xs ys zs u 0 e ∙ ap (λ l. xs ++ l) (ap (λ l. zs ++ l) all ∙ append-nil zs)

-- a chain that is none is none whether it is hidden or not
pub both-none : (b : Bool) (o : Option (List ℕ)) → o ≡ None → cond b None o ≡ None
both-none true o e = refl
both-none false o e = e

-- what the mini store leaves as it is, where the chain of start is now that of h, longer
module _ (most : ℕ) (s : Store) (ok : Lawful most s) (start h : ℕ) (w : Option (List ℕ)) (head : ((h ≡ start) × (start ≢ END)) ⊎ ((start ≡ END) × (s.chain h ≡ None) × (h ≤ MAX_HEAD))) where
  or_none : (b c : Bool) → c ≡ false → (b || c) ≡ b
  or_none b c e = ap (λ d. b || d) e ∙ or-false b

  pub others_kept : (k : ℕ) (b : Bool) → cond (b || eqb k h) None (update eqb s.chain h w k) ≡ cond (b || eqb k start) None (s.chain k)
  others_kept k b = ⊎_elim here away (cases_eq k h)
    where
      here : k ≡ h → cond (b || eqb k h) None (update eqb s.chain h w k) ≡ cond (b || eqb k start) None (s.chain k)
      here e = ap (λ c. cond c None (update eqb s.chain h w k)) (or_right b (eqb k h) (eq-eqb k h e)) ∙ sym (⊎_elim
          (λ p. ap (λ c. cond c None (s.chain k)) (or_right b (eqb k start) (eq-eqb k start (e ∙ p.0))))
          (λ p. both-none (b || eqb k start) (s.chain k) (ap s.chain e ∙ p.1)) head)

      away : k ≢ h → cond (b || eqb k h) None (update eqb s.chain h w k) ≡ cond (b || eqb k start) None (s.chain k)
      away n = (λ i. cond (or_none b (eqb k h) (ne_eqb k h n) i) None (update_apart s.chain h w k n i)) ∙ ⊎_elim
          (λ p. ap (λ c. cond c None (s.chain k)) (sym (or_none b (eqb k start) (ne_eqb k start (λ e. n (e ∙ sym p.0))))))
          (λ p. ⊎_elim
          (λ (e : k ≡ start). let q : s.chain k ≡ None = ap s.chain (e ∙ p.0) ∙ end_none most s ok in both-none b (s.chain k) q ∙ sym (both-none (b || eqb k start) (s.chain k) q))
          (λ d. ap (λ c. cond c None (s.chain k)) (sym (or_none b (eqb k start) (ne_eqb k start d)))) (cases_eq k start)) head

  -- it is not the chain of another head that is there
  pub new_apart : (x n : ℕ) → (x ≢ start) ⊎ (start ≡ END) → Present s x n → x ≢ h
  new_apart x n far (inl p) e = ⊎_elim
      (λ q. ⊎_elim (λ f. f (e ∙ q.0)) (λ z. q.1 z) far)
      (λ q. omega (arith, q.2, ap (λ k. k) (sym e ∙ p.1))) head
  new_apart x n far (inr (xs, p)) e = ⊎_elim
      (λ q. ⊎_elim (λ f. f (e ∙ q.0)) (λ z. q.1 z) far)
      (λ q. let z : Some xs ≡ None = sym p ∙ ap s.chain e ∙ q.1 in cc) head

-- sectors were added: nf to the MiniFAT, nm to the mini stream
pub record Added (s after : Store) (nf nm : ℕ) : Type 0 where
  pub unit : after.unit ≡ s.unit
  pub room : after.room + (nf + nm) ≡ s.room
  pub long : (root_of after).length ≡ (root_of s).length
  pub count : after.notes.words.count ≡ s.notes.words.count + nf
  pub stream : bytes_of after (stream_at after) ≡ bytes_of s (stream_at s) ++ zeros s nm
  pub fat : bytes_of after (fat_at after) ≡ bytes_of s (fat_at s) ++ replicate (nf * s.unit) 255
  pub two : (stream_at after ≢ fat_at after) ⊎ (fat_at after ≡ END)
  pub there_stream : Present after (stream_at after) (root_of after).length
  pub there_fat : Present after (fat_at after) after.notes.words.count
  pub notes : kept_part after ≡ kept_part s
  pub hosted : Hosted after

none_more : (xs : List ℕ) (u v : ℕ) → xs ≡ xs ++ replicate (0 * u) v
none_more xs u v = let z : 0 * u ≡ 0 = zero-mul u in sym (ap (λ k. xs ++ replicate k v) z ∙ append-nil xs)

pub added_none : (s : Store) (t : ℕ) → Hosted s → Borne s t → Added s s 0 0
added_none s t h b = record {
  unit = refl;
  room = omega arith;
  long = refl;
  count = omega arith;
  stream = none_more (bytes_of s (stream_at s)) s.unit 0;
  fat = none_more (bytes_of s (fat_at s)) s.unit 255;
  two = b.two;
  there_stream = b.stream;
  there_fat = b.fat;
  notes = refl;
  hosted = h;
}

present_end : (s : Store) (h n : ℕ) → Present s h n → (h ≡ END) ⊎ ((xs : List ℕ) × (s.chain h ≡ Some xs))
present_end s h n (inl p) = inl p.1
present_end s h n (inr p) = inr p

flip : (s : Store) → (stream_at s ≢ fat_at s) ⊎ (fat_at s ≡ END) → Present s (stream_at s) (root_of s).length → (fat_at s ≢ stream_at s) ⊎ (stream_at s ≡ END)
flip s (inl d) p = inl (λ e. d (sym e))
flip s (inr e) p = ⊎_elim (λ (q : stream_at s ≡ END). inr q) (λ n. inl (λ q. n (sym q ∙ e))) (cases_eq (stream_at s) END)

module _ (most layer : ℕ) (s : Store) (ok : Lawful most s) (h : Hosted s) (t : ℕ) (b : Borne s t) (n : ℕ) (some : n ≢ 0) (room : n ≤ s.room) where
  n_few : n ≤ 4096
  n_few = omega (arith, room, ok.within [] tt, ok.few)

  positive : 0 < n * s.unit
  positive = mul-pos (omega arith) ok.unit

  pub added_fats : (after : Store) → AddsFatsBy false s layer n after → Added s after n 0
  added_fats after a =
      let g = grew most layer s ok n some room (fat_at s) (present_end s _ _ b.fat) a.0 a.1 a.2 in
      let head = g.0 in
      let q = g.2 in
      let had = s.notes.words.count in
      let u = s.unit in
      let ys = bytes_of s (fat_at s) in
      let cnt : (had + n) % 0x100000000 ≡ had + n = omega (arith, b.counted, units_few most s ok (fat_at s), n_few) in
      let grown = with_chain s head (Some (ys ++ zeros s n)) (s.room - n) in
      let lz : length (zeros s n) ≡ n * u = length-replicate (n * u) 0 in
      let ly : length (ys ++ zeros s n) ≡ had * u + n * u = length-append ys (zeros s n) ∙ omega (arith, lz, whole_units most s ok (fat_at s), ap (λ k. k * u) b.counted) in
      let now : Store = worded grown (record { start = head; count = had + n }) in
      let told : worded a.1 (record { start = head; count = (had + n) % 0x100000000 }) ≡ now = λ i. worded (q.is i) (record { start = head; count = cnt i }) in
      let fill : filled n now layer head had ≡ with_chain now head (Some (laid (ys ++ zeros s n) (had * u) (replicate (n * u) 255))) (s.room - n) =
      filled_is n now layer head had (ys ++ zeros s n) (update_here s.chain head (Some (ys ++ zeros s n))) (omega (arith, ly, positive)) (omega (arith, ly, add-mul had n u)) in
      let bytes : laid (ys ++ zeros s n) (had * u) (replicate (n * u) 255) ≡ ys ++ replicate (n * u) 255 =
      laid_behind ys (zeros s n) (replicate (n * u) 255) (had * u) (omega (arith, whole_units most s ok (fat_at s), ap (λ k. k * u) b.counted)) (lz ∙ sym (length-replicate (n * u) 255)) in
      let final : Store = with_chain now head (Some (ys ++ replicate (n * u) 255)) (s.room - n) in
      let e : after ≡ final = a.3 ∙ (λ i. fats_told (g.1 i) a.1 layer had n) ∙ ap (λ z. filled n z layer head had) told ∙ fill
      ∙ ap (λ zs. with_chain now head (Some zs) (s.room - n)) bytes in
      let apart = new_apart most s ok (fat_at s) head (Some (ys ++ zeros s n)) q.head (stream_at s) (root_of s).length b.two b.stream in
      let twice : (k : ℕ) → final.chain k ≡ update eqb s.chain head (Some (ys ++ replicate (n * u) 255)) k =
      λ k. update-update eqb s.chain head (Some (ys ++ zeros s n)) (Some (ys ++ replicate (n * u) 255)) k in
      let far : final.chain (stream_at s) ≡ s.chain (stream_at s) = twice (stream_at s) ∙ update_apart s.chain head (Some (ys ++ replicate (n * u) 255)) (stream_at s) apart in
      subst (λ z. Added s z n 0) (sym e) (record {
        unit = refl;
        room = omega (arith, room);
        long = refl;
        count = refl;
        stream = ap (λ o. unwrap_or o []) far ∙ none_more (bytes_of s (stream_at s)) u 0;
        fat = bytes_here now head (ys ++ replicate (n * u) 255) (s.room - n);
        two = inl apart;
        there_stream = ⊎_elim (λ p. inl p) (λ p. inr (p.0, far ∙ p.1)) b.stream;
        there_fat = inr (ys ++ replicate (n * u) 255, update_here now.chain head (Some (ys ++ replicate (n * u) 255)));
        notes = same_notes _ _ refl refl (fun_ext (λ k. ap (λ o. cond (eqb k (stream_at s) || eqb k head) None o) (twice k)
            ∙ others_kept most s ok (fat_at s) head (Some (ys ++ replicate (n * u) 255)) q.head k (eqb k (stream_at s))));
        hosted = hosted_same s _ h refl refl;
      })

  pub added_minis : (after : Store) → AddsMinisBy false s layer n after → Added s after 0 n
  added_minis after a =
      let g = grew most layer s ok n some room (stream_at s) (present_end s _ _ b.stream) a.0 a.1 a.2 in
      let head = g.0 in
      let q = g.2 in
      let long = (root_of s).length in
      let xs = bytes_of s (stream_at s) in
      let es = s.notes.entries in
      let grown = with_chain s head (Some (xs ++ zeros s n)) (s.room - n) in
      let short : long % 0x100000000 ≡ long = omega (arith, b.inside, bytes_few most s ok (stream_at s)) in
      let final : Store = with_notes grown (moved es 0 head long) s.notes.words in
      let e : after ≡ final = a.3 ∙ (λ i. minis_told (g.1 i) (q.is i) layer (root_of s).length) ∙ entered_yes grown layer head (long % 0x100000000) h.some
      ∙ ap (λ k. with_notes grown (moved es 0 head k) s.notes.words) short in
      let root = root_moved es h.some head long (record { kind = Unallocated; start = END; length = 0 }) in
      let start : stream_at final ≡ head = ap (λ (z : Entry). z.start) root in
      let apart = new_apart most s ok (stream_at s) head (Some (xs ++ zeros s n)) q.head (fat_at s) s.notes.words.count (flip s b.two b.stream) b.fat in
      let far : final.chain (fat_at s) ≡ s.chain (fat_at s) = update_apart s.chain head (Some (xs ++ zeros s n)) (fat_at s) apart in
      subst (λ z. Added s z 0 n) (sym e) (record {
        unit = refl;
        room = omega (arith, room);
        long = ap (λ (z : Entry). z.length) root;
        count = omega arith;
        stream = ap (bytes_of final) start ∙ bytes_here s head (xs ++ zeros s n) (s.room - n);
        fat = ap (λ o. unwrap_or o []) far ∙ none_more (bytes_of s (fat_at s)) s.unit 255;
        two = inl (λ z. apart (sym z ∙ start));
        there_stream = inr (xs ++ zeros s n, ap final.chain start ∙ update_here s.chain head (Some (xs ++ zeros s n)));
        there_fat = ⊎_elim (λ p. inl p) (λ p. inr (p.0, far ∙ p.1)) b.fat;
        notes = same_notes _ _ (moved_twice es h.some head long END 0) refl (fun_ext (λ k.
            ap (λ st. cond (eqb k st || eqb k (fat_at s)) None (final.chain k)) start ∙ ap (λ c. cond c None (final.chain k)) (or_comm (eqb k head) (eqb k (fat_at s)))
            ∙ others_kept most s ok (stream_at s) head (Some (xs ++ zeros s n)) q.head k (eqb k (fat_at s)) ∙ ap (λ c. cond c None (s.chain k)) (or_comm (eqb k (fat_at s)) (eqb k (stream_at s)))));
        hosted = hosted_same s _ h refl (length-set es 0 _);
      })

-- one after the other
pub added-both : (s mid after : Store) (nf nm : ℕ) → Added s mid nf 0 → Added mid after 0 nm → Added s after nf nm
added-both s mid after nf nm a c = record {
  unit = c.unit ∙ a.unit;
  room = omega (arith, a.room, c.room);
  long = c.long ∙ a.long;
  count = omega (arith, a.count, c.count);
  stream = c.stream ∙ (λ i. (a.stream ∙ sym (none_more (bytes_of s (stream_at s)) s.unit 0)) i ++ replicate (nm * a.unit i) 0);
  fat = c.fat ∙ sym (none_more (bytes_of mid (fat_at mid)) mid.unit 255) ∙ a.fat;
  two = c.two;
  there_stream = c.there_stream;
  there_fat = c.there_fat;
  notes = c.notes ∙ a.notes;
  hosted = c.hosted;
}

-- the host still bears the table out, and has as many sectors more
module _ (most : ℕ) (s after : Store) (ok : Lawful most s) (nf nm : ℕ) (a : Added s after nf nm) where
  more_units : (xs ys : List ℕ) (k n : ℕ) → length xs ≡ k * s.unit → length ys ≡ n * s.unit → length (xs ++ ys) / after.unit ≡ k + n
  more_units xs ys k n e f =
      let l : length (xs ++ ys) ≡ (k + n) * s.unit = length-append xs ys ∙ omega (arith, e, f, add-mul k n s.unit) in
      (λ i. l i / a.unit i) ∙ mul-div_cancel (k + n) ok.unit

  pub added_fats_units : units_of after (fat_at after) ≡ units_of s (fat_at s) + nf
  added_fats_units = ap (λ ys. length ys / after.unit) a.fat ∙ more_units _ _ (units_of s (fat_at s)) nf (sym (whole_units most s ok (fat_at s))) (length-replicate (nf * s.unit) 255)

  pub added_minis_units : units_of after (stream_at after) ≡ units_of s (stream_at s) + nm
  added_minis_units = ap (λ ys. length ys / after.unit) a.stream ∙ more_units _ _ (units_of s (stream_at s)) nm (sym (whole_units most s ok (stream_at s))) (length-replicate (nm * s.unit) 0)

  pub added_borne : (t : ℕ) → Borne s t → Borne after t
  added_borne t b = record {
    two = a.two;
    whole = ap (λ k. k % 64) a.long ∙ b.whole;
    links = omega (arith, a.long, b.links);
    inside = omega (arith, a.long, b.inside, ap length a.stream, length-append (bytes_of s (stream_at s)) (zeros s nm));
    counted = a.count ∙ ap (λ k. k + nf) b.counted ∙ sym added_fats_units;
    table = omega (arith, b.table, ap length a.fat, length-append (bytes_of s (fat_at s)) (replicate (nf * s.unit) 255));
    stream = a.there_stream;
    fat = a.there_fat;
  }

  pub added_ground : (t : ℕ) → nf + nm ≤ s.room → ground_of after t
      ≡ record { unit = s.unit; links = t; root = (root_of s).length / 64; fats = units_of s (fat_at s) + nf; minis = units_of s (stream_at s) + nm; spare = s.room - (nf + nm) }
  added_ground t l =
      let r : after.room ≡ s.room - (nf + nm) = omega (arith, a.room) in
      λ i. record { unit = a.unit i; links = t; root = a.long i / 64; fats = added_fats_units i; minis = added_minis_units i; spare = r i }

-- the sectors for a growth by k places
module _ (most layer : ℕ) (s mid after : Store) (ok : Lawful most s) (okm : Lawful most mid) (h : Hosted s) (t k : ℕ) (b : Borne s t) (fit : fits (ground_of s t) k ≡ true) where
  small : (n : ℕ) → n ≤ s.room → n % 0x100000000 ≡ n
  small n l = mod-eq_of_lt (omega (arith, l, ok.within [] tt, ok.few))

  needs : need (ground_of s t) k ≤ s.room
  needs = (fits_parts (ground_of s t) k fit).1

  fats_first : AddsFats s layer (fats_needed (ground_of s t) k % 0x100000000) mid → Added s mid (fats_needed (ground_of s t) k) 0
  fats_first a =
      let n = fats_needed (ground_of s t) k in
      let l : n ≤ s.room = omega (arith, needs) in
      let c : AddsFatsBy (eqb n 0) s layer n mid = subst (λ j. AddsFats s layer j mid) (small n l) a in
      ⊎_elim (λ (z : n ≡ 0). let e : mid ≡ s = subst (λ p. AddsFatsBy p s layer n mid) (eq-eqb n 0 z) c in
      subst (λ j. Added s mid j 0) (sym z) (subst (λ x. Added s x 0 0) (sym e) (added_none s t h b)))
      (λ d. added_fats most layer s ok h t b n d l mid (subst (λ p. AddsFatsBy p s layer n mid) (ne_eqb n 0 d) c)) (cases_eq n 0)

  pub reserved-added : AddsFats s layer (fats_needed (ground_of s t) k % 0x100000000) mid → AddsMinis mid layer (minis_needed (ground_of s t) k % 0x100000000) after
      → Added s after (fats_needed (ground_of s t) k) (minis_needed (ground_of s t) k)
  reserved-added af am =
      let a = fats_first af in
      let bm = added_borne most s mid ok _ _ a t b in
      let n = minis_needed (ground_of s t) k in
      let l : n ≤ mid.room = omega (arith, needs, a.room) in
      let c : AddsMinisBy (eqb n 0) mid layer n after = subst (λ j. AddsMinis mid layer j after) (small n (omega (arith, needs))) am in
      added-both s mid after _ n a (⊎_elim
      (λ (z : n ≡ 0). let e : after ≡ mid = subst (λ p. AddsMinisBy p mid layer n after) (eq-eqb n 0 z) c in
      subst (λ j. Added mid after 0 j) (sym z) (subst (λ x. Added mid x 0 0) (sym e) (added_none mid t a.hosted bm)))
      (λ d. added_minis most layer mid okm a.hosted t bm n d l after (subst (λ p. AddsMinisBy p mid layer n after) (ne_eqb n 0 d) c)) (cases_eq n 0))
