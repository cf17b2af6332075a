-- What taking a mini sector, linking one and giving one back make of the mini sectors, by what the host's calls leave.
-- Assumes nothing.
use Rattle.std.proofs.Common.{◌≡◌, ℕ, ◌+◌, ◌-◌, ◌*◌, ◌/◌, ◌<◌, ◌≤◌, ◌≢◌, List, [], ◌∷◌, ◌++◌, length, set, replicate, Some, count_by, sym, refl, ap, ◌∙◌, subst, inr, ⊎_elim, arith}
use Rattle.std.proofs.lemmas.List.{length-set, length_push, length-take}
use Rattle.links.specs.Bytes.{bytes_of_link}
use Rattle.links.specs.Links.{FREE, END, free, at}
use Rattle.links.specs.Stack.{Stacks, place_after, links_taken, stack_taken}
use Rattle.links.proofs.Members.{last_in}
use Rattle.links.proofs.Counts.{inside}
use Rattle.links.proofs.Effects.{wrote-set}
use Rattle.links.proofs.Frees.{stack_count}
use Rattle.links.proofs.Stacks.{Kept}
use Rattle.links.proofs.Takings.{taking, kept_taken}
use Rattle.store.specs.Meaning.{Store, Hosted, Lawful, bytes_of, units_of, laid, with_chain, wrote}
use Rattle.chain.specs.Webs.{Web}
use Rattle.chain.proofs.Laid.{length-laid}
use Rattle.rooms.specs.Rooms.{growth, taller}
use Rattle.mini.specs.Mini.{root_of, stream_at, fat_at, ground_of, Borne, kept_part, sealed, dry, web_of, Backed, Synced}
use Rattle.mini.specs.Steps.{relinked, rooted, grown_root, zeroed, took_mini, put_mini, ended_mini, gave_mini}
use Rattle.mini.proofs.Figures.{end_bytes, whole_units}
use Rattle.mini.proofs.Links.{links_wrote}
use Rattle.mini.proofs.Growths.{dry-one, one_less, one-fits}
use Rattle.mini.proofs.Swaps.{borne_rooted}
use Rattle.mini.proofs.States.{State, some_chain, ground_at, state_start, state_web, link_wrote_lem, state_link, borne_link, wipe_wrote, state_wipe, borne_wipe, two-rooted, state_root}

-- where the MiniFAT has bytes, it is not the mini stream
pub apart_heads : (most : ℕ) (s : Store) (t : ℕ) → Lawful most s → Borne s t → 0 < length (bytes_of s (fat_at s)) → stream_at s ≢ fat_at s
apart_heads most s t ok b l = ⊎_elim (λ d. d) (λ e. absurd (omega (arith, ap length (end_bytes most s ok (fat_at s) e)))) b.two

-- a place of the table after one was taken was there, or is that one
taken_within : (L S : List ℕ) (k : ℕ) → k < length (links_taken L S) → k ≢ place_after L S → k < length L
taken_within L [] k l n = omega (arith, length_push L END)
taken_within L (x ∷ S) k l n = rw length-set at l

-- what the host's calls made of a host m and a table M: the mini sectors are v, the host s bears the table L out, and if
-- the MiniFAT's bytes were the links of the table, they are
pub record Made (m : Store) (M : List ℕ) (s : Store) (L S : List ℕ) (v : Web) : Type 0 where
  pub web : web_of s L S ≡ v
  pub borne : Borne s (length L)
  pub synced : Synced m M → Synced s L
  pub hosted : Hosted s

-- they are, where the host is in a state whose bytes the table is
made_by : (m s : Store) (xs ys : List ℕ) (r : ℕ) (b : Store) → State m s xs ys r b → (M L L' S S' : List ℕ) (u : Store) (ready room : ℕ) → u ≡ s → L' ≡ L → S' ≡ S
    → count_by free L' + growth (dry (ground_at m r (length L'))) ≡ ready → count_by free L' + growth (ground_at m r (length L')) ≡ room → Borne s (length L')
    → (Synced m M → Backed ys r L)
    → Made m M u L' S' (record { unit = 64; links = L; bytes = xs; stack = S; ready = ready; room = room; below = b ∷ []; notes = kept_part m })
made_by m s xs ys r b st M L L' S S' u ready room e el eS er eo bo sy = record {
  web = ap (λ z. web_of z L' S') e ∙ state_web m s xs ys r b L' S' st
      ∙ (λ i. record { unit = 64; links = el i; bytes = xs; stack = eS i; ready = er i; room = eo i; below = b ∷ []; notes = kept_part m });
  borne = rw e bo;
  synced = λ k. rw (e, el) (subst (λ n. Backed (bytes_of s (fat_at s)) n L) (sym st.long) (subst (λ zs. Backed zs r L) (sym st.fat) (sy k)));
  hosted = rw e st.hosted;
}

module _ (most layer : ℕ) (m : Store) (ok : Lawful most m) (h : Hosted m) (L S : List ℕ) (few : length L ≤ 4096) (kept : Kept L S) (b : Borne m (length L)) where
  start : State m m (bytes_of m (stream_at m)) (bytes_of m (fat_at m)) (root_of m).length (sealed m)
  start = state_start m h

  -- a place in use has its bytes
  module _ (p : ℕ) (used : at L p ≢ FREE) where
    pub place_below : p < length L
    place_below = inside L p used

    pub place_link : 4 * p + 4 ≤ length (bytes_of m (fat_at m))
    place_link = omega (arith, place_below, b.table)

    pub place_bytes : p * 64 + 64 ≤ length (bytes_of m (stream_at m))
    place_bytes = omega (arith, place_below, b.links, b.inside)

    pub place_two : stream_at m ≢ fat_at m
    place_two = apart_heads most m (length L) ok b (omega (arith, place_link))

    -- a chain is cut off there
    pub ended_made : (s : Store) (L' S' : List ℕ) → s ≡ wrote m layer (fat_at m) (4 * p) (bytes_of_link END) → L' ≡ set L p END → S' ≡ S → Kept L' S' → Made m L s L' S' (ended_mini (web_of m L S) p)
    ended_made s L' S' e el eS k =
        let m1 = relinked m p END in
        let a = e ∙ link_wrote_lem m m _ _ _ _ start place_two (length L) b p END place_link layer in
        let st = state_link m m _ _ _ _ start place_two (length L) b p END place_link in
        let n : length L' ≡ length L = ap length el ∙ length-set L p END in
        let c : count_by free L' ≡ count_by free L = sym (stack_count L' S' k) ∙ ap length eS ∙ stack_count L S kept in
        let g : ground_at m (root_of m).length (length L') ≡ ground_of m (length L) = ap (ground_at m (root_of m).length) n in
        made_by m m1 _ _ _ _ st L (set L p END) L' S S' s _ _ a el eS (λ i. c i + growth (dry (g i))) (λ i. c i + growth (g i))
        (rw n (borne_link m m _ _ _ _ start place_two (length L) b p END place_link))
        (links_wrote (bytes_of m (fat_at m)) p END place_link L (set L p END) (root_of m).length (root_of m).length (omega arith) (wrote-set L p END place_below) (λ q i _. rw length-set at i) (λ i. rw length-set at i))

    -- it is given back
    pub gave_made : (s u : Store) (L' S' : List ℕ) → s ≡ wrote m layer (fat_at m) (4 * p) (bytes_of_link FREE) → u ≡ wrote s layer (stream_at s) (p * 64) (replicate 64 0)
        → L' ≡ set L p FREE → S' ≡ S ++ p ∷ [] → Kept L' S' → Made m L u L' S' (gave_mini (web_of m L S) p)
    gave_made s u L' S' es eu el eS k =
        let m1 = relinked m p FREE in
        let a = es ∙ link_wrote_lem m m _ _ _ _ start place_two (length L) b p FREE place_link layer in
        let st1 = state_link m m _ _ _ _ start place_two (length L) b p FREE place_link in
        let b1 = borne_link m m _ _ _ _ start place_two (length L) b p FREE place_link in
        let c = eu ∙ ap (λ z. wrote z layer (stream_at z) (p * 64) (replicate 64 0)) a ∙ wipe_wrote m m1 _ _ _ _ st1 place_two (length L) b1 p place_bytes layer in
        let st2 = state_wipe m m1 _ _ _ _ st1 place_two (length L) b1 p place_bytes in
        let n : length L' ≡ length L = ap length el ∙ length-set L p FREE in
        let more : length S' ≡ length S + 1 = ap length eS ∙ length_push S p in
        let g : ground_at m (root_of m).length (length L') ≡ ground_of m (length L) = ap (ground_at m (root_of m).length) n in
        let count : count_by free L' ≡ count_by free L + 1 = omega (arith, stack_count L' S' k, stack_count L S kept) in
        let ready : count_by free L' + growth (dry (ground_at m (root_of m).length (length L'))) ≡ (web_of m L S).ready + 1 = omega (arith, count, ap (λ x. growth (dry x)) g) in
        let room : count_by free L' + growth (ground_at m (root_of m).length (length L')) ≡ (web_of m L S).room + 1 = omega (arith, count, ap growth g) in
        made_by m _ _ _ _ _ st2 L (set L p FREE) L' (S ++ p ∷ []) S' u _ _ c el eS ready room
        (rw n (borne_wipe m m1 _ _ _ _ st1 place_two (length L) b1 p place_bytes))
        (links_wrote (bytes_of m (fat_at m)) p FREE place_link L (set L p FREE) (root_of m).length (root_of m).length (omega arith) (wrote-set L p FREE place_below) (λ q i _. rw length-set at i) (λ i. rw length-set at i))

-- a host that is ready for the next place: with the root length r, for t links
pub record Prepared (m s : Store) (L S : List ℕ) (r : ℕ) : Type 0 where
  pub state : State m s (bytes_of m (stream_at m)) (bytes_of m (fat_at m)) r (grown_root S (sealed m))
  pub borne : Borne s (length (links_taken L S))
  pub two : stream_at s ≢ fat_at s
  pub bytes : place_after L S * 64 + 64 ≤ length (bytes_of m (stream_at m))
  pub link : 4 * place_after L S + 4 ≤ length (bytes_of m (fat_at m))
  pub longer : 64 * length (links_taken L S) < r → 64 * length L < (root_of m).length
  pub count : ℕ
  pub frees : count_by free (links_taken L S) ≡ count
  pub ready : count + growth (dry (ground_at m r (length (links_taken L S)))) ≡ (web_of m L S).ready - 1
  pub room : count + growth (ground_at m r (length (links_taken L S))) ≡ (web_of m L S).room - 1

module _ (most : ℕ) (m : Store) (ok : Lawful most m) (h : Hosted m) (L : List ℕ) (few : length L ≤ 4096) where
  -- where the stack is empty, the root grows by 64 bytes
  pub prepared_grown : Kept L [] → Borne m (length L) → 0 < (web_of m L []).ready → Prepared m (rooted m ((root_of m).length + 64)) L [] ((root_of m).length + 64)
  prepared_grown kept b ready =
      let g = ground_of m (length L) in
      let r = (root_of m).length in
      let none : count_by free L ≡ 0 = sym (stack_count L [] kept) in
      let some : 0 < growth (dry g) = omega (arith, none, ready) in
      let one = dry-one g some in
      let fits = one-fits g h.unit one.0 in
      let less = one_less g some in
      let t1 : length (L ++ END ∷ []) ≡ length L + 1 = length_push L END in
      let r1 : (r + 64) / 64 ≡ r / 64 + 1 = omega arith in
      let ra : r ≡ 64 * (r / 64) = omega (arith, b.whole) in
      let fat : 4 * (length L + 1) ≤ length (bytes_of m (fat_at m)) = omega (arith, fits.0, whole_units most m ok (fat_at m)) in
      let stream : r + 64 ≤ length (bytes_of m (stream_at m)) = omega (arith, fits.1, whole_units most m ok (stream_at m), ra) in
      let two = apart_heads most m (length L) ok b (omega (arith, fat)) in
      let start = state_start m h in
      let ground : ground_at m (r + 64) (length (L ++ END ∷ [])) ≡ taller g 1 = λ i. record { unit = m.unit; links = t1 i; root = r1 i; fats = units_of m (fat_at m); minis = units_of m (stream_at m); spare = m.room } in
      let count : count_by free (L ++ END ∷ []) ≡ 0 = sym (stack_count (L ++ END ∷ []) [] (kept_taken L [] few kept)) in
      record {
        state = state_root m m _ _ _ _ start two (length L) b (r + 64);
        borne = rw t1 (borne_rooted m h.some (r + 64) (length L) (length L + 1) b (omega (arith, b.whole)) (omega (arith, b.links)) stream fat
            (inr (bytes_of m (stream_at m), some_chain m (stream_at m) (omega (arith, stream)))));
        two = two-rooted m m _ _ _ _ start two (length L) b (r + 64);
        bytes = omega (arith, b.links, stream);
        link = omega (arith, fat);
        longer = λ l. omega (arith, l, t1);
        count = 0;
        frees = count;
        ready = omega (arith, less.1, none, ap (λ x. growth (dry x)) ground);
        room = omega (arith, less.0, none, ap growth ground);
      }

  -- else nothing is to be done
  pub prepared_popped : (x : ℕ) (S : List ℕ) → Kept L (x ∷ S) → Borne m (length L) → Prepared m m L (x ∷ S) (root_of m).length
  prepared_popped x S kept b =
      let t = taking L (x ∷ S) few kept.stacks in
      let p = place_after L (x ∷ S) in
      let l : p < length L = below x S kept.stacks in
      let n : length (links_taken L (x ∷ S)) ≡ length L = length-set L _ END in
      let k = stack_count _ _ (kept_taken L (x ∷ S) few kept) in
      let shorter : length (stack_taken (x ∷ S)) ≡ length S = omega (arith, length-take (length (x ∷ S) - 1) (x ∷ S)) in
      let ground : ground_at m (root_of m).length (length (links_taken L (x ∷ S))) ≡ ground_of m (length L) = ap (ground_at m (root_of m).length) n in
      let whole = stack_count L (x ∷ S) kept in
      record {
        state = state_start m h;
        borne = rw n b;
        two = apart_heads most m (length L) ok b (omega (arith, l, b.table));
        bytes = omega (arith, l, b.links, b.inside);
        link = omega (arith, l, b.table);
        longer = λ i. rw n at i;
        count = length S;
        frees = sym k ∙ shorter;
        ready = omega (arith, whole, ap (λ x. growth (dry x)) ground);
        room = omega (arith, whole, ap growth ground);
      }
    where
      below : (x : ℕ) (S : List ℕ) → Stacks L (x ∷ S) → place_after L (x ∷ S) < length L
      below x S s = (s.free _ (last_in (length L) (x ∷ S) (omega arith))).0

-- the host's calls behind that: the link is written, the mini sector zeroed
module _ (layer : ℕ) (m s s2 s3 : Store) (L S : List ℕ) (r : ℕ) (q : Prepared m s L S r)
    (e2 : s2 ≡ wrote s layer (fat_at s) (4 * place_after L S) (bytes_of_link END)) (e3 : s3 ≡ wrote s2 layer (stream_at s2) (place_after L S * 64) (replicate 64 0)) where
  linked : s2 ≡ relinked s (place_after L S) END
  linked = e2 ∙ link_wrote_lem m s _ _ _ _ q.state q.two (length (links_taken L S)) q.borne (place_after L S) END q.link layer

  linked_state : State m (relinked s (place_after L S) END) (bytes_of m (stream_at m)) (laid (bytes_of m (fat_at m)) (4 * place_after L S) (bytes_of_link END)) r (relinked (grown_root S (sealed m)) (place_after L S) END)
  linked_state = state_link m s _ _ _ _ q.state q.two (length (links_taken L S)) q.borne (place_after L S) END q.link

  linked_borne : Borne (relinked s (place_after L S) END) (length (links_taken L S))
  linked_borne = borne_link m s _ _ _ _ q.state q.two (length (links_taken L S)) q.borne (place_after L S) END q.link

  abbrev wiped : Store
  wiped = with_chain (relinked s (place_after L S) END) (stream_at s) (Some (zeroed (bytes_of (relinked s (place_after L S) END) (stream_at s)) (place_after L S))) s.room

  is_wiped : s3 ≡ wiped
  is_wiped = e3 ∙ ap (λ z. wrote z layer (stream_at z) (place_after L S * 64) (replicate 64 0)) linked
      ∙ wipe_wrote m (relinked s (place_after L S) END) _ _ _ _ linked_state q.two (length (links_taken L S)) linked_borne (place_after L S) q.bytes layer

  wiped_state : State m wiped (zeroed (bytes_of m (stream_at m)) (place_after L S)) (laid (bytes_of m (fat_at m)) (4 * place_after L S) (bytes_of_link END)) r (relinked (grown_root S (sealed m)) (place_after L S) END)
  wiped_state = state_wipe m (relinked s (place_after L S) END) _ _ _ _ linked_state q.two (length (links_taken L S)) linked_borne (place_after L S) q.bytes

  wiped_borne : Borne wiped (length (links_taken L S))
  wiped_borne = borne_wipe m (relinked s (place_after L S) END) _ _ _ _ linked_state q.two (length (links_taken L S)) linked_borne (place_after L S) q.bytes

  ready_now : count_by free (links_taken L S) + growth (dry (ground_at m r (length (links_taken L S)))) ≡ (web_of m L S).ready - 1
  ready_now = omega (arith, q.ready, q.frees)

  room_now : count_by free (links_taken L S) + growth (ground_at m r (length (links_taken L S))) ≡ (web_of m L S).room - 1
  room_now = omega (arith, q.room, q.frees)

  taken_synced : Kept L S → length L ≤ 4096 → Synced m L → Backed (laid (bytes_of m (fat_at m)) (4 * place_after L S) (bytes_of_link END)) r (links_taken L S)
  taken_synced kept few = links_wrote (bytes_of m (fat_at m)) (place_after L S) END q.link L (links_taken L S) (root_of m).length r (omega arith) (taking L S few kept.stacks).wrote (taken_within L S) q.longer

  pub took_made : Kept L S → length L ≤ 4096 → Made m L s3 (links_taken L S) (stack_taken S) (took_mini (web_of m L S))
  took_made kept few =
      made_by m wiped _ _ _ _ wiped_state L (links_taken L S) (links_taken L S) (stack_taken S) (stack_taken S) s3 _ _ is_wiped refl refl ready_now room_now wiped_borne (taken_synced kept few)

  -- and it is joined behind the place last
  module _ (s4 : Store) (last : ℕ) (L' : List ℕ) (fits : 4 * last + 4 ≤ length (bytes_of m (fat_at m)))
      (e4 : s4 ≡ wrote s3 layer (fat_at s3) (4 * last) (bytes_of_link (place_after L S))) (el : L' ≡ set (links_taken L S) last (place_after L S))
      (same : count_by free L' ≡ count_by free (links_taken L S)) where
    fits_now : 4 * last + 4 ≤ length (laid (bytes_of m (fat_at m)) (4 * place_after L S) (bytes_of_link END))
    fits_now = omega (arith, fits, length-laid (bytes_of m (fat_at m)) (bytes_of_link END) (4 * place_after L S) q.link)

    joined : s4 ≡ relinked wiped last (place_after L S)
    joined = e4 ∙ ap (λ z. wrote z layer (fat_at z) (4 * last) (bytes_of_link (place_after L S))) is_wiped
        ∙ link_wrote_lem m wiped _ _ _ _ wiped_state q.two (length (links_taken L S)) wiped_borne last (place_after L S) fits_now layer

    long_joined : length L' ≡ length (links_taken L S)
    long_joined = ap length el ∙ length-set (links_taken L S) last (place_after L S)

    pub put_made : Kept L S → length L ≤ 4096 → at L last ≡ END → Made m L s4 L' (stack_taken S) (put_mini (web_of m L S) last)
    put_made kept few end =
        let t = taking L S few kept.stacks in
        let away : last ≢ place_after L S = λ z. omega (arith, ap (at L) z, t.free) in
        let there : last < length (links_taken L S) = inside (links_taken L S) last (omega (arith, t.wrote.rest last away)) in
        let st = state_link m wiped _ _ _ _ wiped_state q.two (length (links_taken L S)) wiped_borne last (place_after L S) fits_now in
        let g : ground_at m r (length L') ≡ ground_at m r (length (links_taken L S)) = ap (ground_at m r) long_joined in
        let ready : count_by free L' + growth (dry (ground_at m r (length L'))) ≡ (web_of m L S).ready - 1 = omega (arith, ready_now, same, ap (λ x. growth (dry x)) g) in
        let room : count_by free L' + growth (ground_at m r (length L')) ≡ (web_of m L S).room - 1 = omega (arith, room_now, same, ap growth g) in
        made_by m _ _ _ _ _ st L (set (links_taken L S) last (place_after L S)) L' (stack_taken S) (stack_taken S) s4 _ _ joined el refl ready room
        (rw long_joined (borne_link m wiped _ _ _ _ wiped_state q.two (length (links_taken L S)) wiped_borne last (place_after L S) fits_now))
        (λ k. links_wrote (laid (bytes_of m (fat_at m)) (4 * place_after L S) (bytes_of_link END)) last (place_after L S) fits_now (links_taken L S) (set (links_taken L S) last (place_after L S)) r r (omega (arith, t.small))
        (wrote-set (links_taken L S) last (place_after L S) there) (λ j i _. rw length-set at i) (λ i. rw length-set at i) (taken_synced kept few k))
