-- What a write and a resize leave of their stream and of the others.
-- Assumes nothing.
use Rattle.std.proofs.Common.{◌≡◌, ℕ, ◌+◌, ◌-◌, ◌*◌, ◌/◌, ◌<◌, ◌≤◌, ◌≢◌, ◌⊎◌, cond, List, [], length, take, min, max, replicate, Some, Ok, Err, Result, sym, refl, ap, ◌∙◌, subst, inl, inr, ⊎_elim, zero-mul, arith}
use Rattle.std.proofs.lemmas.Bool.{cases_eq, cases_lt, ltb-false, le-ltb, cond-false, eq-eqb, ne_eqb}
use Rattle.std.proofs.lemmas.List.{length-take, length-replicate, nil_from_length, take-take}
use Rattle.std.proofs.lemmas.Option.{same_Some}
use Rattle.std.specs.Prelude.{nat_lt}
use Rattle.std.specs.List.{slice_get}
use Rattle.std.specs.Option.{unwrap_or}
use Rattle.store.specs.declared.entries.Entry.{Entry}
use Rattle.store.specs.Refusals.{Refused, answer}
use Rattle.store.specs.Meaning.{Lawful, laid, entered}
use Rattle.chain.proofs.Laid.{laid_none}
use Rattle.minifat.specs.Told.{Faulted}
use Rattle.minialloc.specs.States.{State}
use Rattle.workbook.specs.declared.homes.Home.TheVariants.{Mini, Host}
use Rattle.workbook.specs.declared.plans.Plan.{Plan}
use Rattle.workbook.specs.Calls.{Laid, FilledTo, Written, WrittenTo, Resized, ResizedTo, rest_of}
use Rattle.workbook.specs.Homes.{over, same_home, WritesIn}
use Rattle.workbook.specs.Refusals.{stream_of, fit_of, write_of}
use Rattle.workbook.specs.Sights.{Sight, seen, home_of, unit_in, chain_in, reach, bytes_in, fitted}
use Rattle.workbook.specs.Steps.{PlanOf, stays, need_for, room_for, Rebuilding, Writing}
use Rattle.workbook.specs.Whole.{Whole, Holds, Meant}
use Rattle.workbook.proofs.Bytes.{written_bytes, cleared_bytes, fitted_short}
use Rattle.workbook.proofs.Carries.{same_itself, other_home}
use Rattle.workbook.proofs.Effects.{entered_lawful}
use Rattle.workbook.proofs.Fitting.{Found, Refit, refit, fitted_by, own_stream, plan_room, not_ok, row_open, rows_open, first, done, head_is}
use Rattle.workbook.proofs.Found.{some_in, enough_reach, no_due}
use Rattle.workbook.proofs.Outcomes.{Outcome}
use Rattle.workbook.proofs.Overlays.{own, wrote, laid_whole}
use Rattle.workbook.proofs.Rebuilds.{Clean, Kept, kept_same}
use Rattle.workbook.proofs.Rebuilt.{Has, Leaves}
use Rattle.workbook.proofs.Rests.{rest_end, rest_within}
use Rattle.workbook.proofs.Sights.{cases_home, stream_by, none_taken, reach_alike}

-- the bytes that stay: those of the old chain, as far as both lengths reach
module _ (v : Sight) (p : Plan) (xs : List ℕ) (a n : ℕ) (from : p.from ≡ home_of a) (to : p.to ≡ home_of n) (keep : p.keep ≡ min (min a n) 4096) (long : length xs ≡ reach v a) (full : a ≤ reach v a) where
  -- of two homes one is the mini store
  low : p.from ≢ p.to → min a n ≤ 4096
  low d = ⊎_elim (λ x. omega (arith, x)) (λ x. ⊎_elim (λ y. omega (arith, y))
      (λ y. absurd (d (from ∙ cond-false _ Mini Host (le-ltb a 4096 x) ∙ sym (to ∙ cond-false _ Mini Host (le-ltb n 4096 y))))) (cases_lt n 4096)) (cases_lt a 4096)

  all_stay : p.from ≡ p.to → stays p xs ≡ xs
  all_stay e = ap (λ x. cond x xs (take p.keep xs)) (ap (same_home p.from) (sym e) ∙ same_itself p.from)

  few_stay : p.from ≢ p.to → stays p xs ≡ take (min a n) xs
  few_stay d =
      let k : p.keep ≡ min a n = omega (arith, keep, low d) in
      ap (λ x. cond x xs (take p.keep xs)) (other_home p.from p.to d) ∙ ap (λ x. take x xs) k

  stays_first : take (min a n) (stays p xs) ≡ take (min a n) xs
  stays_first = ⊎_elim (λ e. ap (take (min a n)) (all_stay e)) (λ d. ap (take (min a n)) (few_stay d) ∙ take-take (min a n) (min a n) xs (omega arith)) (cases_home p.from p.to)

  stays_long : min a n ≤ length (stays p xs)
  stays_long = ⊎_elim
      (λ e. omega (arith, ap length (all_stay e), long, full))
      (λ d. omega (arith, ap length (few_stay d), length-take (min a n) xs, long, full)) (cases_home p.from p.to)

  pub written_stays : (i : ℕ) (ys : List ℕ) → i ≤ a → n ≡ max a (i + length ys) → n ≤ reach v n
      → take n (laid (fitted (reach v n) (stays p xs)) i ys) ≡ laid (fitted n (take a xs)) i ys
  written_stays i ys l m r =
      let k : min a n ≡ a = omega (arith, m) in
      written_bytes (stays p xs) ys a i n (reach v n) (omega (arith, k, stays_long)) l m r
      ∙ ap (λ x. laid (fitted n x) i ys) (subst (λ x. take x (stays p xs) ≡ take x xs) k stays_first)

  pub resized_stays : 0 < unit_in v (home_of n) → n ≤ reach v n
      → take n (laid (fitted (reach v n) (stays p xs)) (min a n) (replicate (rest_of (unit_in v (home_of n)) (min a n)) 0)) ≡ fitted n (take a xs)
  resized_stays l r =
      let u = unit_in v (home_of n) in
      let z = rest_of u (min a n) in
      let last : (length (stays p xs) ≤ min a n + z) ⊎ (n ≤ min a n + z) = ⊎_elim
      (λ e. ⊎_elim
      (λ m.
      let k : min a n ≡ a = omega (arith, m) in
      let ends : a + rest_of u a ≡ reach v a = rest_end u a l ∙ ap (λ b. (a + (unit_in v b - 1)) / unit_in v b * unit_in v b) (sym to ∙ sym e ∙ from) in
      inl (omega (arith, k, ap (rest_of u) k, ends, ap length (all_stay e), long)))
      (λ m. inr (omega (arith, m))) (cases_lt a n))
      (λ d. inl (omega (arith, ap length (few_stay d), length-take (min a n) xs))) (cases_home p.from p.to) in
      cleared_bytes (stays p xs) (min a n) n z (reach v n) stays_long (omega arith) r (rest_within u (min a n) l n (omega arith)) last
      ∙ ap (fitted n) stays_first ∙ fitted_short xs a n

-- e is the stream; its chain is rebuilt to m, and its entry set; then bytes are laid over it
module _ (most layer : ℕ) (s z : State) (a : Meant most s) (b : Meant most z) (w : Whole s) (id : ℕ) (e : Entry) (q : ◌≡◌ {A = Result Entry Faulted} (Ok e) (stream_of s layer id)) (n i : ℕ) (ys : List ℕ)
    (inside : i + length ys ≤ reach (seen s) n) (h : ℕ) (p : Plan) (po : PlanOf s e n p) (room : need_for p ≤ room_for s p) (m : State) (okm : Lawful most m.host) (t : Rebuilding most layer p s (Ok h) m) where
  abbrev y : State
  y = over m (entered m.host layer id h n)

  abbrev x : Entry
  x = record { kind = e.kind; start = h; length = n }

  abbrev hold : Holds s
  hold = ∣ (λ o. w) ∣₁

  abbrev first_is : (xs : List ℕ) × Found most s a.lawful a.mini w id e (own_stream most layer s m a.lawful okm a.mini hold id e q n p po room (Ok h) t w) n p po xs
  first_is = first most layer s m a.lawful okm a.mini hold id e q n p po room (Ok h) t w

  abbrev xs : List ℕ
  xs = first_is.0

  abbrev new : List ℕ
  new = fitted (reach (seen s) n) (stays p xs)

  abbrev built : (k : ℕ) × (◌≡◌ {A = Result ℕ Refused} (Ok h) (Ok k)) × Clean most m × Kept s m id × Has id (seen s) m p xs k × Leaves s m p k
  built = done most layer s m a.lawful okm a.mini hold id e q n p po room (Ok h) t w

  oky : Lawful most y.host
  oky = entered_lawful most m.host layer id h n okm

  fit : Refit s m y id e h n
  fit = refit most layer s m a.lawful okm a.mini hold id e q n p po room (Ok h) t w h refl y refl oky

  chain_y : n ≢ 0 → chain_in (seen y) (home_of n) h ≡ Some new
  chain_y some = ⊎_elim
      (λ c. absurd (some (omega (arith, enough_reach most s a.lawful n, ap (λ k. k * unit_in (seen s) (home_of n)) (sym po.want ∙ c.0), zero-mul (unit_in (seen s) (home_of n))))))
      (λ c.
      let head : h ≡ built.0 = head_is most layer s m a.lawful okm a.mini hold id e q n p po room (Ok h) t w h refl y refl in
      ap (λ f. f h) (fit.chain (home_of n)) ∙ (λ j. chain_in (seen m) (sym po.to j) (head j)) ∙ c.1.chain ∙ (λ j. Some (fitted (po.want j * unit_in (seen s) (po.to j)) (stays p xs)))) built.4

  abbrev LaidTo : Type 0
  LaidTo = Whole z × Kept y z id × (n ≢ 0 → chain_in (seen z) (home_of n) h ≡ Some (laid new i ys))

  some_laid : length ys ≢ 0 → WritesIn layer y (home_of n) h i ys (Ok tt) z → LaidTo
  some_laid more l =
      let some : n ≢ 0 = λ k. omega (arith, more, inside, ap (reach (seen s)) k) in
      let within : i + length ys ≤ reach (seen y) n = omega (arith, inside, reach_alike (seen y) (seen s) fit.unit n) in
      let due = no_due most layer y oky fit.whole id x fit.stream some (i + length ys) within in
      let step : Writing most layer (home_of n) h i ys y (Ok tt) z = (sym (ap (λ d. answer d tt) due), l) in
      let o = own most layer y z oky b.lawful fit.whole id x fit.stream some i ys (Ok tt) within step in
      let r = wrote most layer y z oky b.lawful fit.whole id x fit.stream some i ys (Ok tt) within step in
      let same : o.0 ≡ new = same_Some o.0 new (sym o.1.chain ∙ chain_y some) in
      (laid_whole most layer y z oky b.lawful fit.whole id x fit.stream some i ys (Ok tt) within step, r.3, λ d. r.2.chain ∙ ap (λ bs. Some (laid bs i ys)) same)

  none_laid : length ys ≡ 0 → z ≡ y → LaidTo
  none_laid none l =
      let empty : ys ≡ [] = nil_from_length ys none in (
        subst Whole (sym l) fit.whole,
        subst (λ k. Kept y k id) (sym l) (kept_same y id),
        λ d. ap (λ k. chain_in (seen k) (home_of n) h) l ∙ chain_y d ∙ ap Some (sym (ap (laid new i) empty ∙ laid_none new i)),
      )

  laid_then : Laid layer y (home_of n) h i ys z → LaidTo
  laid_then l = ⊎_elim
      (λ none. none_laid none (rw (eq-eqb (length ys) 0 none) at l))
      (λ more. some_laid more (rw (ne_eqb (length ys) 0 more) at l)) (cases_eq (length ys) 0)

  laid_outcome : Laid layer y (home_of n) h i ys z → Outcome s z id n (take n (laid new i ys))
  laid_outcome l =
      let r = laid_then l in
      record {
        whole = r.0;
        entry = (
          x,
          stream_by (seen y) (seen z) r.1.entries id x fit.stream,
          refl,
          ⊎_elim (none_taken n _ _) (λ d. ap (λ o. take n (unwrap_or o [])) (r.2 d)) (cases_eq n 0),
        );
        entries = λ j d. ap (λ es. slice_get es j) r.1.entries ∙ fit.entries j d;
        bytes = λ j d k u. r.1.bytes j d k (fit.entries j k ∙ u.0, u.1) ∙ fit.bytes j d k u;
      }

  written_here : i ≤ e.length → n ≡ max e.length (i + length ys) → Laid layer y (home_of n) h i ys z → Outcome s z id n (laid (fitted n (bytes_in (seen s) e)) i ys)
  written_here l long d =
      subst (Outcome s z id n)
      (written_stays (seen s) p xs e.length n po.from po.to po.keep first_is.1.3 (enough_reach most s a.lawful e.length) i ys l long (enough_reach most s a.lawful n)
      ∙ ap (λ bs. laid (fitted n bs) i ys) (sym first_is.1.2))
      (laid_outcome d)

  resized_here : i ≡ min e.length n → ys ≡ replicate (rest_of (unit_in (seen s) (home_of n)) (min e.length n)) 0 → Laid layer y (home_of n) h i ys z → Outcome s z id n (fitted n (bytes_in (seen s) e))
  resized_here k zs d =
      subst (Outcome s z id n)
      ((λ j. take n (laid new (k j) (zs j)))
      ∙ resized_stays (seen s) p xs e.length n po.from po.to po.keep first_is.1.3 (enough_reach most s a.lawful e.length) (some_in most s a.lawful (home_of n)) (enough_reach most s a.lawful n)
      ∙ ap (fitted n) (sym first_is.1.2))
      (laid_outcome d)

-- what a call says that was not refused
module _ (most layer : ℕ) (s z : State) (a : Meant most s) (b : Meant most z) (w : Whole s) (id : ℕ) (e : Entry) (q : ◌≡◌ {A = Result Entry Faulted} (stream_of s layer id) (Ok e)) where
  -- the state when the stream fits, by its plan
  laid_over : (n i : ℕ) (ys : List ℕ) (t : FilledTo most layer s id n i ys (Ok e) (Ok tt) z) → let g = fitted_by most layer s t.2 id n t.1 e t.3 in Laid layer (over g.2 (entered g.2.host layer id t.1 n)) (home_of n) t.1 i ys z
  laid_over n i ys t = subst (λ k. Laid layer k (home_of n) t.1 i ys z) (fitted_by most layer s t.2 id n t.1 e t.3).5 t.4

  pub outcome_written : (i : ℕ) (ys : List ℕ) → Written most layer s id i ys (Ok tt) z
      → Outcome s z id (max e.length (i + length ys)) (laid (fitted (max e.length (i + length ys)) (bytes_in (seen s) e)) i ys)
  outcome_written i ys c =
      let n = max e.length (i + length ys) in
      let D = λ (o : Result Entry Faulted). WrittenTo most layer s id i ys o (Ok tt) z in
      let never = λ (f : Faulted) (u : D (Err f)). not_ok f u.0 in
      let r = row_open D never (nat_lt e.length i) _ _ (subst (λ o. D (write_of s id i (length ys) o)) q c) in
      let v = rows_open D never s id n e r.1 in
      let t = v.2 in
      let g = fitted_by most layer s t.2 id n t.1 e t.3 in
      written_here most layer s z a b w id e (sym q) n i ys (omega (arith, enough_reach most s a.lawful n)) t.1 g.0 g.1 (plan_room s e n g.0 g.1 v.1) g.2 g.3 g.4
      (ltb-false e.length i r.0) refl (laid_over n i ys t)

  pub outcome_resized : (n : ℕ) → Resized most layer s id n (Ok tt) z → Outcome s z id n (fitted n (bytes_in (seen s) e))
  outcome_resized n c =
      let zs : List ℕ = replicate (rest_of (unit_in (seen s) (home_of n)) (min e.length n)) 0 in
      let D = λ (o : Result Entry Faulted). ResizedTo most layer s id n o (Ok tt) z in
      let v = rows_open D (λ f u. not_ok f u.0) s id n e (subst (λ o. D (fit_of s id n o)) q c) in
      let t = v.2 in
      let g = fitted_by most layer s t.2 id n t.1 e t.3 in
      let inside = rest_within (unit_in (seen s) (home_of n)) (min e.length n) (some_in most s a.lawful (home_of n)) n (omega arith) in
      resized_here most layer s z a b w id e (sym q) n (min e.length n) zs (omega (arith, inside, length-replicate {A = ℕ} (rest_of (unit_in (seen s) (home_of n)) (min e.length n)) 0))
      t.1 g.0 g.1 (plan_room s e n g.0 g.1 v.1) g.2 g.3 g.4 refl refl (laid_over n (min e.length n) zs t)
