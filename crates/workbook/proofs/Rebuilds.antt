-- What becomes of a stream's chain when it is freed, begun, written, stretched: it is another, and all other streams are as
-- they were.
-- Assumes nothing.
use Rattle.std.proofs.Common.{◌≡◌, ℕ, ◌+◌, ◌-◌, ◌*◌, ◌/◌, ◌<◌, ◌≤◌, ◌≢◌, List, [], ◌++◌, length, take, replicate, Some, None, Ok, Err, Option, Result, sym, refl, ap, ◌∙◌, subst, ⊎_elim, add-mul, mul-div_cancel, arith}
use Rattle.std.proofs.lemmas.Bool.{cases_lt, lt-ltb, le-ltb}
use Rattle.std.proofs.lemmas.List.{take_all, take-append-le, drop-replicate, length-append, length-replicate, length-take}
use Rattle.std.proofs.lemmas.Option.{none-some}
use Rattle.std.specs.Option.{unwrap_or}
use Rattle.store.specs.declared.entries.Entry.{Entry}
use Rattle.store.specs.Refusals.{Refused}
use Rattle.store.specs.Meaning.{Lawful, bytes_of, zeros, laid, due_begin}
use Rattle.links.specs.Links.{at, In}
use Rattle.links.proofs.Stacks.{Kept as Stacked}
use Rattle.chain.specs.Webs.{path_of}
use Rattle.chain.proofs.Dues.{told_yes, some_due, copy_yes, extend_yes, cut_yes, begin_yes}
use Rattle.minialloc.specs.States.{State, Sound, SyncedIn}
use Rattle.workbook.specs.declared.homes.Home.{Home}
use Rattle.workbook.specs.declared.homes.Home.TheVariants.{Mini, Host}
use Rattle.workbook.specs.declared.plans.Plan.{Plan}
use Rattle.workbook.specs.Homes.{store_in, layer_in, BeginsIn}
use Rattle.workbook.specs.Sights.{Sight, seen, chain_in, fitted, Stream, Placed, Beside, bytes_in}
use Rattle.workbook.specs.Steps.{Step, After, Then, Freeing, Beginning, Writing, Stretching, Extending, Cutting, Carrying, Done}
use Rattle.workbook.proofs.Places.{Tidy, Same, same_table}
use Rattle.workbook.proofs.Sights.{Others, stream_by, chain_here, chain_other, unit_same, entries_same, other_bytes, still_placed, still_beside, fresh_beside}
use Rattle.workbook.proofs.Turns.{Turned, own_chain, written, longer, shorter, gone, begun, written_table}

-- an open state with a host as any
pub record Clean (most : ℕ) (s : State) : Type 0 where
  pub lawful : Lawful most s.host
  pub sound : Sound s
  pub synced : SyncedIn s

-- a chain of the stream id, beside those of all others
pub record Loose (s : State) (id : ℕ) (home : Home) (h : ℕ) (xs : List ℕ) : Type 0 where
  pub placed : Placed (seen s) (Others id)
  pub chain : chain_in (seen s) home h ≡ Some xs
  pub beside : Beside (seen s) id home h

-- all streams but id are as they were
pub record Kept (s z : State) (id : ℕ) : Type 0 where
  pub unit : (seen z).unit ≡ (seen s).unit
  pub entries : (seen z).entries ≡ (seen s).entries
  pub bytes : (j : ℕ) (e : Entry) → j ≢ id → Stream (seen s) j e → bytes_in (seen z) e ≡ bytes_in (seen s) e

pub kept_same : (s : State) (id : ℕ) → Kept s s id
kept_same s id = record { unit = refl; entries = refl; bytes = λ j e n t. refl }

pub kept_on : (s y z : State) (id : ℕ) → Kept s y id → Kept y z id → Kept s z id
kept_on s y z id a b = record {
  unit = b.unit ∙ a.unit;
  entries = b.entries ∙ a.entries;
  bytes = λ j e n t. b.bytes j e n (stream_by (seen s) (seen y) a.entries j e t) ∙ a.bytes j e n t;
}

-- all chains but that of h are as they were
pub record Rest (s z : State) (home : Home) (h : ℕ) : Type 0 where
  pub chain : (b : Home) (k : ℕ) → (b ≡ home → k ≢ h) → chain_in (seen z) b k ≡ chain_in (seen s) b k
  pub links : (home ≡ Mini → Tidy s) → (k : ℕ) → (home ≡ Mini → k ≢ h) → Same s z k
  pub table : home ≡ Host → (z.links ≡ s.links) × (z.stack ≡ s.stack)

rest_same : (s : State) (home : Home) (h : ℕ) → Rest s s home h
rest_same s home h = record { chain = λ b k n. refl; links = λ t k n. same_table s s k refl; table = λ e. (refl, refl) }

pub turned_rest : (s z : State) (home : Home) (h : ℕ) (o : Option (List ℕ)) → Turned s z home h o → Rest s z home h
turned_rest s z home h o t = record { chain = λ b k n. ap (λ v. chain_in v b k) t.sight ∙ chain_other (seen s) home h o b k n; links = t.links; table = t.table }

-- the chain of start is gone, that of h came, and all others are as they were
pub record Moved (s z : State) (from : Home) (start : ℕ) (to : Home) (h : ℕ) : Type 0 where
  pub chain : (b : Home) (k : ℕ) (xs : List ℕ) → chain_in (seen z) b k ≡ Some xs → (b ≡ to → k ≢ h) → (chain_in (seen s) b k ≡ Some xs) × (b ≡ from → k ≢ start)
  pub links : from ≢ to → Tidy s → (k : ℕ) → (from ≡ Mini → k ≢ start) → (to ≡ Mini → k ≢ h) → Same s z k

module _ (s y x z : State) (from : Home) (start : ℕ) (to : Home) (h : ℕ) (a : Rest s y from start) (gone : chain_in (seen y) from start ≡ None)
    (b : Rest y x to h) (c : Rest x z to h) (same : z.links ≡ x.links) where
  moved_links : (f t : Home) → from ≡ f → to ≡ t → f ≢ t → Tidy s → (k : ℕ) → (from ≡ Mini → k ≢ start) → (to ≡ Mini → k ≢ h) → Same s x k
  moved_links Mini Mini p q n tidy k d e = absurd (n refl)
  moved_links Mini Host p q n tidy k d e = λ i j. ap (λ L. at L i) (b.table q).0 ∙ a.links (λ w. tidy) k d i j
  moved_links Host Mini p q n tidy k d e = λ i j.
      let t = a.table p in
      let tidy1 : Tidy y = record { few = subst (λ L. length L ≤ 4096) (sym t.0) tidy.few; kept = subst (λ S. Stacked y.links S) (sym t.1) (subst (λ L. Stacked L s.stack) (sym t.0) tidy.kept) } in
      b.links (λ w. tidy1) k e i (subst (λ L. In i (path_of L k)) (sym t.0) j) ∙ ap (λ L. at L i) t.0
  moved_links Host Host p q n tidy k d e = absurd (n refl)

  pub moved : Moved s z from start to h
  moved = record {
    chain = λ l k xs e n.
        let there : chain_in (seen y) l k ≡ Some xs = sym (c.chain l k n ∙ b.chain l k n) ∙ e in
        let old : l ≡ from → k ≢ start = λ p q. none-some xs (sym gone ∙ (λ i. chain_in (seen y) (sym p i) (sym q i)) ∙ there) in
        (sym (a.chain l k old) ∙ there, old);
    links = λ n tidy k d e i j. ap (λ L. at L i) same ∙ moved_links from to refl refl n tidy k d e i j;
  }

-- one chain is another, which is no other stream's
module _ (s z : State) (id : ℕ) (home : Home) (h : ℕ) (o : Option (List ℕ)) (t : Turned s z home h o) (p : Placed (seen s) (Others id)) (b : Beside (seen s) id home h) where
  turned_placed : Placed (seen z) (Others id)
  turned_placed = subst (λ v. Placed v (Others id)) (sym t.sight) (still_placed (seen s) id home h o b p)

  turned_beside : Beside (seen z) id home h
  turned_beside = subst (λ v. Beside v id home h) (sym t.sight) (still_beside (seen s) id home h o b)

  turned_chain : chain_in (seen z) home h ≡ o
  turned_chain = ap (λ v. chain_in v home h) t.sight ∙ chain_here (seen s) home h o

  turned_kept : Kept s z id
  turned_kept = record {
    unit = ap (λ (v : Sight). v.unit) t.sight ∙ unit_same (seen s) home h o;
    entries = ap (λ (v : Sight). v.entries) t.sight ∙ entries_same (seen s) home h o;
    bytes = λ j e n u. ap (λ v. bytes_in v e) t.sight ∙ other_bytes (seen s) id home h o b j e n u;
  }

turned_loose : (s z : State) (id : ℕ) (home : Home) (h : ℕ) (xs : List ℕ) → Turned s z home h (Some xs) → Placed (seen s) (Others id) → Beside (seen s) id home h → Loose z id home h xs
turned_loose s z id home h xs t p b = record { placed = turned_placed s z id home h _ t p b; chain = turned_chain s z id home h _ t p b; beside = turned_beside s z id home h _ t p b }

module _ (most layer : ℕ) (s z : State) (id : ℕ) (c : Clean most s) (okz : Lawful most z.host) where
  clean : {home : Home} {h : ℕ} {o : Option (List ℕ)} → Turned s z home h o → Clean most z
  clean t = record { lawful = okz; sound = t.sound; synced = t.synced }

  module _ (home : Home) (h : ℕ) (xs : List ℕ) (l : Loose s id home h xs) where
    there : (store_in s home).chain h ≡ Some xs
    there = own_chain s h xs home l.chain

    -- the chain is another one, and the call was accepted
    stepped : (ys : List ℕ) (r : Result (Unit {0}) Refused) → r ≡ Ok tt → Turned s z home h (Some ys) → (r ≡ Ok tt) × Clean most z × Loose z id home h ys × Kept s z id × Rest s z home h
    stepped ys r e t = (e, clean t, turned_loose s z id home h ys t l.placed l.beside, turned_kept s z id home h _ t l.placed l.beside, turned_rest s z home h _ t)

    pub freed_step : (r : Result (Unit {0}) Refused) → Freeing most layer home h s r z → (r ≡ Ok tt) × Clean most z × Placed (seen z) (Others id) × Kept s z id × Rest s z home h × (chain_in (seen z) home h ≡ None)
    freed_step r f =
        let t = gone most layer s z c.lawful okz c.sound c.synced home h xs l.chain r f.1 in (
          f.0 ∙ sym (told_yes _ tt (some_due (store_in s home) (layer_in layer home) h xs there None)),
          clean t,
          turned_placed s z id home h None t l.placed l.beside,
          turned_kept s z id home h None t l.placed l.beside,
          turned_rest s z home h None t,
          turned_chain s z id home h None t l.placed l.beside,
        )

    pub written_step : (i : ℕ) (ys : List ℕ) (r : Result (Unit {0}) Refused) → i + length ys ≤ length xs → Writing most layer home h i ys s r z
        → (r ≡ Ok tt) × Clean most z × Loose z id home h (laid xs i ys) × Kept s z id × Rest s z home h
    written_step i ys r k w =
        stepped _ r (w.0 ∙ sym (told_yes _ tt (copy_yes (store_in s home) (layer_in layer home) h xs there (i + length ys) (omega (arith, k, ap (λ o. length (unwrap_or o [])) there)))))
        (written most layer s z c.lawful okz c.sound c.synced home h xs l.chain i ys r k w.1)

    pub extended_step : (n : ℕ) (r : Result (Unit {0}) Refused) → n ≤ (store_in s home).room → Extending most layer home h n s r z
        → (r ≡ Ok tt) × Clean most z × Loose z id home h (xs ++ zeros (store_in s home) n) × Kept s z id × Rest s z home h
    extended_step n r k w =
        stepped _ r (w.0 ∙ sym (told_yes _ tt (extend_yes (store_in s home) (layer_in layer home) h xs there n k)))
        (longer most layer s z c.lawful okz c.sound c.synced home h xs l.chain n r k w.1)

    pub cut_step : (k : ℕ) (r : Result (Unit {0}) Refused) → k ≢ 0 → k ≤ length xs / (store_in s home).unit → Cutting most layer home h k s r z
        → (r ≡ Ok tt) × Clean most z × Loose z id home h (take (k * (store_in s home).unit) xs) × Kept s z id × Rest s z home h
    cut_step k r d m w =
        stepped _ r (w.0 ∙ sym (told_yes _ tt (cut_yes (store_in s home) (layer_in layer home) h xs there k d (omega (arith, m, ap (λ o. length (unwrap_or o []) / (store_in s home).unit) there)))))
        (shorter most layer s z c.lawful okz c.sound c.synced home h xs l.chain k r d m w.1)

  told_head : (home : Home) (n : ℕ) (r : Result ℕ Refused) → due_begin (store_in s home) (layer_in layer home) n ≡ None → BeginsIn most layer s home n r z → (h : ℕ) × (r ≡ Ok h)
  told_head home n (Ok h) due b = (h, refl)
  told_head Mini n (Err f) due b = absurd (none-some f (sym due ∙ b.0.0))
  told_head Host n (Err f) due b = absurd (none-some f (sym due ∙ b.0.0))

  pub begun_step : (home : Home) (n : ℕ) (r : Result ℕ Refused) → n ≢ 0 → n ≤ (store_in s home).room → Placed (seen s) (Others id) → Beginning most layer home n s r z
      → (h : ℕ) × (r ≡ Ok h) × Clean most z × Loose z id home h (zeros (store_in s home) n) × Kept s z id × Rest s z home h
  begun_step home n r d k p b =
      let q = told_head home n r (begin_yes (store_in s home) (layer_in layer home) n d k) b in
      let u = begun most layer s z c.lawful okz c.sound c.synced home n q.0 (subst (λ x. BeginsIn most layer s home n x z) q.1 b) in
      let f = fresh_beside (seen s) id home q.0 p u.0 in (
        q.0,
        q.1,
        clean u.1,
        turned_loose s z id home q.0 _ u.1 p f,
        turned_kept s z id home q.0 _ u.1 p f,
        turned_rest s z home q.0 _ u.1,
      )

-- bytes that are cut, or with zeros behind them
pub fitted_more : (n : ℕ) (xs : List ℕ) → length xs ≤ n → fitted n xs ≡ xs ++ replicate (n - length xs) 0
fitted_more n xs l = take_all n (xs ++ replicate (n - length xs) 0) (omega (arith, l, length-append xs (replicate (n - length xs) 0), length-replicate {A = ℕ} (n - length xs) 0))

pub fitted_less : (n : ℕ) (xs : List ℕ) → n ≤ length xs → fitted n xs ≡ take n xs
fitted_less n xs l = take-append-le n xs (replicate (n - length xs) 0) l

module _ (most layer : ℕ) (s z : State) (id : ℕ) (c : Clean most s) (okz : Lawful most z.host) (home : Home) (h have want : ℕ) (xs : List ℕ) (l : Loose s id home h xs) where
  unit : ℕ
  unit = (store_in s home).unit

  by : (a b : ℕ) → a ≤ b → b * (store_in s home).unit ≡ a * (store_in s home).unit + (b - a) * (store_in s home).unit
  by a b l = let e : b ≡ a + (b - a) = omega (arith, l) in ap (λ x. x * (store_in s home).unit) e ∙ add-mul a (b - a) (store_in s home).unit

  abbrev Stretched : Result (Unit {0}) Refused → Type 0
  Stretched r = (r ≡ Ok tt) × Clean most z × Loose z id home h (fitted (want * (store_in s home).unit) xs) × Kept s z id × Rest s z home h

  module _ (long : length xs ≡ have * (store_in s home).unit) (r : Result (Unit {0}) Refused) where
    by_more : have < want → want - have ≤ (store_in s home).room → Extending most layer home h (want - have) s r z → Stretched r
    by_more a room t =
        let q = extended_step most layer s z id c okz home h xs l (want - have) r room t in
        let e = by have want (omega (arith, a)) in
        let k : (want - have) * (store_in s home).unit ≡ want * (store_in s home).unit - length xs = omega (arith, e, long) in
        let ys : xs ++ zeros (store_in s home) (want - have) ≡ fitted (want * (store_in s home).unit) xs =
        ap (λ n. xs ++ replicate n 0) k ∙ sym (fitted_more (want * (store_in s home).unit) xs (omega (arith, e, long))) in
        (q.0, q.1, subst (Loose z id home h) ys q.2, q.3, q.4)

    by_cut : want < have → 0 < (store_in s home).unit → want ≢ 0 → Cutting most layer home h want s r z → Stretched r
    by_cut b u some t =
        let units : length xs / (store_in s home).unit ≡ have = ap (λ n. n / (store_in s home).unit) long ∙ mul-div_cancel have u in
        let q = cut_step most layer s z id c okz home h xs l want r some (omega (arith, units, b)) t in
        let e = by want have (omega (arith, b)) in
        (q.0, q.1, subst (Loose z id home h) (sym (fitted_less (want * (store_in s home).unit) xs (omega (arith, e, long)))) q.2, q.3, q.4)

    by_none : want ≡ have → (r ≡ Ok tt) × (z ≡ s) → Stretched r
    by_none e t =
        let n : want * (store_in s home).unit ≡ length xs = ap (λ x. x * (store_in s home).unit) e ∙ sym long in
        let ys : xs ≡ fitted (want * (store_in s home).unit) xs =
        sym (fitted_less (want * (store_in s home).unit) xs (omega (arith, n)) ∙ take_all (want * (store_in s home).unit) xs (omega (arith, n))) in (
          t.0,
          subst (Clean most) (sym t.1) c,
          subst (λ x. Loose x id home h (fitted (want * (store_in s home).unit) xs)) (sym t.1) (subst (Loose s id home h) ys l),
          subst (λ x. Kept s x id) (sym t.1) (kept_same s id),
          subst (λ x. Rest s x home h) (sym t.1) (rest_same s home h),
        )

    -- of a chain of so many units so many are wanted
    pub stretched_step : 0 < (store_in s home).unit → want ≢ 0 → want - have ≤ (store_in s home).room → Stretching most layer home h have want s r z → Stretched r
    stretched_step u some room t = ⊎_elim
        (λ a. by_more a room (rw (lt-ltb have want a) at t))
        (λ a. ⊎_elim
        (λ b. by_cut b u some (rw (le-ltb have want a, lt-ltb want have b) at t))
        (λ b. by_none (omega (arith, a, b)) (rw (le-ltb have want a, le-ltb want have b) at t)) (cases_lt want have)) (cases_lt have want)

-- bytes that are laid over zeros
pub laid_zeros : (n : ℕ) (ws : List ℕ) → length ws ≤ n → laid (replicate n 0) 0 ws ≡ fitted n ws
unfolding laid
laid_zeros n ws l = ap (λ ys. ws ++ ys) (drop-replicate (0 + length ws) n 0 ∙ ap (λ k. replicate k 0) (omega arith)) ∙ sym (fitted_more n ws l)

-- what follows a step that was accepted
pub after_ok : {A B : Type 0} (x : Result A Refused) (v : A) (next : A → Step B) (s : State) (r : Result B Refused) (z : State) → x ≡ Ok v → After x next s r z → next v s r z
after_ok x v next s r z e t = subst (λ q. After q next s r z) e t

-- the chain of h goes from one home to another: its first bytes lie in the new one, and zeros behind
module _ (most layer : ℕ) (s z : State) (id : ℕ) (c : Clean most s) (okz : Lawful most z.host) (p : Plan) (xs : List ℕ) (l : Loose s id p.from p.start xs) where
  pub carried_step : (r : Result ℕ Refused) → p.keep ≤ length xs → p.want ≢ 0
      → ((y : State) → Kept s y id → p.keep ≤ p.want * (store_in y p.to).unit)
      → ((y : State) → Freeing most layer p.from p.start s (Ok tt) y → Clean most y → p.want ≤ (store_in y p.to).room)
      → Carrying most layer p s r z
      → (h : ℕ) × (r ≡ Ok h) × Clean most z × ((y : State) × Kept s y id × Loose z id p.to h (fitted (p.want * (store_in y p.to).unit) (take p.keep xs))) × Kept s z id × Moved s z p.from p.start p.to h
  carried_step r keep some fits room t =
      let there = own_chain s p.start xs p.from l.chain in
      let bytes : bytes_of (store_in s p.from) p.start ≡ xs = ap (λ o. unwrap_or o []) there in
      let ws = take p.keep xs in
      let read : t.0 ≡ Ok ws = t.3.0 ∙ sym (told_yes _ _ (copy_yes (store_in s p.from) (layer_in layer p.from) p.start xs there p.keep (omega (arith, keep, ap length bytes)))) ∙ ap (λ bs. Ok (take p.keep bs)) bytes in
      let t1 = subst (λ y. Then most layer (Freeing most layer p.from p.start) (λ x. Then most layer (Beginning most layer p.to p.want) (λ h. Then most layer (Writing most layer p.to h 0 ws) (λ x. Done h))) y r z) t.3.1
      (after_ok t.0 ws (λ ys. Then most layer (Freeing most layer p.from p.start) (λ x. Then most layer (Beginning most layer p.to p.want) (λ h. Then most layer (Writing most layer p.to h 0 ys) (λ x. Done h)))) t.1 r z read t.4) in
      let a = freed_step most layer s t1.1 id c t1.2 p.from p.start xs l t1.0 t1.3 in
      let f : Freeing most layer p.from p.start s (Ok tt) t1.1 = subst (λ q. Freeing most layer p.from p.start s q t1.1) a.0 t1.3 in
      let t2 = after_ok t1.0 tt (λ x. Then most layer (Beginning most layer p.to p.want) (λ h. Then most layer (Writing most layer p.to h 0 ws) (λ x. Done h))) t1.1 r z a.0 t1.4 in
      let b = begun_step most layer t1.1 t2.1 id a.1 t2.2 p.to p.want t2.0 some (room t1.1 f a.1) a.2 t2.3 in
      let t3 = after_ok t2.0 b.0 (λ h. Then most layer (Writing most layer p.to h 0 ws) (λ x. Done h)) t2.1 r z b.1 t2.4 in
      let n = p.want * (store_in t1.1 p.to).unit in
      let long : length ws ≤ n = omega (arith, length-take p.keep xs, keep, fits t1.1 a.3) in
      let d = written_step most layer t2.1 t3.1 id b.2 t3.2 p.to b.0 (zeros (store_in t1.1 p.to) p.want) b.3 0 ws t3.0
      (omega (arith, long, length-replicate {A = ℕ} n 0)) t3.3 in
      let t4 = after_ok t3.0 tt (λ x. Done b.0) t3.1 r z d.0 t3.4 in
      let e = sym t4.1 in (
        b.0,
        t4.0,
        subst (Clean most) e d.1,
        (t1.1, a.3, subst (λ x. Loose x id p.to b.0 (fitted n ws)) e (subst (Loose t3.1 id p.to b.0) (laid_zeros n ws long) d.2)),
        subst (λ x. Kept s x id) e (kept_on s t1.1 t3.1 id a.3 (kept_on t1.1 t2.1 t3.1 id b.4 d.3)),
        subst (λ x. Moved s x p.from p.start p.to b.0) e (moved s t1.1 t2.1 t3.1 p.from p.start p.to b.0 a.4 a.5 b.5 d.4 (written_table most layer t2.1 t3.1 b.2.lawful t3.2 b.2.sound b.2.synced p.to b.0 0 ws t3.0 t3.3.1)),
      )
