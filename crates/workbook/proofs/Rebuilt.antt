-- A chain is rebuilt as its plan says, where there is room for what it needs.
-- Assumes nothing.
use Rattle.std.proofs.Common.{◌≡◌, ℕ, ◌-◌, ◌*◌, ◌/◌, ◌≤◌, ◌≢◌, ◌⊎◌, Bool, true, false, cond, List, [], length, take, replicate, Some, Ok, Result, sym, refl, ap, ◌∙◌, subst, inl, inr, ⊎_elim, mul-div_cancel, arith}
use Rattle.std.proofs.lemmas.Bool.{cases_eq, eq-eqb, ne_eqb}
use Rattle.std.proofs.lemmas.List.{take_all}
use Rattle.std.proofs.lemmas.Option.{none-some}
use Rattle.links.specs.Links.{END}
use Rattle.store.specs.Refusals.{Refused}
use Rattle.store.specs.Meaning.{Lawful, zeros}
use Rattle.minialloc.specs.States.{State}
use Rattle.workbook.specs.declared.homes.Home.{Home}
use Rattle.workbook.specs.declared.homes.Home.TheVariants.{Mini, Host}
use Rattle.workbook.specs.declared.plans.Plan.{Plan}
use Rattle.workbook.specs.Homes.{store_in, same_home}
use Rattle.workbook.specs.Sights.{Sight, seen, unit_in, chain_in, fitted, Placed}
use Rattle.workbook.specs.Steps.{Then, Done, Freeing, Beginning, Stretching, Carrying, Rebuilding, stays, need_for, room_by, room_for}
use Rattle.workbook.proofs.Carries.{same_itself, other_home}
use Rattle.workbook.proofs.Rebuilds.{Clean, Loose, Kept, kept_same, freed_step, begun_step, stretched_step, carried_step, after_ok, fitted_more}
use Rattle.workbook.proofs.Found.{some_there}
use Rattle.workbook.proofs.Places.{Tidy, Same, same_table}
use Rattle.workbook.proofs.Rooms.{room_up, room_down}
use Rattle.workbook.proofs.Sights.{Others, cases_home, unit_alike}
use Rattle.workbook.proofs.Turns.{unit_there}

-- the chain that a stream has, or none
abbrev pub Had : ℕ → State → Plan → List ℕ → Type 0
Had id s p xs =
    ((p.have ≡ 0) × (p.from ≡ Mini) × (xs ≡ []) × Placed (seen s) (Others id))
    ⊎ ((p.have ≢ 0) × Loose s id p.from p.start xs × (length xs ≡ p.have * unit_in (seen s) p.from))

-- the chain that it has then, or none
abbrev pub Has : ℕ → Sight → State → Plan → List ℕ → ℕ → Type 0
Has id v z p xs h =
    ((p.want ≡ 0) × (h ≡ END) × Placed (seen z) (Others id))
    ⊎ ((p.want ≢ 0) × Loose z id p.to h (fitted (p.want * unit_in v p.to) (stays p xs)))

-- each chain but the new one, of h, is as it was, and is not the old one
pub record Leaves (s z : State) (p : Plan) (h : ℕ) : Type 0 where
  pub chain : (b : Home) (k : ℕ) (ys : List ℕ) → chain_in (seen z) b k ≡ Some ys → (p.want ≢ 0 → b ≡ p.to → k ≢ h)
      → (chain_in (seen s) b k ≡ Some ys) × (p.have ≢ 0 → b ≡ p.from → k ≢ p.start)
  pub links : Tidy s → (k : ℕ) → (p.have ≢ 0 → p.from ≡ Mini → k ≢ p.start) → (p.want ≢ 0 → p.to ≡ Mini → k ≢ h) → Same s z k

module _ (most layer : ℕ) (s z : State) (id : ℕ) (c : Clean most s) (okz : Lawful most z.host) (p : Plan) (xs : List ℕ) where
  abbrev Rebuilt : Result ℕ Refused → Type 0
  Rebuilt r = (h : ℕ) × (r ≡ Ok h) × Clean most z × Kept s z id × Has id (seen s) z p xs h × Leaves s z p h

  nothing : (r : Result ℕ Refused) → p.want ≡ 0 → p.have ≡ 0 → Placed (seen s) (Others id) → Done END s r z → Rebuilt r
  nothing r w v q t =
      let e = sym t.1 in
      let l : Leaves s s p END = record { chain = λ b k ys e n. (e, λ d f m. d v); links = λ y k m n. same_table s s k refl } in
      (END, t.0, subst (Clean most) e c, subst (λ x. Kept s x id) e (kept_same s id), inl (w, refl, subst (λ x. Placed (seen x) (Others id)) e q), subst (λ x. Leaves s x p END) e l)

  freeing : (r : Result ℕ Refused) → p.want ≡ 0 → p.have ≢ 0 → Loose s id p.from p.start xs → Then most layer (Freeing most layer p.from p.start) (λ x. Done END) s r z → Rebuilt r
  freeing r w v l t =
      let a = freed_step most layer s t.1 id c t.2 p.from p.start xs l t.0 t.3 in
      let d = after_ok t.0 tt (λ x. Done END) t.1 r z a.0 t.4 in
      let e = sym d.1 in
      let old : (b : Home) (k : ℕ) (ys : List ℕ) → chain_in (seen t.1) b k ≡ Some ys → b ≡ p.from → k ≢ p.start =
      λ b k ys u q m. none-some ys (sym a.5 ∙ (λ i. chain_in (seen t.1) (sym q i) (sym m i)) ∙ u) in
      let f : Leaves s t.1 p END = record {
        chain = λ b k ys u n. let m = old b k ys u in (sym (a.4.chain b k m) ∙ u, λ y. m);
        links = λ y k m n. a.4.links (λ q. y) k (m v);
      } in
      (END, d.0, subst (Clean most) e a.1, subst (λ x. Kept s x id) e a.3, inl (w, refl, subst (λ x. Placed (seen x) (Others id)) e a.2), subst (λ x. Leaves s x p END) e f)

  shorter_nothing : (b : Bool) → ◌≡◌ {A = List ℕ} (cond b [] (take p.keep [])) []
  shorter_nothing true = refl
  shorter_nothing false = take_all p.keep [] (omega arith)

  beginning : (r : Result ℕ Refused) → p.want ≢ 0 → p.have ≡ 0 → xs ≡ [] → p.want ≤ (store_in s p.to).room → Placed (seen s) (Others id) → Beginning most layer p.to p.want s r z → Rebuilt r
  beginning r w v e l q t =
      let b = begun_step most layer s z id c okz p.to p.want r w l q t in
      let none : stays p xs ≡ [] = ap (λ ys. stays p ys) e ∙ shorter_nothing (same_home p.from p.to) in
      let ys : zeros (store_in s p.to) p.want ≡ fitted (p.want * unit_in (seen s) p.to) (stays p xs) =
      ap (λ u. replicate (p.want * u) 0) (unit_there s p.to) ∙ ap (λ k. replicate k 0) (omega arith) ∙ sym (fitted_more (p.want * unit_in (seen s) p.to) [] (omega arith)) ∙ ap (fitted (p.want * unit_in (seen s) p.to)) (sym none) in
      let f : Leaves s z p b.0 = record {
        chain = λ a k ys u n. (sym (b.5.chain a k (n w)) ∙ u, λ d m y. d v);
        links = λ y k m n. b.5.links (λ u. y) k (n w);
      } in
      (b.0, b.1, b.2, b.4, inr (w, subst (Loose z id p.to b.0) ys b.3), f)

  stretching : (r : Result ℕ Refused) → p.want ≢ 0 → p.from ≡ p.to → Loose s id p.from p.start xs → length xs ≡ p.have * unit_in (seen s) p.from
      → p.want - p.have ≤ (store_in s p.to).room → Then most layer (Stretching most layer p.to p.start p.have p.want) (λ x. Done p.start) s r z → Rebuilt r
  stretching r w q l long room t =
      let u = unit_there s p.to in
      let l1 = subst (λ b. Loose s id b p.start xs) q l in
      let long1 : length xs ≡ p.have * (store_in s p.to).unit = long ∙ (λ i. p.have * unit_in (seen s) (q i)) ∙ ap (λ n. p.have * n) (sym u) in
      let a = stretched_step most layer s t.1 id c t.2 p.to p.start p.have p.want xs l1 long1 t.0 (some_there most s c.lawful p.to) w room t.3 in
      let d = after_ok t.0 tt (λ x. Done p.start) t.1 r z a.0 t.4 in
      let e = sym d.1 in
      let ys : fitted (p.want * (store_in s p.to).unit) xs ≡ fitted (p.want * unit_in (seen s) p.to) (stays p xs) =
      ap (λ n. fitted (p.want * n) xs) u ∙ ap (fitted (p.want * unit_in (seen s) p.to)) (sym (ap (λ b. cond b xs (take p.keep xs)) (ap (same_home p.from) (sym q) ∙ same_itself p.from))) in
      let f : Leaves s t.1 p p.start = record {
        chain = λ b k ys u n. (sym (a.4.chain b k (n w)) ∙ u, λ y m. n w (m ∙ q));
        links = λ y k m n. a.4.links (λ u. y) k (n w);
      } in
      (p.start, d.0, subst (Clean most) e a.1, subst (λ x. Kept s x id) e a.3, inr (w, subst (λ x. Loose x id p.to p.start (fitted (p.want * unit_in (seen s) p.to) (stays p xs))) e (subst (Loose t.1 id p.to p.start) ys a.2)), subst (λ x. Leaves s x p p.start) e f)

  roomy : (from to : Home) → from ≢ to → (y : State) → Loose s id from p.start xs → length xs ≡ p.have * unit_in (seen s) from → Freeing most layer from p.start s (Ok tt) y → Clean most y
      → p.want ≤ room_by s from to p.have → p.want ≤ (store_in y to).room
  roomy Mini Mini n y l long f d k = absurd (n refl)
  roomy Mini Host n y l long f d k = room_up most layer s y p.start p.want f k
  roomy Host Mini n y l long f d k = room_down most layer s y p.start p.have p.want xs c d l.chain (ap (λ n. n / s.host.unit) long ∙ mul-div_cancel p.have c.lawful.unit) f k
  roomy Host Host n y l long f d k = absurd (n refl)

  kept_unit : (y : State) → Kept s y id → (b : Home) → (store_in y b).unit ≡ unit_in (seen s) b
  kept_unit y k b = unit_there y b ∙ unit_alike (seen y) (seen s) k.unit b

  carrying : (r : Result ℕ Refused) → p.want ≢ 0 → p.have ≢ 0 → p.from ≢ p.to → Loose s id p.from p.start xs → length xs ≡ p.have * unit_in (seen s) p.from → p.keep ≤ length xs → p.keep ≤ p.want * unit_in (seen s) p.to
      → p.want ≤ room_for s p → Carrying most layer p s r z → Rebuilt r
  carrying r w v n l long keep fits room t =
      let a = carried_step most layer s z id c okz p xs l r keep w (λ y k. omega (arith, fits, ap (λ u. p.want * u) (kept_unit y k p.to))) (λ y f d. roomy p.from p.to n y l long f d room) t in
      let ys : fitted (p.want * (store_in a.3.0 p.to).unit) (take p.keep xs) ≡ fitted (p.want * unit_in (seen s) p.to) (stays p xs) =
      ap (λ u. fitted (p.want * u) (take p.keep xs)) (kept_unit a.3.0 a.3.1 p.to)
      ∙ ap (fitted (p.want * unit_in (seen s) p.to)) (sym (ap (λ b. cond b xs (take p.keep xs)) (other_home p.from p.to n))) in
      let f : Leaves s z p a.0 = record {
        chain = λ b k ys u m. let q = a.5.chain b k ys u (m w) in (q.0, λ y. q.1);
        links = λ y k m u. a.5.links n y k (m v) (u w);
      } in
      (a.0, a.1, a.2, a.4, inr (w, subst (Loose z id p.to a.0) ys a.3.2), f)

  -- the room that is asked for, where there was no chain, and where both are one store
  begin_room : (from to : Home) → from ≡ Mini → p.have ≡ 0 → cond (same_home from to) (p.want - p.have) p.want ≤ room_by s from to p.have → p.want ≤ (store_in s to).room
  begin_room Mini Mini e q k = omega (arith, q, k)
  begin_room Mini Host e q k = k
  begin_room Host Mini e q k = cc
  begin_room Host Host e q k = cc

  one_room : (from to : Home) → from ≡ to → cond (same_home from to) (p.want - p.have) p.want ≤ room_by s from to p.have → p.want - p.have ≤ (store_in s to).room
  one_room Mini Mini e k = k
  one_room Mini Host e k = cc
  one_room Host Mini e k = cc
  one_room Host Host e k = k

  other_room : (from to : Home) → from ≢ to → cond (same_home from to) (p.want - p.have) p.want ≤ room_by s from to p.have → p.want ≤ room_by s from to p.have
  other_room Mini Mini n k = absurd (n refl)
  other_room Mini Host n k = k
  other_room Host Mini n k = k
  other_room Host Host n k = absurd (n refl)

  -- a chain is rebuilt as its plan says
  pub rebuilt : (r : Result ℕ Refused) → Had id s p xs → p.keep ≤ length xs → p.keep ≤ p.want * unit_in (seen s) p.to → (p.want ≢ 0 → need_for p ≤ room_for s p)
      → Rebuilding most layer p s r z → Rebuilt r
  rebuilt r had keep fits room t = ⊎_elim
      (λ w. ⊎_elim
      (λ q. nothing r w q.0 q.3 (rw (eq-eqb p.want 0 w, eq-eqb p.have 0 q.0) at t))
      (λ q. freeing r w q.0 q.1 (rw (eq-eqb p.want 0 w, ne_eqb p.have 0 q.0) at t)) had)
      (λ w. ⊎_elim
      (λ q. beginning r w q.0 q.2 (begin_room p.from p.to q.1 q.0 (room w)) q.3 (rw (ne_eqb p.want 0 w, eq-eqb p.have 0 q.0) at t))
      (λ q. ⊎_elim
      (λ e. stretching r w e q.1 q.2 (one_room p.from p.to e (room w)) (rw (ne_eqb p.want 0 w, ne_eqb p.have 0 q.0, ap (same_home p.from) (sym e) ∙ same_itself p.from) at t))
      (λ n. carrying r w q.0 n q.1 q.2 keep fits (other_room p.from p.to n (room w)) (rw (ne_eqb p.want 0 w, ne_eqb p.have 0 q.0, other_home p.from p.to n) at t)) (cases_home p.from p.to)) had)
      (cases_eq p.want 0)
