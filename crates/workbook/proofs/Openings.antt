-- An opening that is accepted leaves a whole workbook.
-- Assumes nothing.
use Rattle.std.proofs.Common.{◌≡◌, ℕ, ◌*◌, ◌<◌, ◌&&◌, ◌≢◌, Bool, true, false, cond, not, eqb, ◌⊎◌, List, [], length, Some, None, Ok, Err, Option, Result, unwrap_or, sym, refl, ap, ◌∙◌, subst, inl, inr, ⊎_elim, arith}
use Rattle.std.specs.Prelude.{ok_or, option_map, option_and_then}
use Rattle.std.specs.List.{slice_get}
use Rattle.std.specs.Option.{option_or}
use Rattle.std.proofs.lemmas.Bool.{cases_eq, cases_order, and_from, and_cases, not-false, not_from_false, eqb-true, eqb-false, eq-eqb, ne_eqb, true≢false}
use Rattle.std.proofs.lemmas.Option.{slice_get_within}
use Rattle.links.specs.Links.{END}
use Rattle.links.specs.Stack.{free_places}
use Rattle.links.specs.Walk.{chain_of}
use Rattle.links.specs.Check.{settled}
use Rattle.links.proofs.Searches.{neither, none_first, none_settled, some_settled}
use Rattle.links.proofs.Layings.{kept_laid}
use Rattle.store.specs.declared.entries.Entry.{Entry}
use Rattle.store.specs.Extents.{possible}
use Rattle.store.specs.Refusals.{Refused, answer}
use Rattle.store.specs.Meaning.{Store, Lawful, Hosted, headed}
use Rattle.chain.specs.Webs.{Woven}
use Rattle.chain.proofs.Weaves.{some_told}
use Rattle.mini.specs.Mini.{stream_at, fat_at, Borne}
use Rattle.mini.proofs.Figures.{whole_units}
use Rattle.mini.proofs.Weaves.{mini_woven}
use Rattle.minifat.specs.Table.{table_of, before}
use Rattle.minifat.specs.Told.{Faulted}
use Rattle.minialloc.specs.States.{State, web_in, Sound}
use Rattle.minialloc.proofs.Openings.{passed, Read, table_read, read_few, read_backed, read_borne}
use Rattle.workbook.specs.declared.homes.Home.{Home}
use Rattle.workbook.specs.declared.homes.Home.TheVariants.{Mini, Host}
use Rattle.workbook.specs.Homes.{same_home}
use Rattle.workbook.specs.Sights.{seen, home_of, unit_in, chain_in, needed, is_stream, Fits, Stream, Shared, Placed}
use Rattle.workbook.specs.Opening.{closed, opened_with, fault_if, stream_only, stream_with, units_by, units_fault, extent_fault, stream_fault, on_base, one_chain, shared_fault, taken_fault, head_fault, streams_fault, heads_fault, opening_of}
use Rattle.workbook.specs.Whole.{Whole, Holds}
use Rattle.workbook.proofs.Carries.{same_itself}
use Rattle.workbook.proofs.Effects.{means_of}
use Rattle.workbook.proofs.Entries.{entry_seen}
use Rattle.workbook.proofs.Sights.{turned}

-- nothing is found by a test that fails
no_fault : (b : Bool) (f : Faulted) → fault_if b f ≡ None → b ≡ false
no_fault true f e = cc
no_fault false f e = refl

-- what goes together
end_possible : (h n : ℕ) → possible h n ≡ true → n ≡ 0 → h ≡ END
end_possible h n e z = go (eqb h END) refl (subst (λ k. possible h k ≡ true) z e)
  where
    go : (b : Bool) → eqb h END ≡ b → cond b true false ≡ true → h ≡ END
    go true q t = eqb-true h END q
    go false q t = cc

units_right : (r : Result ℕ Refused) (want id : ℕ) → units_fault r want id ≡ None → r ≡ Ok want
units_right (Ok n) want id e = ap Ok (eqb-true n want (not-false _ (no_fault _ _ e)))
units_right (Err f) want id e = cc

length_right : (o : Option (List ℕ)) (f : Refused) (n : ℕ) → ok_or (option_map length o) f ≡ Ok n → (ps : List ℕ) × (o ≡ Some ps) × (length ps ≡ n)
length_right None f n e = cc
length_right (Some ps) f n e = (ps, refl, cc)

headed_right : (o : Option (List ℕ)) (layer h u n : ℕ) → answer (headed o layer h None) u ≡ Ok n → (xs : List ℕ) × (o ≡ Some xs) × (u ≡ n)
headed_right None layer h u n e = cc
headed_right (Some xs) layer h u n e = (xs, refl, cc)

-- two starts that are one where both are END
bases_right : (a b : ℕ) → (eqb a b && not (eqb b END)) ≡ false → (a ≢ b) ⊎ (b ≡ END)
bases_right a b e = ⊎_elim (λ q. inl (eqb-false a b q)) (λ q. inr (eqb-true b END (not-false _ q))) (and_cases _ _ e)

-- the streams' units are the same, shut and open
needed_there : (s : State) (L : List ℕ) (b : Home) (n : ℕ) → needed (seen (closed s)) b n ≡ needed (seen (opened_with s L)) b n
needed_there s L Mini n = refl
needed_there s L Host n = refl

module _ (most layer : ℕ) (s : State) (ok : Lawful most s.host) (some : 0 < length s.host.notes.entries) (L : List ℕ) (read : Read s.host layer L)
    (streams : streams_fault (closed s) layer L ≡ None) (heads : heads_fault (closed s) ≡ None) where
  abbrev z : State
  z = opened_with s L

  abbrev es : List Entry
  es = s.host.notes.entries

  two : (stream_at s.host ≢ fat_at s.host) ⊎ (fat_at s.host ≡ END)
  two = bases_right _ _ (no_fault _ _ (neither _ _ heads).0)

  borne : Borne s.host (length L)
  borne = read_borne s.host layer L read most ok two

  sound : Sound z
  sound = (refl, borne)

  woven : Woven (web_in z)
  woven = mini_woven s.host L (free_places L) (read_few s.host layer L read) (kept_laid L read.checked) borne

  -- what is looked for of each stream
  module _ (i : ℕ) (e : Entry) (here : slice_get es i ≡ Some e) (is : is_stream e ≡ true) where
    named : stream_with (closed s) i ≡ Some e
    named = ap (option_and_then stream_only) here ∙ ap (λ b. cond b (Some e) None) is

    extent_right : extent_fault (closed s) layer L i e ≡ None
    extent_right =
        ap (option_and_then (extent_fault (closed s) layer L i)) (sym named)
        ∙ none_first (stream_fault (closed s) layer L) (length es) 0 streams i (omega arith) (omega (arith, slice_get_within es i e here))

    head_right : taken_fault (closed s) i e ≡ None
    head_right =
        ap (option_and_then (taken_fault (closed s) i)) (sym named)
        ∙ none_first (head_fault (closed s)) (length es) 0 (neither _ _ heads).1 i (omega arith) (omega (arith, slice_get_within es i e here))

    -- the chain that was looked at is what a workbook sees
    chain_right : (b : Home) → home_of e.length ≡ b → (n : ℕ) → units_by (closed s) layer L b e.start ≡ Ok n
        → (xs : List ℕ) × (chain_in (seen z) b e.start ≡ Some xs) × (length xs ≡ n * unit_in (seen z) b)
    chain_right Mini q n t =
        let r = length_right (chain_of L e.start) _ n t in
        let c = some_told (web_in z) woven (omega arith) e.start r.0 r.1 in
        (_, ap (λ (m : Store). m.chain e.start) (means_of most z ok sound) ∙ c.chain, c.long ∙ ap (λ k. k * 64) r.2)
    chain_right Host q n t =
        let r = headed_right (s.host.chain e.start) layer e.start _ n t in
        let apart = ⊎_elim (λ f. absurd (true≢false (sym (ap (λ b. same_home b Host) q) ∙ f))) (λ f. f) (and_cases _ _ (no_fault (on_base s.host e) _ (neither _ _ head_right).0)) in (
          r.0,
          ap (λ b. cond b None (s.host.chain e.start)) apart ∙ r.1,
          ap (λ o. length (unwrap_or o [])) (sym r.1) ∙ sym (whole_units most s.host ok e.start) ∙ ap (λ k. k * s.host.unit) r.2,
        )

    fits : Fits (seen z) e
    fits =
        let t = neither _ _ extent_right in
        let can = not-false _ (no_fault (not (possible e.start e.length)) _ t.0) in
        ⊎_elim (λ o. inl (o, end_possible e.start e.length can o))
        (λ o.
        let f = units_fault (units_by (closed s) layer L (home_of e.length) e.start) (needed (seen (closed s)) (home_of e.length) e.length) i in
        let u = units_right _ _ i (sym (ap (λ b. cond b None f) (ne_eqb e.length 0 o)) ∙ t.1) in
        let c = chain_right (home_of e.length) refl _ u in
        inr (c.0, record { some = o; chain = c.1; units = c.2 ∙ ap (λ k. k * unit_in (seen z) (home_of e.length)) (needed_there s L (home_of e.length) e.length) }))
        (cases_eq e.length 0)

  -- no lower stream has the chain of a stream
  alone : (i j : ℕ) (d e : Entry) → i < j → slice_get es i ≡ Some d → is_stream d ≡ true → slice_get es j ≡ Some e → is_stream e ≡ true → Shared d e → ⊥
  alone i j d e l hi si hj sj sh =
      let t = none_first (shared_fault (closed s) j e) j 0 (neither _ _ (head_right j e hj sj)).1 i (omega arith) (omega arith) in
      let f = no_fault (one_chain d e) _ (ap (option_and_then (λ d. fault_if (one_chain d e) _)) (sym (named i d hi si)) ∙ t) in
      let one : one_chain d e ≡ true =
      and_from _ _ (not_from_false _ (ne_eqb d.length 0 sh.some)) (and_from _ _ (not_from_false _ (ne_eqb e.length 0 sh.other))
      (and_from _ _ (ap (same_home (home_of d.length)) (sym sh.home) ∙ same_itself (home_of d.length)) (eq-eqb _ _ sh.start))) in
      true≢false (sym one ∙ f)

  there : (i : ℕ) (e : Entry) → Stream (seen z) i e → slice_get es i ≡ Some e
  there = entry_seen z read.root

  placed : Placed (seen z) (λ j. Unit {0})
  placed = record {
    fits = λ i e k t. fits i e (there i e t) t.1;
    apart = λ i j d e k l t u sh. ⊎_elim (λ q. q) (⊎_elim
        (λ q. absurd (alone i j d e q (there i d t) t.1 (there j e u) u.1 sh))
        (λ q. absurd (alone j i e d q (there j e u) u.1 (there i d t) t.1 (turned sh))))
        (cases_order i j);
  }

  pub whole_then : Whole z
  whole_then = record { sound = sound; synced = read_backed s.host layer L read; root = read.root; placed = placed }

-- an opening that is accepted read the table
pub opening_read : (layer : ℕ) (s : State) (strict : Bool) (L : List ℕ) → opening_of s layer strict ≡ Ok L
    → (table_of s.host layer strict ≡ Ok L) × (streams_fault (closed s) layer L ≡ None) × (heads_fault (closed s) ≡ None)
opening_read layer s strict L e =
    let t = passed (table_of s.host layer strict) _ L e in
    let a = none_settled (option_or (streams_fault (closed s) layer t.it) (heads_fault (closed s))) t.it L t.rest in
    let n = neither (streams_fault (closed s) layer t.it) (heads_fault (closed s)) a.0 in
    (t.first ∙ ap Ok a.1, ap (streams_fault (closed s) layer) (sym a.1) ∙ n.0, n.1)

pub opening_whole : (most layer : ℕ) (s : State) (strict : Bool) (L : List ℕ) → Lawful most s.host → Hosted s.host → opening_of s layer strict ≡ Ok L → Whole (opened_with s L)
opening_whole most layer s strict L ok hosted e =
    let t = opening_read layer s strict L e in
    whole_then most layer s ok hosted.some L (table_read s.host layer strict L t.0) t.1 t.2

-- what each row says of the whole, when those before are passed
module _ (layer : ℕ) (s : State) (strict : Bool) (L : List ℕ) (table : ◌≡◌ {A = Result (List ℕ) Faulted} (Ok L) (table_of s.host layer strict)) where
  abbrev rest : Option Faulted → Option Faulted → Result (List ℕ) Faulted
  rest a b = settled (option_or a b) L

  below : opening_of s layer strict ≡ rest (streams_fault s layer L) (heads_fault s)
  below = ap (λ r. before r (λ L. settled (option_or (streams_fault (closed s) layer L) (heads_fault (closed s))) L)) (sym table)

  pub streams_amiss : (f : Faulted) → ◌≡◌ {A = Result (Unit {0}) Faulted} (Err f) (settled (streams_fault s layer L) tt) → ◌≡◌ {A = Result (List ℕ) Faulted} (Err f) (opening_of s layer strict)
  streams_amiss f e = sym (below ∙ ap (λ a. rest a (heads_fault s)) (some_settled _ tt f (sym e)))

  module _ (streams : ◌≡◌ {A = Result (Unit {0}) Faulted} (Ok tt) (settled (streams_fault s layer L) tt)) where
    then_heads : opening_of s layer strict ≡ settled (heads_fault s) L
    then_heads = below ∙ ap (λ a. rest a (heads_fault s)) (none_settled _ tt tt (sym streams)).0

    pub heads_amiss : (f : Faulted) → ◌≡◌ {A = Result (Unit {0}) Faulted} (Err f) (settled (heads_fault s) tt) → ◌≡◌ {A = Result (List ℕ) Faulted} (Err f) (opening_of s layer strict)
    heads_amiss f e = sym (then_heads ∙ ap (λ a. settled a L) (some_settled _ tt f (sym e)))

    pub nothing_amiss : ◌≡◌ {A = Result (Unit {0}) Faulted} (Ok tt) (settled (heads_fault s) tt) → ◌≡◌ {A = Result (List ℕ) Faulted} (Ok L) (opening_of s layer strict)
    nothing_amiss e = sym (then_heads ∙ ap (λ a. settled a L) (none_settled _ tt tt (sym e)).0)

-- an opening that was accepted, in the state that is installed
pub opens : (most layer : ℕ) (s z : State) (strict : Bool) (L S : List ℕ) → Lawful most s.host → Hosted s.host → ◌≡◌ {A = Result (List ℕ) Faulted} (Ok L) (opening_of s layer strict)
    → S ≡ free_places L → z ≡ record { opened = true; host = s.host; links = L; stack = S } → Holds z
opens most layer s z strict L S ok hosted e stack is =
    let z_is : z ≡ opened_with s L = is ∙ ap (λ k. record { opened = true; host = s.host; links = L; stack = k }) stack in
    ∣ (λ o. subst Whole (sym z_is) (opening_whole most layer s strict L ok hosted (sym e))) ∣₁
