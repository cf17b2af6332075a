-- Streams and their chains: what becomes of them when one chain is another one.
-- Assumes nothing.
use Rattle.std.proofs.Common.{◌≡◌, ℕ, ◌+◌, ◌-◌, ◌*◌, ◌/◌, ◌<◌, ◌≢◌, ◌⊎◌, List, [], length, set, take, Some, None, Option, sym, refl, ap, ◌∙◌, subst, inl, inr, ⊎_elim, arith}
use Rattle.std.proofs.lemmas.Map.{update_here, update_apart}
use Rattle.std.proofs.lemmas.Bool.{cases_lt, cases_eq}
use Rattle.std.proofs.lemmas.List.{get_or-set_same, get_or-set_other, length-set}
use Rattle.std.proofs.lemmas.Option.{none-some, same_Some, slice_get-get_or, slice_get_past, slice_get_within, get_or_from_slice_get}
use Rattle.std.specs.List.{slice_get}
use Rattle.std.specs.Option.{unwrap_or}
use Rattle.store.specs.declared.entries.Entry.{Entry}
use Rattle.store.specs.Meaning.{moved}
use Rattle.workbook.specs.declared.homes.Home.{Home}
use Rattle.workbook.specs.declared.homes.Home.TheVariants.{Mini, Host}
use Rattle.workbook.specs.Sights.{Sight, home_of, unit_in, chain_in, reach, rechained, Fits, Stream, Shared, Placed, Beside, bytes_in}

-- which of two homes
pub cases_home : (a b : Home) → (a ≡ b) ⊎ (a ≢ b)
cases_home Mini Mini = inl refl
cases_home Mini Host = inr (λ e. cc)
cases_home Host Mini = inr (λ e. cc)
cases_home Host Host = inl refl

-- what is seen of the units, where the host's unit is the same
module _ (v w : Sight) (e : v.unit ≡ w.unit) where
  pub unit_alike : (b : Home) → unit_in v b ≡ unit_in w b
  unit_alike Mini = refl
  unit_alike Host = e

  pub reach_alike : (n : ℕ) → reach v n ≡ reach w n
  reach_alike n = ap (λ u. (n + (u - 1)) / u * u) (unit_alike (home_of n))

module _ (v : Sight) (home : Home) (h : ℕ) (o : Option (List ℕ)) where
  pub chain_here : chain_in (rechained v home h o) home h ≡ o
  chain_here = elim home as (λ a. chain_in (rechained v a h o) a h ≡ o) [
    | Mini ↦ update_here v.small h o
    | Host ↦ update_here v.large h o
  ]

  pub chain_apart : (k : ℕ) → k ≢ h → chain_in (rechained v home h o) home k ≡ chain_in v home k
  chain_apart k d = elim home as (λ a. chain_in (rechained v a h o) a k ≡ chain_in v a k) [
    | Mini ↦ update_apart v.small h o k d
    | Host ↦ update_apart v.large h o k d
  ]

  pub chain_elsewhere : (b : Home) (k : ℕ) → b ≢ home → chain_in (rechained v home h o) b k ≡ chain_in v b k
  chain_elsewhere b k d = other home b d
    where
      other : (a b : Home) → b ≢ a → chain_in (rechained v a h o) b k ≡ chain_in v b k
      other Mini Mini d = absurd (d refl)
      other Mini Host d = refl
      other Host Mini d = refl
      other Host Host d = absurd (d refl)

  pub chain_other : (b : Home) (k : ℕ) → (b ≡ home → k ≢ h) → chain_in (rechained v home h o) b k ≡ chain_in v b k
  chain_other b k d = ⊎_elim
      (λ q. subst (λ a. chain_in (rechained v home h o) a k ≡ chain_in v a k) (sym q) (chain_apart k (d q)))
      (λ n. chain_elsewhere b k n) (cases_home b home)

  pub unit_same : (rechained v home h o).unit ≡ v.unit
  unit_same = elim home as (λ a. (rechained v a h o).unit ≡ v.unit) [ Mini ↦ refl | Host ↦ refl ]

  pub entries_same : (rechained v home h o).entries ≡ v.entries
  entries_same = elim home as (λ a. (rechained v a h o).entries ≡ v.entries) [ Mini ↦ refl | Host ↦ refl ]

-- a stream that is seen is seen where the entries are the same
pub stream_by : (v w : Sight) → w.entries ≡ v.entries → (j : ℕ) (e : Entry) → Stream v j e → Stream w j e
stream_by v w q j e t = (ap (λ es. slice_get es j) q ∙ t.0, t.1)

-- of no bytes the first are the same
pub none_taken : (n : ℕ) (xs ys : List ℕ) → n ≡ 0 → take n xs ≡ take n ys
none_taken n xs ys z = ap (λ k. take k xs) z ∙ ap (λ k. take k ys) (sym z)

-- a stream that has the same chain, where it has bytes
module _ (v w : Sight) (e : Entry) (chain : e.length ≢ 0 → chain_in w (home_of e.length) e.start ≡ chain_in v (home_of e.length) e.start) where
  pub bytes_alike : bytes_in w e ≡ bytes_in v e
  bytes_alike = ⊎_elim (none_taken e.length _ _) (λ some. ap (λ o. take e.length (unwrap_or o [])) (chain some)) (cases_eq e.length 0)

  pub fits_alike : w.unit ≡ v.unit → Fits v e → Fits w e
  fits_alike u (inl z) = inl z
  fits_alike u (inr c) = inr (c.0, record { some = c.1.some; chain = chain c.1.some ∙ c.1.chain; units = c.1.units ∙ sym (reach_alike w v u e.length) })

-- the other way round
pub turned : {d e : Entry} → Shared d e → Shared e d
turned s = record { some = s.other; other = s.some; home = sym s.home; start = sym s.start }

-- an entry that is set, and the others
pub get_set : {X : Type 0} (xs : List X) (i : ℕ) (x d : X) → i < length xs → slice_get (set xs i x) i ≡ Some x
get_set xs i x d l =
    slice_get-get_or (set xs i x) i d (omega (arith, l, length-set xs i x)) ∙ ap Some (get_or-set_same xs i x d l)

pub get_apart : {X : Type 0} (xs : List X) (i j : ℕ) (x d : X) → j ≢ i → slice_get (set xs i x) j ≡ slice_get xs j
get_apart xs i j x d n = ⊎_elim
    (λ l. slice_get-get_or (set xs i x) j d (omega (arith, l, length-set xs i x)) ∙ ap Some (get_or-set_other xs i j x d n) ∙ sym (slice_get-get_or xs j d l))
    (λ l. slice_get_past (set xs i x) j (omega (arith, l, length-set xs i x)) ∙ sym (slice_get_past xs j l)) (cases_lt j (length xs))

abbrev pub Others : ℕ → ℕ → Type 0
Others id j = j ≢ id

-- a chain of no other stream is another one
module _ (v : Sight) (id : ℕ) (home : Home) (h : ℕ) (o : Option (List ℕ)) (beside : Beside v id home h) where
  abbrev w : Sight
  w = rechained v home h o

  stream_there : (j : ℕ) (e : Entry) → Stream w j e → Stream v j e
  stream_there = stream_by w v (sym (entries_same v home h o))

  pub other_chain : (j : ℕ) (e : Entry) → j ≢ id → Stream v j e → e.length ≢ 0 → chain_in w (home_of e.length) e.start ≡ chain_in v (home_of e.length) e.start
  other_chain j e n t some = chain_other v home h o (home_of e.length) e.start (λ q. beside j e n t some q)

  pub other_bytes : (j : ℕ) (e : Entry) → j ≢ id → Stream v j e → bytes_in w e ≡ bytes_in v e
  other_bytes j e n t = bytes_alike v w e (other_chain j e n t)

  other_fits : (j : ℕ) (e : Entry) → j ≢ id → Stream v j e → Fits v e → Fits w e
  other_fits j e n t f = fits_alike v w e (other_chain j e n t) (unit_same v home h o) f

  pub still_placed : Placed v (Others id) → Placed w (Others id)
  still_placed p = record {
    fits = λ i e n t. other_fits i e n (stream_there i e t) (p.fits i e n (stream_there i e t));
    apart = λ i j d e m n t u. p.apart i j d e m n (stream_there i d t) (stream_there j e u);
  }

  pub still_beside : Beside w id home h
  still_beside j e n t = beside j e n (stream_there j e t)

-- a chain that was none is no stream's
pub fresh_beside : (v : Sight) (id : ℕ) (home : Home) (h : ℕ) → Placed v (Others id) → chain_in v home h ≡ None → Beside v id home h
fresh_beside v id home h p none j e n t some q s = ⊎_elim
    (λ z. some z.0)
    (λ c. none-some c.0 (sym none ∙ sym (ap (λ b. chain_in v b h) q) ∙ sym (ap (λ k. chain_in v (home_of e.length) k) s) ∙ c.1.chain)) (p.fits j e n t)

-- a stream's chain is no other's
pub own_beside : (v : Sight) (id : ℕ) (e : Entry) → Placed v (λ j. Unit {0}) → Stream v id e → e.length ≢ 0 → Beside v id (home_of e.length) e.start
own_beside v id e p t some j d n u other q s = n (p.apart j id d e tt tt u t (record { some = other; other = some; home = q; start = s }))

pub others_placed : (v : Sight) (id : ℕ) → Placed v (λ j. Unit {0}) → Placed v (Others id)
others_placed v id p = record { fits = λ i e n t. p.fits i e tt t; apart = λ i j d e m n t u. p.apart i j d e tt tt t u }

-- all streams but id have their chains, and that of id has one of its own
module _ (v : Sight) (id : ℕ) (x : Entry) (here : Stream v id x) (p : Placed v (Others id)) (fits : Fits v x) (beside : x.length ≢ 0 → Beside v id (home_of x.length) x.start) where
  it_is : (j : ℕ) (d : Entry) → j ≡ id → Stream v j d → d ≡ x
  it_is j d q u = same_Some d x (sym u.0 ∙ ap (slice_get v.entries) q ∙ here.0)

  alone : (j : ℕ) (d : Entry) → j ≢ id → Stream v j d → Shared d x → ⊥
  alone j d m u s = beside s.other j d m u s.some s.home s.start

  pub placed_whole : Placed v (λ j. Unit {0})
  placed_whole = record {
    fits = λ i d k u. ⊎_elim (λ q. subst (Fits v) (sym (it_is i d q u)) fits) (λ n. p.fits i d n u) (cases_eq i id);
    apart = λ i j a b k l u w s. ⊎_elim
        (λ q. ⊎_elim (λ r. q ∙ sym r)
        (λ m. absurd (alone j b m w (turned (subst (λ z. Shared z b) (it_is i a q u) s)))) (cases_eq j id))
        (λ m. ⊎_elim (λ r. absurd (alone i a m u (subst (λ z. Shared a z) (it_is j b r w) s)))
        (λ n. p.apart i j a b m n u w s) (cases_eq j id)) (cases_eq i id);
  }

-- the stream of id has another start and length, and its chain is beside those of the others
module _ (v : Sight) (id h n : ℕ) (e : Entry) (t : Stream v id e) where
  abbrev x : Entry
  x = record { kind = e.kind; start = h; length = n }

  abbrev y : Sight
  y = record v { entries = moved v.entries id h n }

  pub set_here : slice_get y.entries id ≡ Some x
  set_here =
      let l = slice_get_within v.entries id e t.0 in
      get_set v.entries id _ e l ∙ ap (λ (d : Entry). Some (record { kind = d.kind; start = h; length = n })) (get_or_from_slice_get v.entries id e _ t.0)

  pub set_apart : (j : ℕ) → j ≢ id → slice_get y.entries j ≡ slice_get v.entries j
  set_apart j d = get_apart v.entries id j _ e d

  pub set_chain : (b : Home) → chain_in y b ≡ chain_in v b
  set_chain Mini = refl
  set_chain Host = refl

  set_there : (d : Entry) → d.length ≢ 0 → chain_in y (home_of d.length) d.start ≡ chain_in v (home_of d.length) d.start
  set_there d some = ap (λ f. f d.start) (set_chain (home_of d.length))

  pub set_bytes : (d : Entry) → bytes_in y d ≡ bytes_in v d
  set_bytes d = bytes_alike v y d (set_there d)

  module _ (p : Placed v (Others id)) (fits : Fits v x) (beside : n ≢ 0 → Beside v id (home_of n) h) where
    other_there : (j : ℕ) (d : Entry) → j ≢ id → Stream y j d → Stream v j d
    other_there j d n u = (sym (set_apart j n) ∙ u.0, u.1)

    others : Placed y (Others id)
    others = record {
      fits = λ i d m u. fits_alike v y d (set_there d) refl (p.fits i d m (other_there i d m u));
      apart = λ i j a b m n u w s. p.apart i j a b m n (other_there i a m u) (other_there j b n w) s;
    }

    pub placed_again : Placed y (λ j. Unit {0})
    placed_again = placed_whole y id x (set_here, t.1) others (fits_alike v y x (set_there x) refl fits) (λ some j d m u. beside some j d m (other_there j d m u))
