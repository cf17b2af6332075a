-- Reading what is carried.
-- Assumes nothing.
use Rattle.std.proofs.Common.{◌≡◌, ℕ, ◌+◌, ◌≢◌, true, false, List, length, take, drop, Some, None, Ok, Err, Option, Result, sym, refl, ap, ◌∙◌, subst, arith}
use Rattle.std.proofs.lemmas.Bool.{eq-eqb, ne_eqb}
use Rattle.links.specs.Links.{END}
use Rattle.store.specs.Refusals.{Refused, answer, unless}
use Rattle.store.specs.declared.stores.ChainStore.{Ghosts}
use Rattle.minialloc.specs.declared.MiniStore.{MiniStore}
use Rattle.store.specs.Meaning.{Lawful, bytes_of, due_copy, read_into}
use Rattle.minialloc.specs.States.{State}
use Rattle.workbook.specs.declared.homes.Home.{Home}
use Rattle.workbook.specs.declared.homes.Home.TheVariants.{Mini, Host}
use Rattle.workbook.specs.declared.plans.Plan.{Plan}
use Rattle.workbook.specs.Homes.{store_in, layer_in, same_home}
use Rattle.workbook.specs.Steps.{Reading, Freeing, Stretching, Then, Done, Carrying, Rebuilding}

pub none_due : (due : Option Refused) → ◌≡◌ {A = Result (Unit {0}) Refused} (Ok tt) (answer due tt) → due ≡ None
none_due None e = refl
none_due (Some f) e = cc

pub same_err : {A : Type 0} (due : Option Refused) (f : Refused) (v : A) → ◌≡◌ {A = Result (Unit {0}) Refused} (Err f) (answer due tt) → ◌≡◌ {A = Result A Refused} (Err f) (answer due v)
same_err None f v e = cc
same_err (Some g) f v e = cc

-- a read that is refused
pub unread : (most layer : ℕ) (home : Home) (h n : ℕ) (s z : State) (old : List ℕ) (f : Refused) → length old ≡ n
    → ◌≡◌ {A = Result (Unit {0}) Refused} (Err f) (answer (due_copy (store_in s home) (layer_in layer home) h (0 + length old)) tt) → z ≡ s → Reading most layer home h n s (Err f) z
unread most layer home h n s z old f long told same =
    let k : 0 + length old ≡ n = omega (arith, long) in
    let m = store_in s home in
    (same_err (due_copy m (layer_in layer home) h n) f _ (told ∙ ap (λ i. answer (due_copy m (layer_in layer home) h i) tt) k), same)

pub reads : (most layer : ℕ) (home : Home) (h n : ℕ) (s z : State) (old xs : List ℕ) → length old ≡ n
    → ◌≡◌ {A = Result (Unit {0}) Refused} (Ok tt) (answer (due_copy (store_in s home) (layer_in layer home) h (0 + length old)) tt)
    → xs ≡ read_into (store_in s home) (layer_in layer home) h 0 old → z ≡ s → Reading most layer home h n s (Ok xs) z
reads most layer home h n s z old xs long told out same =
    let due = none_due _ told in
    let m = store_in s home in
    let k : 0 + length old ≡ n = omega (arith, long) in
    let got : xs ≡ take n (bytes_of m h) = out ∙ ap (λ d. unless d old (take (length old) (drop 0 (bytes_of m h)))) due ∙ ap (λ i. take i (bytes_of m h)) long in
    (ap Ok got ∙ ap (λ d. answer d (take n (bytes_of m h))) (sym (ap (due_copy m (layer_in layer home) h) (sym k) ∙ due)), same)

-- the state of a mini store has a host as any
pub steady : {X : Type 0} {K : Ghosts X} → ((x : X) → Lawful K.MOST (K.meaning x)) → (m : MiniStore X K) → Lawful K.MOST m.state.0.host
steady {X} {K} lawful m = subst (λ (x : State). Lawful K.MOST x.host) (sym m.state.1) (lawful m.host)

pub same_itself : (a : Home) → same_home a a ≡ true
same_itself Mini = refl
same_itself Host = refl

pub other_home : (a b : Home) → a ≢ b → same_home a b ≡ false
other_home Mini Mini n = absurd (n refl)
other_home Mini Host n = refl
other_home Host Mini n = refl
other_home Host Host n = absurd (n refl)

-- which way a chain is rebuilt
module _ (most layer : ℕ) (p : Plan) (s z : State) (r : Result ℕ Refused) where
  pub by_stretching : p.want ≢ 0 → p.have ≢ 0 → p.from ≡ p.to → Then most layer (Stretching most layer p.to p.start p.have p.want) (λ x. Done p.start) s r z → Rebuilding most layer p s r z
  by_stretching a b e t =
      let same : same_home p.from p.to ≡ true = ap (same_home p.from) (sym e) ∙ same_itself p.from in
      rw (ne_eqb p.want 0 a, ne_eqb p.have 0 b, same) t

  pub by_freeing : p.want ≡ 0 → p.have ≢ 0 → Then most layer (Freeing most layer p.from p.start) (λ x. Done END) s r z → Rebuilding most layer p s r z
  by_freeing a b t = rw (eq-eqb p.want 0 a, ne_eqb p.have 0 b) t

  pub by_carrying : p.want ≢ 0 → p.have ≢ 0 → p.from ≢ p.to → Carrying most layer p s r z → Rebuilding most layer p s r z
  by_carrying a b d t = rw (ne_eqb p.want 0 a, ne_eqb p.have 0 b, other_home p.from p.to d) t
