-- A read of more bytes than any chain has is refused as one of one byte too many is.
-- Assumes nothing.
use Rattle.std.proofs.Common.{◌≡◌, ℕ, ◌+◌, ◌/◌, ◌<◌, ◌≤◌, min, cond, ltb, List, [], ◌∷◌, ◌++◌, length, take, drop, Some, None, Ok, Err, Option, Result, unwrap_or, sym, refl, ap, ◌∙◌, ⊎_elim, mul-le-mul, arith, rules}
use Rattle.std.proofs.lemmas.List.{length-take, length-drop, take_at}
use Rattle.std.proofs.lemmas.Bool.{cases_lt, cond-true, lt-ltb}
use borrow.Author.Tests.{tests}
use Rattle.store.specs.Meaning.{Store, Lawful, bytes_of, refuse, headed, due_copy, read_into}
use Rattle.std.specs.Result.{IsOkAnd, MatchResult}
use Rattle.store.specs.Refusals.{Refused, told, answer, unless}
use Rattle.store.specs.declared.faults.StoreFault.{StoreFault}
use Rattle.calls.specs.declared.answers.Answer.{Answer}
use Rattle.calls.specs.Answers.{Reply, reply, replied, bytes}
use Rattle.calls.proofs.answers.fetch.Goals as goal

-- the refusal that is due for a copy up to end, by the chain alone
abbrev copy : Option (List ℕ) → ℕ → ℕ → ℕ → Option Refused
copy w layer h end = headed w layer h (cond (ltb (length (unwrap_or w [])) end) (refuse 15 layer h) None)

within : (w : Option (List ℕ)) (layer h end : ℕ) → copy w layer h end ≡ None → end ≤ length (unwrap_or w [])
within None layer h end e = let z : ◌≡◌ {A = ℕ} 0 1 = cc in absurd (omega arith)
within (Some xs) layer h end e =
    ⊎_elim (λ l. let p = lt-ltb (length xs) end l in let q = sym (cond-true _ (refuse 15 layer h) None p) ∙ e in
    let z : ◌≡◌ {A = ℕ} 0 1 = cc in absurd (omega arith)) (λ l. l) (cases_lt (length xs) end)

past : (w : Option (List ℕ)) (layer h d e : ℕ) → length (unwrap_or w []) < d → length (unwrap_or w []) < e → copy w layer h d ≡ copy w layer h e
past None layer h d e p q = refl
past (Some xs) layer h d e p q = cond-true _ _ _ (lt-ltb (length xs) d p) ∙ sym (cond-true _ _ _ (lt-ltb (length xs) e q))

-- no chain has more than 4,096 units of 4,096 bytes
module _ (most : ℕ) (m : Store) (law : Lawful most m) (h : ℕ) where
  chained : (w : Option (List ℕ)) → m.chain h ≡ w → length (unwrap_or w []) ≤ 16777216
  chained None e = omega arith
  chained (Some xs) e =
      let ch = law.chains h xs e in
      let few : length xs / m.unit ≤ 4096 =
      omega (arith, law.within (h ∷ []) ((λ i. i), tt), law.few, ap (λ o. length (unwrap_or o []) / m.unit) e) in
      let product = mul-le-mul few law.small in
      omega (arith, ch.whole)

  longest : length (bytes_of m h) ≤ 16777216
  longest = chained (m.chain h) refl

abbrev Out : Type 0
Out = Result (Unit {0}) Refused

of_ok : (d : Option Refused) → ◌≡◌ {A = Out} (Ok tt) (answer d tt) → d ≡ None
of_ok None e = refl
of_ok (Some f) e = let z : ◌≡◌ {A = ℕ} 0 1 = cc in absurd (omega arith)

of_err : (d : Option Refused) (f : Refused) (xs : List ℕ) → ◌≡◌ {A = Out} (Err f) (answer d tt) → ◌≡◌ {A = Result Reply Refused} (Err f) (replied bytes (answer d xs))
of_err None f xs e = let z : ◌≡◌ {A = ℕ} 0 1 = cc in absurd (omega arith)
of_err (Some k) f xs e = cc

-- a read of n bytes into a buffer of as many, but no more than one more than any chain has
module _ (most : ℕ) (m : Store) (law : Lawful most m) (layer h at n : ℕ) (s : List ℕ) (fits : length s ≡ min n 16777217) where
  same : due_copy m layer h (at + length s) ≡ due_copy m layer h (at + n)
  same =
      let few = longest most m law h in
      ⊎_elim (λ l. past (m.chain h) layer h (at + length s) (at + n) (omega arith) (omega arith))
      (λ l. let e : length s ≡ n = omega arith in ap (λ k. due_copy m layer h (at + k)) e) (cases_lt 16777217 n)

  gives : (o items : List ℕ) (k : ℕ) → ◌≡◌ {A = Out} (Ok tt) (answer (due_copy m layer h (at + length s)) tt) → o ≡ read_into m layer h at s → k ≡ length s
      → ◌≡◌ {A = Result Reply Refused} (Ok (bytes (take k (o ++ drop (length o) items)))) (replied bytes (answer (due_copy m layer h (at + n)) (take n (drop at (bytes_of m h)))))
  gives o items k e r l =
      let none = of_ok (due_copy m layer h (at + length s)) e in
      let end = within (m.chain h) layer h (at + length s) none in
      let few = longest most m law h in
      let all : length s ≡ n = omega arith in
      let got : o ≡ take (length s) (drop at (bytes_of m h)) = r ∙ ap (λ d. unless d s (take (length s) (drop at (bytes_of m h)))) none in
      let long : length o ≡ k = ap length got ∙ rw (length-take, length-drop) (omega arith) in
      ap (λ x. Ok (bytes x)) (take_at o (drop (length o) items) k long ∙ got ∙ ap (λ j. take j (drop at (bytes_of m h))) all)
      ∙ sym (ap (λ d. replied bytes (answer d (take n (drop at (bytes_of m h))))) (sym same ∙ none))

  -- the outcome of the read, and what is made of it
  pub answers : (o items : List ℕ) (k : ℕ) (r : Result (Unit {0}) StoreFault) (q : Result Answer StoreFault) (P : Unit {0} → Answer → Type 0)
      → told r ≡ answer (due_copy m layer h (at + length s)) tt → o ≡ read_into m layer h at s → k ≡ length s
      → MatchResult r (λ x. IsOkAnd q (P x)) (λ e. q ≡ Err e) → ((x : Unit {0}) (a : Answer) → P x a → reply a ≡ bytes (take k (o ++ drop (length o) items)))
      → replied reply (told q) ≡ replied bytes (answer (due_copy m layer h (at + n)) (take n (drop at (bytes_of m h))))
  answers o items k (Ok x) (Ok a) P e b l p y = ap Ok (y x a p) ∙ gives o items k e b l
  answers o items k (Ok x) (Err f) P e b l p y = absurd p
  answers o items k (Err f) q P e b l p y = ap (λ z. replied reply (told z)) p ∙ of_err _ _ _ (e ∙ ap (λ d. answer {A = Unit {0}} d tt) same)

pub returns-clause-told : goal.returns-clause-told
returns-clause-told g c =
    answers g.S.ChainStore.MOST (g.S.ChainStore.meaning c.args.store.now) (g.S.ChainStore.lawful c.args.store.now)
    g.S.ChainStore.LAYER c.args.head c.args.at c.args.count c.as_mut_slice.result.now
    (omega (arith, c.in_ok-out.ensures.len, c.min.ensures, c.as_mut_slice.ensures.len)) c.read-read.new.out c.in_ok-out.out.items c.in_ok-out.out.len c.read-read.result c.map.result _
    c.read-read.ensures.told c.read-read.ensures.out (omega (arith, c.as_mut_slice.ensures.len)) c.map.ensures.cases (λ x a p. search (rules, tests))
