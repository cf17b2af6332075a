-- The trailing FREE links are trimmed, and their places go from the stack.
-- Assumes nothing.
use Rattle.std.proofs.Common.{◌≡◌, ℕ, ◌-◌, ◌<◌, ◌≤◌, ltb, ◌≢◌, List, length, get_or, take, reverse, filter, sym, ap, ◌∙◌, ⊎_elim, arith}
use Rattle.std.proofs.lemmas.List.{length-take, get_or-take, get_or-reverse, get_or_past}
use Rattle.std.proofs.lemmas.List.Sums.{suffix_len_is, prefix_len_passes}
use Rattle.std.proofs.lemmas.Bool.{cases_lt, lt-ltb, ltb-true, eq-eqb, eqb-true, ne_eqb}
use Rattle.links.specs.Links as links
use Rattle.links.specs.Links.{FREE, at}
use Rattle.links.specs.Stack.{trimmed}
use Rattle.links.proofs.Tables.{trim}
use Rattle.links.proofs.Stacks.{Kept}
use Rattle.links.proofs.Filters.{in_kept, kept_in, apart_kept}

-- the links from m on, all FREE, are trimmed
kept_trimmed : (L S : List ℕ) (m : ℕ) → m ≤ length L → ((k : ℕ) → m ≤ k → at L k ≡ FREE) → Kept L S
    → Kept (take m L) (filter (λ p. ltb p m) S)
kept_trimmed L S m le past k = record {
  checked = rw (trim L m past) k.checked;
  stacks = record {
    apart = apart_kept (λ p. ltb p m) S k.stacks.apart;
    free = λ q i.
        let r = in_kept (λ p. ltb p m) q S i in
        let l = ltb-true q m r.1 in
        (omega (arith, length-take m L), get_or-take m L q FREE l ∙ (k.stacks.free q r.0).1);
    all = λ q l e.
        let b : q < m = omega (arith, length-take m L) in
        kept_in (λ p. ltb p m) q S (k.stacks.all q (omega arith) (sym (get_or-take m L q FREE b) ∙ e)) (lt-ltb q m b);
  };
}

-- the links that are trimmed are FREE
pub past_trimmed : (L : List ℕ) (k : ℕ) → trimmed L ≤ k → at L k ≡ FREE
past_trimmed L k l = ⊎_elim
    (λ (h : k < length L).
    sym (get_or-reverse L (length L - 1 - k) FREE (omega arith) ∙ ap (λ j. get_or L j FREE) (omega arith)) ∙ eqb-true _ FREE (prefix_len_passes links.free (reverse L) (length L - 1 - k) FREE (omega arith)))
    (λ h. get_or_past L k FREE h) (cases_lt k (length L))

-- where a count down over trailing FREE links has come to
pub record Trimming (L : List ℕ) (n : ℕ) : Type 0 where
  pub within : n ≤ length L
  pub past : (k : ℕ) → n ≤ k → at L k ≡ FREE

module _ (L : List ℕ) (n : ℕ) (t : Trimming L n) where
  -- where it stops, before a link that is not FREE or at the first
  pub trimming_stop : (0 < n → at L (n - 1) ≢ FREE) → n ≡ trimmed L
  trimming_stop f =
      let e = suffix_len_is links.free L n FREE t.within (λ k l m. eq-eqb (at L k) FREE (t.past k l)) (λ l. ne_eqb (at L (n - 1)) FREE (f l)) in
      omega (arith, e, t.within)

-- the same by what the calls tell
pub trimmed_off : (L S L' S' : List ℕ) (m : ℕ) → Kept L S → m ≡ trimmed L → ((k : ℕ) → m ≤ k → at L k ≡ FREE)
    → L' ≡ take m L → S' ≡ filter (λ p. ltb p m) S → Kept L' S'
trimmed_off L S L' S' m k e past table places = rw (table, places) (kept_trimmed L S m (omega arith) past k)

-- so trimming leaves every link
pub trimmed_same : (L : List ℕ) → at (take (trimmed L) L) ≡ at L
trimmed_same L = trim L (trimmed L) (past_trimmed L)
