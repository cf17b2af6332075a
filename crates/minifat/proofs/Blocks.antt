-- A chain is read block by block.
-- Assumes nothing.
use Rattle.std.proofs.Common.{◌≡◌, ℕ, ◌+◌, ◌-◌, ◌*◌, ◌/◌, ◌<◌, ◌≤◌, Bool, true, false, cond, List, ◌++◌, length, get_or, take, drop, Some, None, Ok, fold, Option, sym, refl, ap, ◌∙◌, ⊎_elim, arith}
use Rattle.std.proofs.iter.runs.Lists.{fold-append}
use Rattle.std.proofs.lemmas.List.FromFn.{length-map-range_with_len, get_or-map-range_with_len}
use Rattle.std.proofs.lemmas.List.{length-append, get_or_append_left, get_or-append_right, same_lists, length-take-le, take-take, take-append-drop, drop-take}
use Rattle.std.proofs.lemmas.Bool.{cases_lt, ltb-false, ne_eqb, cond-false}
use Rattle.links.specs.Bytes.{link_in}
use Rattle.store.specs.Refusals.{Refused, answer, unless}
use Rattle.store.specs.Meaning.{Store, bytes_of, headed, due_copy, read_into}
use Rattle.mini.proofs.Links.{link_left, link_right}
use Rattle.minifat.specs.Gathered.{Gathering, none, added, gathered, due_blocks}
use Rattle.minifat.specs.Table.{all_links}

-- what an answer says of the refusal that is due
pub answer_due : {A : Type 0} (due : Option Refused) (x v : A) → Ok x ≡ answer due v → due ≡ None
answer_due None x v e = refl
answer_due (Some f) x v e = cc

-- links of bytes that are laid end to end
links_append : (xs ys : List ℕ) (n : ℕ) → length xs ≡ 4 * n → all_links (xs ++ ys) ≡ all_links xs ++ all_links ys
links_append xs ys n e = same_lists _ _ (omega (arith, whole, left, right, length-append (all_links xs) (all_links ys))) each
  where
    whole : length (all_links (xs ++ ys)) ≡ n + length ys / 4
    whole = length-map-range_with_len (link_in (xs ++ ys)) 0 _ ∙ omega (arith, length-append xs ys)

    left : length (all_links xs) ≡ n
    left = length-map-range_with_len (link_in xs) 0 _ ∙ omega arith

    right : length (all_links ys) ≡ length ys / 4
    right = length-map-range_with_len (link_in ys) 0 _

    each : (k d : ℕ) → k < length (all_links (xs ++ ys)) → get_or (all_links (xs ++ ys)) k d ≡ get_or (all_links xs ++ all_links ys) k d
    each k d l =
        get_or-map-range_with_len (link_in (xs ++ ys)) 0 _ k k d (omega (arith, whole, length-append xs ys)) (omega arith)
        ∙ ⊎_elim
        (λ b. link_left xs ys k (omega arith)
        ∙ sym (get_or_append_left (all_links xs) (all_links ys) d k (omega (arith, left)) ∙ get_or-map-range_with_len (link_in xs) 0 _ k k d (omega arith) (omega arith)))
        (λ b. link_right xs ys n k e b
        ∙ sym (get_or-append_right (all_links xs) (all_links ys) n k d left b ∙ get_or-map-range_with_len (link_in ys) 0 _ (k - n) (k - n) d (omega (arith, whole)) (omega arith)))
        (cases_lt k n)

-- n blocks of the chain of h were read from the store s, which is t now, and gathered
pub record Reading (s t : Store) (layer h n : ℕ) (g : Gathering) : Type 0 where
  pub left : t ≡ s
  pub due : due_blocks s layer h n ≡ None
  pub all : g ≡ gathered (all_links (take (n * 512) (bytes_of s h)))

headed-none : (o : Option (List ℕ)) (layer h : ℕ) (due : Option Refused) → headed o layer h due ≡ None → due ≡ None
headed-none None layer h due e = cc
headed-none (Some xs) layer h due e = e

past_none : (b : Bool) (f : Refused) → cond b (Some f) None ≡ None → b ≡ false
past_none true f e = cc
past_none false f e = refl

-- blocks of the chain of h are read, rising
module _ (s : Store) (layer h : ℕ) where
  -- a copy that is accepted lies within the chain
  copy_within : (end : ℕ) → due_copy s layer h end ≡ None → end ≤ length (bytes_of s h)
  copy_within end e = ltb-false _ end (past_none _ _ (headed-none (s.chain h) layer h _ e))

  -- one block more
  pub block_more : (t t' : Store) (k at : ℕ) (g g' : Gathering) (block out : List ℕ) → Reading s t layer h k g → at ≡ k * 512 → length out ≡ 512
      → due_copy t layer h (at + length out) ≡ None → block ≡ read_into t layer h at out → t' ≡ t → g' ≡ fold added g (all_links block)
      → Reading s t' layer h (k + 1) g'
  block_more t t' k at g g' block out r a z due read kept put = record {
    left = kept ∙ r.left;
    due = cond-false _ _ _ (ne_eqb (k + 1) 0 (omega arith)) ∙ ap (due_copy s layer h) more ∙ here;
    all = put ∙ ap (λ x. fold added x (all_links block)) r.all ∙ ap (λ x. fold added (gathered (all_links (take (k * 512) (bytes_of s h)))) (all_links x)) read_is
        ∙ sym (fold-append added none (all_links (take (k * 512) (bytes_of s h))) (all_links (take 512 (drop (k * 512) (bytes_of s h)))))
        ∙ ap gathered (sym (links_append (take (k * 512) (bytes_of s h)) (take 512 (drop (k * 512) (bytes_of s h))) (k * 128) (omega (arith, length-take-le (k * 512) (bytes_of s h) (omega (arith, within))))))
        ∙ ap (λ x. gathered (all_links x)) joined;
  }
    where
      here : due_copy s layer h (at + length out) ≡ None
      here = ap (λ x. due_copy x layer h (at + length out)) (sym r.left) ∙ due

      more : (k + 1) * 512 ≡ at + length out
      more = omega arith

      within : k * 512 + 512 ≤ length (bytes_of s h)
      within = omega (arith, copy_within (at + length out) here)

      read_is : block ≡ take 512 (drop (k * 512) (bytes_of s h))
      read_is =
          read ∙ ap (λ d. unless d out (take (length out) (drop at (bytes_of t h)))) due
          ∙ ap (λ x. take (length out) (drop at (bytes_of x h))) r.left ∙ ap (λ n. take n (drop at (bytes_of s h))) z ∙ ap (λ n. take 512 (drop n (bytes_of s h))) a

      joined : take (k * 512) (bytes_of s h) ++ take 512 (drop (k * 512) (bytes_of s h)) ≡ take ((k + 1) * 512) (bytes_of s h)
      joined =
          let e : (k + 1) * 512 ≡ k * 512 + 512 = omega arith in
          rw (e, ← drop-take (k * 512) 512 (bytes_of s h), ← take-take (k * 512) (k * 512 + 512) (bytes_of s h) (omega arith)) (take-append-drop (k * 512) (take (k * 512 + 512) (bytes_of s h)))
