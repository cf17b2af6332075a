-- Assumes nothing.
use Rattle.std.proofs.Common.{◌≡◌, ℕ, ◌+◌, ◌-◌, ◌<◌, true, ◌&&◌, ◌==◌, false, List, ◌++◌, map, length, get_or, take, drop, vec_items, IsUtf8, sym, refl, ap, ◌∙◌, arith}
use Rattle.std.proofs.Math.Bool.{and-false}
use Rattle.std.proofs.lemmas.List.{length-drop, length-take}
use Rattle.std.proofs.lemmas.Str.{IsCharBoundary-start}
use Rattle.std.proofs.lemmas.Bool.{cond-true, cond-false, ne_eqb, eq-eqb}
use Rattle.std.proofs.lemmas.Bool.Decides.{nat_tests}
use Rattle.script.specs.Lines.{blank, closed, comments, words_after, words_of}
use Rattle.script.proofs.Cuts.{held, State, ended, grown, stopped, passed}
use Rattle.script.proofs.lines.words_of.Goals as goal

blank_ascii : (c : ℕ) → blank c ≡ true → c < 128
blank_ascii c e = grind (arith, nat_tests)

-- t is the line as bytes
module _ (line t : List ℕ) (same : t ≡ line) (i start : ℕ) (l : i < length line) (ws : List (List ℕ)) (st : State words_after line i start ws) where
  past : true ≡ blank (get_or t i 0) → IsUtf8 line → (vs : List (List ℕ)) → vs ≡ ws ++ closed (held line start i) → State words_after line (i + 1) (i + 1) vs
  past b u vs e =
      let at : blank (get_or line i 0) ≡ true = sym (rw same at b) in
      ended words_after line i start ws st l (blank_ascii (get_or line i 0) at) u _ vs (cond-true _ _ _ at) e

  along : false ≡ blank (get_or t i 0) → comments (held line start i) (get_or line i 0) ≡ false → State words_after line (i + 1) start ws
  along b h = grown words_after line i start ws st l (cond-false _ _ _ (sym (rw same at b)) ∙ cond-false _ _ _ h)

  apart : (start ≡ i → ⊥) → comments (held line start i) (get_or line i 0) ≡ false
  apart n =
      let some : 0 < length (held line start i) = rw (length-take, length-drop) (omega arith) in
      ap (λ b. b && get_or line i 0 == 35) (ne_eqb (length (held line start i)) 0 (λ e. omega (arith, some)))

  hash : false ≡ blank (get_or t i 0) → start ≡ i → get_or t i 0 ≡ 35 → ws ≡ words_of line
  hash b e h =
      let none : i - start ≡ 0 = omega arith in
      let found = ap (λ n. comments (take n (drop start line)) (get_or line i 0)) none ∙ eq-eqb (get_or line i 0) 35 (rw same at h) in
      stopped words_after line i start ws st l (cond-false _ _ _ (sym (rw same at b)) ∙ cond-true _ _ _ found)

pub loop-i-init : goal.loop-i-init
loop-i-init c =
    (ap (λ vs. map (λ x. x.now) vs ++ words_of c.args.line.now) c.new-all.ensures.items, omega arith, IsCharBoundary-start c.args.line.now c.utf8.line)

pub loop-i-preserved : goal.loop-i-preserved
loop-i-preserved c =
    let line = c.args.line.now in
    let same = c.as_bytes-byte-items.ensures.value in
    let i = c.loop-i.i in
    let start = c.loop-i.start in
    let l : i < length line = omega (arith, ap length same) in
    let ws = map (λ x. x.now) (vec_items c.loop-i.all) in
    let st : State words_after line i start ws = c.loop-i.invariant in
    elim c.if-is_blank.branch [
      | goal.then-is_blank+in_ok-close w ↦
          rw (w.start-is, w.all-is)
          (past line _ same i start l ws st w.if-is_blank.ensures c.utf8.line _
          (w.in_ok-close.ensures ∙ ap (λ v. ws ++ closed v) w.range.ensures.value))
      | goal.else-is_blank+else-start-i w ↦
          rw (w.start-is, w.all-is)
          (along line _ same i start l ws st w.if-is_blank.ensures
          (elim w.else-start-i.branch [
            | goal.else-start-i-via-then-start-i+else-byte-eq-COMMENT v ↦
                ap (λ b. length (held line start i) == 0 && b)
                (ne_eqb (get_or line i 0) 35 (λ e. v.if-byte-eq-COMMENT.false (ap (λ t. get_or t i 0) same ∙ e))) ∙ and-false _
            | goal.else-start-i-via-else-start-i v ↦ apart line _ same i start l ws st v.if-start-i.false
          ]))
    ]

pub returns-then-byte-eq-COMMENT : goal.returns-then-byte-eq-COMMENT
returns-then-byte-eq-COMMENT c =
    let same = c.as_bytes-byte-items.ensures.value in
    hash c.args.line.now _ same c.loop-i.i c.loop-i.start (omega (arith, ap length same)) _ c.loop-i.invariant
    c.if-is_blank.ensures c.if-start-i.true c.if-byte-eq-COMMENT.true

pub returns : goal.returns
returns c =
    let line = c.args.line.now in
    let ws = map (λ x. x.now) (vec_items c.loop-i.all) in
    passed words_after line c.loop-i.i c.loop-i.start ws c.loop-i.invariant (omega (arith, ap length c.as_bytes-byte-items.ensures.value))
    _ _ refl (c.in_ok-close-2.ensures ∙ ap (λ v. ws ++ closed v) c.range_from.ensures.value)
