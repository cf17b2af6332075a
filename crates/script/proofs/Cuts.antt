-- A text that is cut into pieces by a scan of its bytes: F w cs is the pieces of the bytes cs, after the bytes w of the
-- first.
-- Assumes nothing.
use Rattle.std.proofs.Common.{◌≡◌, ℕ, ◌+◌, ◌-◌, ◌<◌, ◌≤◌, List, [], ◌∷◌, ◌++◌, length, get_or, take, drop, IsUtf8, sym, ap, ◌∙◌, arith}
use Rattle.std.specs.Str.{IsCharBoundary}
use Rattle.std.proofs.lemmas.List.{append-nil, append_assoc, at_drop_more, at_drop_all, take_more, take_rest, get_or-drop, length-drop}
use Rattle.std.proofs.lemmas.Str.{IsCharBoundary-after_ascii}

-- the bytes of the piece at hand, and those one byte longer
abbrev pub held : List ℕ → ℕ → ℕ → List ℕ
held text start i = take (i - start) (drop start text)

longer : (text : List ℕ) (start i : ℕ) → start ≤ i → i < length text → held text start i ++ get_or text i 0 ∷ [] ≡ held text start (i + 1)
longer text start i s l =
    let far : i - start < length (drop start text) = rw length-drop (omega arith) in
    let one : i - start + 1 ≡ i + 1 - start = omega arith in
    let same : start + (i - start) ≡ i = omega arith in
    ap (λ x. held text start i ++ x ∷ []) (sym (get_or-drop start text (i - start) 0 ∙ ap (λ k. get_or text k 0) same))
    ∙ sym (take_more (drop start text) (i - start) 0 far) ∙ ap (λ n. take n (drop start text)) one

-- before place i: the pieces so far, and those of what is left, are all; the text may be cut where the piece at hand starts
abbrev pub State : (List ℕ → List ℕ → List (List ℕ)) → List ℕ → ℕ → ℕ → List (List ℕ) → Type 0
State F text i start ps = (ps ++ F (held text start i) (drop i text) ≡ F [] text) × (start ≤ i) × IsCharBoundary text start

module _ (F : List ℕ → List ℕ → List (List ℕ)) (text : List ℕ) (i start : ℕ) (ps : List (List ℕ)) (st : State F text i start ps) where
  here : i < length text → ps ++ F (held text start i) (get_or text i 0 ∷ drop (i + 1) text) ≡ F [] text
  here l = ap (λ t. ps ++ t) (sym (at_drop_more (F (held text start i)) text i 0 l)) ∙ st.0

  -- a byte that ends the piece
  pub ended : i < length text → get_or text i 0 < 128 → IsUtf8 text → (qs rs : List (List ℕ))
      → F (held text start i) (get_or text i 0 ∷ drop (i + 1) text) ≡ qs ++ F [] (drop (i + 1) text) → rs ≡ ps ++ qs → State F text (i + 1) (i + 1) rs
  ended l low u qs rs f e =
      let none : i + 1 - (i + 1) ≡ 0 = omega arith in (
        ap (λ n. rs ++ F (take n (drop (i + 1) text)) (drop (i + 1) text)) none ∙ ap (λ us. us ++ F [] (drop (i + 1) text)) e
            ∙ append_assoc ps qs _ ∙ ap (λ t. ps ++ t) (sym f) ∙ here l,
        omega arith,
        IsCharBoundary-after_ascii text i u l low,
      )

  -- a byte of the piece
  pub grown : i < length text
      → F (held text start i) (get_or text i 0 ∷ drop (i + 1) text) ≡ F (held text start i ++ get_or text i 0 ∷ []) (drop (i + 1) text)
      → State F text (i + 1) start ps
  grown l f =
      (ap (λ w. ps ++ F w (drop (i + 1) text)) (sym (longer text start i st.1 l)) ∙ ap (λ t. ps ++ t) (sym f) ∙ here l, omega arith, st.2)

  -- a byte behind which there is no piece
  pub stopped : i < length text → F (held text start i) (get_or text i 0 ∷ drop (i + 1) text) ≡ [] → ps ≡ F [] text
  stopped l f = sym (append-nil ps) ∙ ap (λ t. ps ++ t) (sym f) ∙ here l

  -- the end of the text
  pub passed : length text ≡ i → (qs rs : List (List ℕ)) → F (drop start text) [] ≡ qs → rs ≡ ps ++ qs → rs ≡ F [] text
  passed n qs rs f e =
      e ∙ ap (λ t. ps ++ t) (sym f)
      ∙ ap (λ w. ps ++ F w []) (sym (take_rest text start) ∙ ap (λ k. take (k - start) (drop start text)) n)
      ∙ sym (ap (λ t. ps ++ t) (at_drop_all (F (held text start i)) text i (omega arith))) ∙ st.0
