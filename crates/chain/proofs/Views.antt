-- The same at a view: where a cursor stands, what a piece is, and writes one after another.
-- Assumes nothing.
use Rattle.std.proofs.Common.{◌≡◌, ℕ, ◌+◌, ◌-◌, ◌*◌, ◌/◌, ◌%◌, ◌<◌, ◌≤◌, ◌≢◌, List, [], ◌++◌, length, get_or, take, drop, Some, None, ⊎_elim, sym, refl, ap, ◌∙◌, lt_of_mul-lt-mul_right, zero-mul, arith}
use Rattle.std.proofs.lemmas.Bool.{lt-ltb, ltb-true, cases_lt}
use Rattle.std.proofs.lemmas.List.{length-take, length-drop, length-take-le}
use Rattle.std.proofs.lemmas.Option.{cond_some, none-some}
use Rattle.std.proofs.Math.Seq.{take-add}
use Rattle.std.proofs.lemmas.Nat.{div-add-mod', mod_below}
use borrow.Rule.Slice.PartMut.{put_mid}
use Rattle.links.specs.Links.{In}
use Rattle.store.specs.Meaning.{laid}
use Rattle.chain.specs.declared.pieces.Cursor.{Cursor}
use Rattle.chain.specs.declared.pieces.Piece.{Piece}
use Rattle.chain.specs.Units.{View, Whole, cell, content, put, at_start, piece, On, Wrote}
use Rattle.chain.proofs.Laid.{laid_none, laid-laid, length-laid, read_more}
use Rattle.chain.proofs.Joined.{in_get_d, length_units, slice_units, laid_units, joined_same, length-cell, cell_same, cell_other}

module _ (v : View) (ok : Whole v) (h : ℕ) where
  unit_whole : (q : ℕ) → In q (v.path h) → length (cell v.unit v.bytes q) ≡ v.unit
  unit_whole q i = length-cell v.unit v.bytes q (ok.inner h q i)

  pub length-content : length (content v h) ≡ length (v.path h) * v.unit
  unfolding content
  length-content = length_units (cell v.unit v.bytes) v.unit (v.path h) unit_whole

  -- an offset x within the chain, the i-th byte of the unit of rank r
  module _ (r i x : ℕ) (sum : r * v.unit + i ≡ x) (within : x < length (content v h)) where
    pub rank_in : r < length (v.path h)
    rank_in = lt_of_mul-lt-mul_right v.unit (omega (arith, length-content))

    in_path : In (get_or (v.path h) r 0) (v.path h)
    in_path = in_get_d (v.path h) r rank_in

    pub place_in : get_or (v.path h) r 0 * v.unit + v.unit ≤ length v.bytes
    place_in = ok.inner h _ in_path

    pub slice_in : (k : ℕ) → i + k ≤ v.unit → take k (drop x (content v h)) ≡ take k (drop i (cell v.unit v.bytes (get_or (v.path h) r 0)))
    unfolding content
    slice_in k m = rw (← sum) (slice_units (cell v.unit v.bytes) v.unit (v.path h) r i k unit_whole rank_in m)

    pub wrote_in : (ys : List ℕ) → i + length ys ≤ v.unit → Wrote v (put v (get_or (v.path h) r 0) i ys) h x ys
    unfolding content
    wrote_in ys m =
        let p = get_or (v.path h) r 0 in
        let others : (q : ℕ) → q ≢ p → cell v.unit (laid v.bytes (p * v.unit + i) ys) q ≡ cell v.unit v.bytes q = cell_other v.unit v.bytes p place_in i ys m in
        record {
          unit = refl;
          path = refl;
          kept = refl;
          below = refl;
          long = length-laid v.bytes ys (p * v.unit + i) (omega (arith, place_in));
          chain = laid_units (cell v.unit v.bytes) (cell v.unit (laid v.bytes (p * v.unit + i) ys)) v.unit i ys m (v.path h) r unit_whole (ok.apart h) rank_in
              (cell_same v.unit v.bytes p place_in i ys m) others ∙ ap (λ y. laid (content v h) y ys) sum;
          other = λ q n. others q (λ e. n (rw e in_path));
        }

-- the unit where an offset within the chain lies
pub units_in : (v : View) → Whole v → (h x : ℕ) → x < length (content v h) → x / v.unit < length (v.path h)
units_in v ok h x within = rank_in v ok h (x / v.unit) (x % v.unit) x (div-add-mod' x v.unit) within

-- what a piece says
pub record Lies (v : View) (c : Cursor) (n : ℕ) (p : Piece) : Type 0 where
  pub from : p.from ≡ c.done
  pub some : p.from < p.to
  pub all : p.to ≤ n
  pub inside : p.off + (p.to - p.from) ≤ v.unit
  pub unit : p.place * v.unit + v.unit ≤ length v.bytes
  pub slice : take (p.to - p.from) (drop (c.at + c.done) (content v c.head)) ≡ take (p.to - p.from) (drop p.off (cell v.unit v.bytes p.place))
  pub wrote : (ys : List ℕ) → length ys ≡ p.to - p.from → Wrote v (put v p.place p.off ys) c.head (c.at + c.done) ys

pub lies : (v : View) (c : Cursor) (n : ℕ) (p : Piece) → Whole v → c.at + n ≤ length (content v c.head) → Some p ≡ piece v c n → Lies v c n p
lies v c n p ok whole e =
    let x = c.at + c.done in
    let r = x / v.unit in
    let i = x % v.unit in
    let o = cond_some _ _ _ (sym e) in
    let more : c.done < n = ltb-true _ _ o.0 in
    let within : x < length (content v c.head) = omega arith in
    let sum : r * v.unit + i ≡ x = div-add-mod' x v.unit in
    let less : i < v.unit = mod_below x v.unit ok.some in
    rw (← o.1) (record {
      from = refl;
      some = omega arith;
      all = omega arith;
      inside = omega arith;
      unit = place_in v ok c.head r i x sum within;
      slice = slice_in v ok c.head r i x sum within _ (omega arith);
      wrote = λ ys w. wrote_in v ok c.head r i x sum within ys (omega arith);
    })

-- where no piece comes next, all is done
pub piece_none : (v : View) (c : Cursor) (n : ℕ) → None ≡ piece v c n → n ≤ c.done
piece_none v c n e = ⊎_elim (λ more. absurd (none-some _ (rw (lt-ltb c.done n more) at e))) (λ all. all) (cases_lt c.done n)

pub on_start : (v : View) → Whole v → (h a : ℕ) → On v (at_start h a)
on_start v ok h a = record { here = λ l. sym (ok.first h l); before = omega (arith, zero-mul v.unit) }

-- writes one after another
pub wrote_none : (v : View) (h a : ℕ) → Wrote v v h a []
wrote_none v h a = record { unit = refl; path = refl; kept = refl; below = refl; long = refl; chain = sym (laid_none (content v h) a); other = λ q n. refl }

pub wrote-more : (v w x : View) (h a : ℕ) (ys zs : List ℕ) → a + length ys ≤ length (content v h) → Wrote v w h a ys → Wrote w x h (a + length ys) zs → Wrote v x h a (ys ++ zs)
unfolding cell
wrote-more v w x h a ys zs l o p = record {
  unit = p.unit ∙ o.unit;
  path = p.path ∙ o.path;
  kept = p.kept ∙ o.kept;
  below = p.below ∙ o.below;
  long = p.long ∙ o.long;
  chain = rw (p.chain, o.chain) (laid-laid (content v h) ys zs a l);
  other = λ q n. (rw (o.unit, o.path) at (p.other q)) n ∙ o.other q n;
}

pub same_size : (v w : View) (h a : ℕ) (ys : List ℕ) → Wrote v w h a ys → a + length ys ≤ length (content v h) → length (content w h) ≡ length (content v h)
same_size v w h a ys o l = rw o.chain (length-laid (content v h) ys a l)

-- one turn of a write of src, of which c.done bytes are written and the piece p is: it is written so far, the chain is as long
-- as it was, and cursors stand as they did
pub wrote_turn : {v w : View} (x : View) (h a : ℕ) {n : ℕ} (src : List ℕ) {c : Cursor} {p : Piece} → n ≤ length src → a + length src ≤ length (content v h)
    → Wrote v w h a (take c.done src) → c.head ≡ h → c.at ≡ a → Lies w c n p → x ≡ put w p.place p.off (take (p.to - p.from) (drop p.from src))
    → Wrote v x h a (take p.to src) × (a + length src ≤ length (content x h)) × ((d : Cursor) → On w d → On x d)
wrote_turn {v} {w} x h a src {c} {p} few whole o head at l e =
    let d = c.done in
    let m : length (take d src) ≡ d = length-take-le d src (omega (arith, l.from, l.some, l.all)) in
    let k : length (take (p.to - p.from) (drop p.from src)) ≡ p.to - p.from = simp (length-take, length-drop) (omega (arith, l.all)) in
    let t : take p.to src ≡ take d src ++ take (p.to - d) (drop d src) =
    ap (λ i. take i src) (omega (arith, l.from, l.some)) ∙ take-add d (p.to - d) src in
    let z : Wrote w x h (a + d) (take (p.to - p.from) (drop p.from src)) = rw (e, ← head, ← at) (l.wrote _ k) in
    let y : Wrote v x h a (take p.to src) =
    rw t (wrote-more v w x h a _ _ (omega (arith, l.all, l.some, l.from)) o (rw m (rw l.from at z))) in
    let long : length (take p.to src) ≡ p.to = length-take-le p.to src (omega (arith, l.all)) in (
      y,
      rw (same_size v x h a (take p.to src) y (omega (arith, long))) whole,
      λ b on. rw e (record { here = on.here; before = on.before }),
    )

-- one turn of a read
pub read_turn : {v : View} (h a : ℕ) {n : ℕ} (out got : List ℕ) {c : Cursor} {p : Piece} → n ≤ length out
    → take c.done out ≡ take c.done (drop a (content v h)) → c.head ≡ h → c.at ≡ a → Lies v c n p
    → got ≡ take (length (take (p.to - p.from) (drop p.from out))) (drop p.off (cell v.unit v.bytes p.place))
    → take p.to (put_mid p.from (p.to - p.from) out got) ≡ take p.to (drop a (content v h))
read_turn {v} h a out got {c} {p} m r head at l e =
    let u : length (take (p.to - p.from) (drop p.from out)) ≡ p.to - p.from = simp (length-take, length-drop) (omega (arith, l.all)) in
    let bs = drop p.off (cell v.unit v.bytes p.place) in
    let q : got ≡ take (p.to - p.from) bs = e ∙ ap (λ k. take k bs) u in
    let k : length got ≡ p.to - p.from =
    ap length q ∙ simp (length-take, length-drop) (omega (arith, l.inside, length-cell v.unit v.bytes p.place l.unit)) in
    read_more out got (content v h) a p.from p.to (rw l.from r)
    (q ∙ sym l.slice ∙ (λ i. take (p.to - p.from) (drop (at i + sym l.from i) (content v (head i))))) k (omega (arith, l.some)) (omega (arith, l.all))

-- a chain that shares no place with the one written is as it was
pub other_content : (v w : View) (h k a : ℕ) (ys : List ℕ) → Wrote v w h a ys → ((q : ℕ) → In q (v.path k) → In q (v.path h) → ⊥) → content w k ≡ content v k
unfolding content
other_content v w h k a ys o n = rw (o.unit, o.path) (joined_same _ _ (v.path k) (λ q i. o.other q (n q i)))
