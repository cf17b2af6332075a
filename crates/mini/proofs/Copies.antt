-- Reading and writing a mini sector through the host, and going on to the next one.
-- Assumes nothing.
use Rattle.std.proofs.Common.{◌≡◌, ℕ, ◌+◌, ◌*◌, ◌<◌, ◌≤◌, cond, ltb, List, [], ◌∷◌, length, get_or, take, drop, Some, None, sym, refl, ap, ◌∙◌, inl, arith}
use Rattle.std.specs.List.{slice_get}
use Rattle.std.proofs.lemmas.Bool.{cond-false, le-ltb}
use Rattle.std.proofs.lemmas.Option.{slice_get-get_or}
use Rattle.links.specs.Links.{FREE, at, In}
use Rattle.links.proofs.Counts.{inside}
use Rattle.links.proofs.Paths.{used}
use Rattle.store.specs.Refusals.{unless}
use Rattle.store.specs.Meaning.{Store, bytes_of, laid, with_chain, headed, refuse, due_copy, read_into, wrote}
use Rattle.chain.specs.Units.{cell, put}
use Rattle.chain.specs.Webs.{Web, Woven, path_of, viewed}
use Rattle.chain.proofs.Joined.{in_get_d}
use Rattle.chain.proofs.Laid.{length-laid, slice_cell}
use Rattle.chain.proofs.Releases.{path_head}
use Rattle.chain.proofs.Weaves.{next_place}
use Rattle.mini.specs.Mini.{stream_at, Borne, web_of}
use Rattle.mini.proofs.States.{some_chain, wrote_yes}
use Rattle.mini.proofs.Swaps.{bytes_here, borne_same, sealed_stream}

-- the link at a place of a chain is there, and is the next place
module _ (w : Web) (ok : Woven w) (h r p : ℕ) (here : p ≡ get_or (path_of w.links h) r 0) (more : r + 1 < length (path_of w.links h)) where
  pub next_is : slice_get w.links p ≡ Some (get_or (path_of w.links h) (r + 1) 0)
  next_is =
      let d = path_head w ok h (omega arith) in
      let i : In p (path_of w.links h) = rw here (in_get_d (path_of w.links h) r (omega arith)) in
      slice_get-get_or w.links p FREE (inside w.links p (used _ h p _ d.path i).0) ∙ ap Some (ap (at w.links) here ∙ next_place w ok h r more)

module _ (m : Store) (layer p i : ℕ) (place : p * 64 + 64 ≤ length (bytes_of m (stream_at m))) where
  -- a read within a mini sector
  pub read_of_unit : (out : List ℕ) → i + length out ≤ 64 → read_into m layer (stream_at m) (p * 64 + i) out ≡ take (length out) (drop i (cell 64 (bytes_of m (stream_at m)) p))
  read_of_unit out l =
      ap (λ o. unless o out (take (length out) (drop (p * 64 + i) (bytes_of m (stream_at m))))) none ∙ sym (slice_cell 64 (bytes_of m (stream_at m)) p i (length out) l)
    where
      none : due_copy m layer (stream_at m) (p * 64 + i + length out) ≡ None
      none = ap (λ o. headed o layer (stream_at m) (cond (ltb (length (bytes_of m (stream_at m))) (p * 64 + i + length out)) (refuse 15 layer (stream_at m)) None)) (some_chain m (stream_at m) (omega (arith, place)))
          ∙ cond-false _ _ _ (le-ltb (length (bytes_of m (stream_at m))) (p * 64 + i + length out) (omega (arith, place)))

  -- a write within a mini sector
  module _ (src : List ℕ) (l : i + length src ≤ 64) where
    fits : p * 64 + i + length src ≤ length (bytes_of m (stream_at m))
    fits = omega (arith, place)

    same : length (laid (bytes_of m (stream_at m)) (p * 64 + i) src) ≡ length (bytes_of m (stream_at m))
    same = length-laid (bytes_of m (stream_at m)) src (p * 64 + i) fits

    is : wrote m layer (stream_at m) (p * 64 + i) src ≡ with_chain m (stream_at m) (Some (laid (bytes_of m (stream_at m)) (p * 64 + i) src)) m.room
    is = wrote_yes m (stream_at m) layer (p * 64 + i) src (omega (arith, place)) fits

    pub write_of_unit : (s : Store) (L S : List ℕ) → s ≡ wrote m layer (stream_at m) (p * 64 + i) src → viewed (web_of s L S) ≡ put (viewed (web_of m L S)) p i src
    write_of_unit s L S e = ap (λ z. viewed (web_of z L S)) (e ∙ is) ∙ (λ t. record {
      unit = 64;
      bytes = bytes_here m (stream_at m) (laid (bytes_of m (stream_at m)) (p * 64 + i) src) m.room t;
      path = path_of L;
      kept = L ∷ S ∷ [];
      below = sealed_stream m (laid (bytes_of m (stream_at m)) (p * 64 + i) src) t ∷ [];
    })

    pub write_borne : (s : Store) (t : ℕ) → s ≡ wrote m layer (stream_at m) (p * 64 + i) src → Borne m t → Borne s t
    write_borne s t e b = rw (e, is) (borne_same m (stream_at m) _ (inl refl) same t b)
