-- What a change of links does to heads and their chains. A table before the change is a, and after it b, each as a
-- look-up function.
-- Assumes nothing.
use Rattle.std.specs.Prelude.{◌≡◌, ℕ, ◌<◌, ◌≢◌, ◌↔◌, List, [], ◌∷◌, ◌++◌}
use Rattle.links.specs.Links.{FREE, POINTERS, In, Seg, Checked, Head}

-- b is a but for the link at e, which is v
pub record Wrote (a b : ℕ → ℕ) (e v : ℕ) : Type 0 where
  pub here : b e ≡ v
  pub rest : (k : ℕ) → k ≢ e → b k ≡ a k

-- b is a with the links at the places ps made FREE
pub record Wiped (a b : ℕ → ℕ) (ps : List ℕ) : Type 0 where
  pub gone : (x : ℕ) → In x ps → b x ≡ FREE
  pub rest : (x : ℕ) → (In x ps → ⊥) → b x ≡ a x

-- but for p and q, a and b have the same heads with the same chains
abbrev pub Others : (ℕ → ℕ) → (ℕ → ℕ) → ℕ → ℕ → Type 0
Others a b p q = (k : ℕ) (qs : List ℕ) → k ≢ p → k ≢ q → Head a k qs ↔ Head b k qs

-- the free place f was taken: it is a head with a chain of its own
pub record Taken (a b : ℕ → ℕ) (f : ℕ) : Type 0 where
  pub checked : Checked b
  pub new : Head b f (f ∷ [])
  pub others : Others a b f f

-- the chain of f was put behind the last place e of the chain of h
pub record Appended (a b : ℕ → ℕ) (h f : ℕ) (es : List ℕ) (e : ℕ) (fs : List ℕ) : Type 0 where
  pub checked : Checked b
  pub longer : Head b h (es ++ e ∷ fs)
  pub inner : (qs : List ℕ) → Head b f qs → ⊥
  pub others : Others a b h f

-- the chain of h was cut off behind its place e, and what followed is the chain of q
pub record Parted (a b : ℕ → ℕ) (h : ℕ) (es : List ℕ) (e q : ℕ) (qs : List ℕ) : Type 0 where
  pub checked : Checked b
  pub left : Head b h (es ++ e ∷ [])
  pub right : Head b q (q ∷ qs)
  pub others : Others a b h q

-- the head p was freed, and what followed it is a chain of its own
pub record Freed (a b : ℕ → ℕ) (p : ℕ) (qs : List ℕ) : Type 0 where
  pub checked : Checked b
  pub gone : (ps : List ℕ) → Head b p ps → ⊥
  pub right : (q : ℕ) → a p ≡ q → q < POINTERS → Head b q qs
  pub others : Others a b p (a p)

-- the whole chain of p was freed
pub record FreedWhole (a b : ℕ → ℕ) (p : ℕ) : Type 0 where
  pub checked : Checked b
  pub gone : (qs : List ℕ) → Head b p qs → ⊥
  pub others : Others a b p p

-- a free place f was put behind the last place of the chain of h
pub record Extended (a b : ℕ → ℕ) (h f : ℕ) (ps : List ℕ) : Type 0 where
  pub checked : Checked b
  pub longer : Head b h (ps ++ f ∷ [])
  pub others : Others a b h f

-- the chain of h keeps the places ps, and those from q on were freed
pub record Shortened (a b : ℕ → ℕ) (h q : ℕ) (ps : List ℕ) : Type 0 where
  pub checked : Checked b
  pub shorter : Head b h ps
  pub others : Others a b h q

-- from h on, the places up to the link v are freed: where a loop that frees a chain has come to
pub record Wiping (a b : ℕ → ℕ) (h v : ℕ) : Type 0 where
  pub done : List ℕ
  pub way : Seg a h done v
  pub wiped : Wiped a b done
