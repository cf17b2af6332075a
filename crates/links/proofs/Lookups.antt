-- What a look-up of a place tells.
-- Assumes nothing.
use Rattle.std.proofs.Common.{◌≡◌, ℕ, ◌<◌, ◌≤◌, List, length, Some, None, sym, ⊎_elim, arith}
use Rattle.std.specs.List.{slice_get}
use Rattle.std.proofs.lemmas.Option.{get_or_from_slice_get, slice_get-get_or, slice_get_within}
use Rattle.std.proofs.lemmas.Bool.{cases_lt}
use Rattle.links.specs.Links.{FREE, at}

pub some_link : (L : List ℕ) (p x : ℕ) → Some x ≡ slice_get L p → (p < length L) × (x ≡ at L p)
some_link L p x e = (slice_get_within L p x (sym e), sym (get_or_from_slice_get L p x FREE (sym e)))

pub no_link : (L : List ℕ) (p : ℕ) → None ≡ slice_get L p → length L ≤ p
no_link L p e = ⊎_elim
    (λ l. let f = slice_get-get_or L p FREE l in let z : ◌≡◌ {A = ℕ} 0 1 = cc in absurd (omega arith))
    (λ l. l) (cases_lt p (length L))
