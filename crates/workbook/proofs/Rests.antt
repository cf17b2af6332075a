-- How far the end of a unit is.
-- Assumes nothing.
use Rattle.std.proofs.Common.{◌≡◌, ℕ, ◌+◌, ◌-◌, ◌*◌, ◌/◌, ◌%◌, ◌<◌, ◌≤◌, ◌≢◌, ⊎_elim, ap, ◌∙◌, add-mul, arith}
use Rattle.std.proofs.Math.Nat.{lt-div-mul-add, div-mul-le_self, lt_of_mul-lt-mul_right, mod-eq_of_lt, mod-lt, mod_self, mul_comm, one-mul, mul-le-mul_right}
use Rattle.std.proofs.lemmas.Bool.{cases_eq}
use Rattle.store.specs.Meaning.{Lawful}
use Rattle.minialloc.specs.States.{State}
use Rattle.workbook.specs.declared.homes.Home.{Home}
use Rattle.workbook.specs.Calls.{rest_of}
use Rattle.workbook.specs.Homes.{store_in}
use Rattle.workbook.proofs.Found.{some_there, small_in}
use Rattle.workbook.proofs.Turns.{unit_there}

module _ (u k : ℕ) (l : 0 < u) where
  -- the end is a whole number of units, and less than one further
  units : (p : ℕ) × (k + rest_of u k ≡ p * u)
  units = ⊎_elim
      (λ (e : k % u ≡ 0). (k / u, let z : u - k % u ≡ u = omega (arith, e) in let r : rest_of u k ≡ 0 = ap (λ x. x % u) z ∙ mod_self u in omega (arith, e, r, l, mul_comm (k / u) u)))
      (λ (d : k % u ≢ 0).
      let m : k % u < u = mod-lt k l in
      let r : rest_of u k ≡ u - k % u = mod-eq_of_lt (omega (arith, d, m)) in
      (k / u + 1, let e = add-mul (k / u) 1 u in omega (arith, r, m, l, e, one-mul u, mul_comm (k / u) u))) (cases_eq (k % u) 0)

  pub rest_less : rest_of u k < u
  rest_less = mod-lt (u - k % u) l

  pub rest_end : k + rest_of u k ≡ (k + (u - 1)) / u * u
  rest_end =
      let d = (k + (u - 1)) / u in
      let up : k + (u - 1) < d * u + u = lt-div-mul-add l in
      let down : d * u ≤ k + (u - 1) = div-mul-le_self (k + (u - 1)) u in
      let p = units.0 in
      let e : k + rest_of u k ≡ p * u = units.1 in
      let a : p < d + 1 = lt_of_mul-lt-mul_right u (omega (arith, up, rest_less, e, add-mul d 1 u, one-mul u)) in
      let b : d < p + 1 = lt_of_mul-lt-mul_right u (omega (arith, down, l, e, add-mul p 1 u, one-mul u)) in
      let same : p ≡ d = omega (arith, a, b) in
      e ∙ ap (λ x. x * u) same

  -- so it is no further than the end of a longer stream's units
  pub rest_within : (n : ℕ) → k ≤ n → k + rest_of u k ≤ (n + (u - 1)) / u * u
  rest_within n m =
      let d = (k + (u - 1)) / u in
      let c = (n + (u - 1)) / u in
      let up : n + (u - 1) < c * u + u = lt-div-mul-add l in
      let a : d < c + 1 = lt_of_mul-lt-mul_right u (omega (arith, up, m, rest_less, rest_end, add-mul c 1 u, one-mul u)) in
      let b : d * u ≤ c * u = mul-le-mul_right u (omega (arith, a)) in
      omega (arith, b, rest_end)

-- and no unit is longer than 4,096 bytes
pub rest_few : (most : ℕ) (s : State) → Lawful most s.host → (b : Home) (u k : ℕ) → u ≡ (store_in s b).unit → rest_of u k ≤ 4096
rest_few most s ok b u k e =
    let less = rest_less u k (omega (arith, some_there most s ok b, e)) in
    omega (arith, less, small_in most s ok b, unit_there s b, e)
