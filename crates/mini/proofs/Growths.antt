-- How many mini sectors can be taken, with and without more sectors of the host.
-- Assumes nothing.
use Rattle.std.proofs.Common.{◌≡◌, ℕ, ◌+◌, ◌-◌, ◌*◌, ◌/◌, ◌<◌, ◌≤◌, ◌⊎◌, inl, inr, ⊎_elim, arith}
use Rattle.std.proofs.lemmas.Bool.{cases_lt}
use Rattle.store.specs.Meaning.{Store, Hosted, Lawful}
use Rattle.rooms.specs.declared.Ground.{Ground}
use Rattle.rooms.specs.Rooms.{up, need, growth, taller}
use Rattle.rooms.proofs.Rooms.{Fair, fits_parts, fits_from, fits_down, growth_passes, largest_most, taller_less}
use Rattle.mini.specs.Mini.{stream_at, fat_at, ground_of, Borne, dry}
use Rattle.mini.proofs.Figures.{whole_units}

-- what can be taken without more sectors can be taken
pub dry_less : (g : Ground) → growth (dry g) ≤ growth g
dry_less g = ⊎_elim (λ l. let p = fits_parts (dry g) (growth (dry g)) (growth_passes (dry g) l) in largest_most g _ (fits_from g _ p.0 (omega (arith, p.1)))) (λ l. omega arith) (cases_lt 0 (growth (dry g)))

-- if one place more can, it needs no sector
pub dry-one : (g : Ground) → 0 < growth (dry g) → (need g 1 ≡ 0) × (g.links + 1 ≤ 4096)
dry-one g l =
    let p = fits_parts (dry g) 1 (fits_down (dry g) 1 (growth (dry g)) (growth_passes (dry g) l) (omega arith)) in
    (omega (arith, p.1), p.0)

-- and where the sectors for j places are there, so many can
pub dry-more : (g : Ground) (j : ℕ) → g.links + j ≤ 4096 → need g j ≡ 0 → j ≤ growth (dry g)
dry-more g j l n = largest_most (dry g) j (fits_from (dry g) j l (omega arith))

-- a place more takes one from both
pub one_less : (g : Ground) → 0 < growth (dry g) → (growth (taller g 1) + 1 ≡ growth g) × (growth (dry (taller g 1)) + 1 ≡ growth (dry g))
one_less g l = let p = dry-one g l in (taller_less g 1 p.0 p.1, taller_less (dry g) 1 p.0 p.1)

-- the bytes that one place more has
pub one-fits : (g : Ground) → (g.unit ≡ 512) ⊎ (g.unit ≡ 4096) → need g 1 ≡ 0 → (4 * (g.links + 1) ≤ g.fats * g.unit) × (64 * (g.root + 1) ≤ g.minis * g.unit)
one-fits g (inl e) n = go g.unit e n
  where
    go : (u : ℕ) → u ≡ 512 → (up (g.links + 1) (u / 4) - g.fats) + (up (g.root + 1) (u / 64) - g.minis) ≡ 0 → (4 * (g.links + 1) ≤ g.fats * u) × (64 * (g.root + 1) ≤ g.minis * u)
    go u q h = let k : (g.links + 1 + 127) / 128 - g.fats + ((g.root + 1 + 7) / 8 - g.minis) ≡ 0 = rw q at h in rw q (omega (arith, k), omega (arith, k))
one-fits g (inr e) n = go g.unit e n
  where
    go : (u : ℕ) → u ≡ 4096 → (up (g.links + 1) (u / 4) - g.fats) + (up (g.root + 1) (u / 64) - g.minis) ≡ 0 → (4 * (g.links + 1) ≤ g.fats * u) × (64 * (g.root + 1) ≤ g.minis * u)
    go u q h = let k : (g.links + 1 + 1023) / 1024 - g.fats + ((g.root + 1 + 63) / 64 - g.minis) ≡ 0 = rw q at h in rw q (omega (arith, k), omega (arith, k))

-- the bytes that are there are enough
pub fair_from : (g : Ground) → (g.unit ≡ 512) ⊎ (g.unit ≡ 4096) → g.links ≤ 4096 → 4 * g.links ≤ g.fats * g.unit → 64 * g.root ≤ g.minis * g.unit → Fair g
fair_from g u few a b = record { size = u; few = few; table = one u a; stream = two u b }
  where
    one : (g.unit ≡ 512) ⊎ (g.unit ≡ 4096) → 4 * g.links ≤ g.fats * g.unit → up g.links (g.unit / 4) ≤ g.fats
    one (inl e) h = let k : 4 * g.links ≤ g.fats * 512 = rw e at h in rw e (omega (arith, k))
    one (inr e) h = let k : 4 * g.links ≤ g.fats * 4096 = rw e at h in rw e (omega (arith, k))

    two : (g.unit ≡ 512) ⊎ (g.unit ≡ 4096) → 64 * g.root ≤ g.minis * g.unit → up g.root (g.unit / 64) ≤ g.minis
    two (inl e) h = let k : 64 * g.root ≤ g.minis * 512 = rw e at h in rw e (omega (arith, k))
    two (inr e) h = let k : 64 * g.root ≤ g.minis * 4096 = rw e at h in rw e (omega (arith, k))

-- of a host that bears a table of t links out
pub borne_fair : (most : ℕ) (s : Store) (t : ℕ) → Lawful most s → Hosted s → t ≤ 4096 → Borne s t → Fair (ground_of s t)
borne_fair most s t ok h few b = fair_from (ground_of s t) h.unit few
    (omega (arith, b.table, whole_units most s ok (fat_at s))) (omega (arith, b.inside, whole_units most s ok (stream_at s)))
