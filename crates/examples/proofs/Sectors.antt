-- The MiniFAT keeps a sector that it has got.
-- Assumes nothing.
use Rattle.std.proofs.Common.{◌≡◌, ℕ, ◌+◌, ◌-◌, ◌/◌, ◌≤◌, true, count_by, List, [], ◌∷◌, ◌++◌, length, replicate, Ok, sym, refl, ap, ◌∙◌, subst, ⊎_elim, arith}
use Rattle.std.proofs.lemmas.Bool.{cases_lt}
use Rattle.std.proofs.lemmas.Option.{none-some}
use Rattle.links.specs.Links.{FREE, END, free}
use Rattle.store.specs.Meaning.{Store, Notes}
use Rattle.chain.proofs.Dues.{begin_no}
use Rattle.chain.specs.Webs.{Web}
use Rattle.rooms.specs.declared.Ground.{Ground}
use Rattle.rooms.specs.Rooms.{up, fits, growth}
use Rattle.rooms.proofs.Rooms.{fits_down, largest-fits}
use Rattle.mini.specs.Mini.{ground_of}
use Rattle.mini.specs.Steps.{shorter_root}
use Rattle.mini.proofs.Growths.{borne_fair}
use Rattle.mini.proofs.Reserves.{reserved-added}
use Rattle.minialloc.specs.States.{State, meant_in, Sound, TrimsTo}
use Rattle.workbook.specs.Homes.{BeginsIn, FreesIn}
use Rattle.workbook.specs.Sights.{home_of}
use Rattle.workbook.specs.Whole.{Meant}
use Rattle.workbook.proofs.Effects.{means_of}
use Rattle.workbook.proofs.Hosts.{begin_unit, free_unit}
use Rattle.examples.specs.Examples.{KeepsSectors}
use Rattle.examples.proofs.Chains.{tabled, at_table, links_by, stack_by, notes_below, trimmed_notes}

abbrev count : State → ℕ
count s = s.host.notes.words.count

-- a table with 128 links, and with one more
abbrev full : List ℕ
full = replicate 128 END

abbrev over : List ℕ
over = full ++ END ∷ []

-- a mini sector more, where all were in use
module _ (most layer : ℕ) (s z : State) (h : ℕ) (m : Meant most (tabled s full [])) (o : Sound (tabled s full [])) (unit : s.host.unit ≡ 512)
    (b : BeginsIn most layer (tabled s full []) (home_of 64) 1 (Ok h) z) where
  abbrev g : Ground
  g = ground_of s.host 128

  grows : 1 ≤ growth g
  grows =
      let room : (meant_in (tabled s full [])).room ≡ count_by free full + growth g = ap (λ (x : Store). x.room) (means_of most (tabled s full []) m.lawful o) in
      let none : count_by free full ≡ 0 = refl in
      ⊎_elim (λ l. absurd (none-some _ (sym b.0.0 ∙ begin_no (meant_in (tabled s full [])) 3 1 (λ e. omega (arith, e)) l)))
      (λ l. omega (arith, l, room, none)) (cases_lt (meant_in (tabled s full [])).room 1)

  fit : fits g 1 ≡ true
  fit = fits_down g 1 (growth g) (largest-fits g (borne_fair most s.host 128 m.lawful m.hosted m.few o.1)) grows

  begun_count : count z ≡ count s + (2 - count s)
  begun_count =
      let r = b.1.1 in
      let a = reserved-added most layer s.host r.0 b.1.0 m.lawful r.1 m.hosted 128 1 o.1 fit r.2 r.3 in
      ap (λ (w : Web). (notes_below w.below s.host.notes).words.count) b.1.4 ∙ a.count
      ∙ ap (λ u. count s + (up (128 + 1) (u / 4) - g.fats)) unit ∙ ap (λ n. count s + (2 - n)) (sym o.1.counted)

  begun_links : z.links ≡ over
  begun_links = links_by b.1.4

  begun_stack : z.stack ≡ []
  begun_stack = stack_by b.1.4

  begun_unit : z.host.unit ≡ 512
  begun_unit = begin_unit most layer (tabled s full []) z 1 (Ok h) b.1 ∙ unit

-- and given back
module _ (most layer : ℕ) (s z : State) (m : Meant most (tabled s over [])) (f : FreesIn layer (tabled s over []) (home_of 64) 128 (Ok tt) z) where
  left : (z.links ≡ full) × (z.stack ≡ []) × (z.host ≡ shorter_root f.1.0.host layer 1)
  left = (at_table (λ q. TrimsTo layer q z) f.1.0 (full ++ FREE ∷ []) (128 ∷ []) (links_by f.1.2) (stack_by f.1.2) f.1.3).0

  freed_count : count z ≡ count s
  freed_count =
      ap (λ (x : Notes). x.words.count)
      (trimmed_notes layer 1 f.1.0.host z.host s.host.notes m.hosted.some (ap (λ (w : Web). notes_below w.below s.host.notes) f.1.2) left.2)

pub keeps_sectors : KeepsSectors
keeps_sectors most layer s a b c h k ms ma mb os unit with_s one x y z =
    let m1 = at_table (Meant most) s full [] with_s.0 with_s.1 ms in
    let o1 = at_table Sound s full [] with_s.0 with_s.1 os in
    let x1 = at_table (λ q. BeginsIn most layer q (home_of 64) 1 (Ok h) a) s full [] with_s.0 with_s.1 x in
    let a_links = begun_links most layer s a h m1 o1 unit x1 in
    let a_stack = begun_stack most layer s a h m1 o1 unit x1 in
    let a_count : count a ≡ 2 = begun_count most layer s a h m1 o1 unit x1 ∙ ap (λ n. n + (2 - n)) one in
    let m2 = at_table (Meant most) a over [] a_links a_stack ma in
    let y1 = at_table (λ q. FreesIn layer q (home_of 64) 128 (Ok tt) b) a over [] a_links a_stack (subst (λ p. FreesIn layer a (home_of 64) p (Ok tt) b) x1.1.2 y) in
    let b_left = left most layer a b m2 y1 in
    let b_links = b_left.0 in
    let b_stack = b_left.1 in
    let b_count : count b ≡ 2 = freed_count most layer a b m2 y1 ∙ a_count in
    let b_unit : b.host.unit ≡ 512 = free_unit layer a b h (Ok tt) y.1 ∙ begun_unit most layer s a h m1 o1 unit x1 in
    let m3 = at_table (Meant most) b full [] b_links b_stack mb in
    let o3 = at_table Sound b full [] b_links b_stack (y.2.0 (x.2.0 os)) in
    let z1 = at_table (λ q. BeginsIn most layer q (home_of 64) 1 (Ok k) c) b full [] b_links b_stack z in
    let c_count : count c ≡ 2 = begun_count most layer b c k m3 o3 b_unit z1 ∙ ap (λ n. n + (2 - n)) b_count in (
      (ap length a_links, a_count),
      (ap length b_links, b_count),
      (ap length (begun_links most layer b c k m3 o3 b_unit z1), c_count),
    )
