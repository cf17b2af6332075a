-- Opening a workbook that had been open before over the same host: the table that is read has the same chains.
-- Assumes nothing.
use mathlib.Core.Path.{fun_ext}
use Rattle.std.proofs.Common.{◌≡◌, ℕ, ◌/◌, ◌<◌, ◌≤◌, Bool, List, [], length, Some, None, Ok, Option, sym, refl, ap, ◌∙◌, subst, inl, inr, ⊎_elim, arith}
use Rattle.std.specs.Option.{unwrap_or}
use Rattle.std.proofs.lemmas.List.{get_or_past}
use Rattle.std.proofs.lemmas.Bool.{cases_lt}
use Rattle.std.proofs.lemmas.Option.{none-some}
use Rattle.links.specs.Links.{FREE, at, Head}
use Rattle.links.specs.Walk.{chain_of}
use Rattle.links.proofs.Traces.{chain_head}
use Rattle.store.specs.Meaning.{Store, Lawful, bytes_of}
use Rattle.chain.specs.Webs.{path_of}
use Rattle.mini.specs.Mini.{root_of, stream_at, fat_at, kept_part}
use Rattle.minifat.specs.Table.{table_of}
use Rattle.minialloc.specs.States.{State, meant_in, Sound, SyncedIn}
use Rattle.minialloc.proofs.Openings.{Read, table_read, read_few, read_link, read_past}
use Rattle.workbook.specs.Opening.{opened_with}
use Rattle.workbook.specs.Sights.{seen, chain_in, Unheld}
use Rattle.workbook.proofs.Effects.{same_sight, small_by}
use Rattle.workbook.proofs.Outcomes.{Strays}

-- tables that are the same but for trailing FREE links have the same chains
module _ (L M : List ℕ) (few : length L ≤ 4096) (less : length M ≤ 4096) (same : at L ≡ at M) (h : ℕ) where
  same_chain : chain_of L h ≡ chain_of M h
  same_chain = go (chain_of L h) (chain_of M h) refl refl
    where
      go : (o p : Option (List ℕ)) → chain_of L h ≡ o → chain_of M h ≡ p → o ≡ p
      go None None a b = refl
      go (Some ps) p a b = sym (sym b ∙ (chain_head M less h ps).1 (subst (λ f. Head f h ps) same ((chain_head L few h ps).0 a)))
      go None (Some ps) a b = absurd (none-some ps (sym a ∙ (chain_head L few h ps).1 (subst (λ f. Head f h ps) (sym same) ((chain_head M less h ps).0 b))))

  same_path : path_of L h ≡ path_of M h
  same_path = ap (λ o. unwrap_or o []) same_chain

-- the table that is read of the host of an open state z
module _ (z : State) (sound : Sound z) (synced : SyncedIn z) (few : length z.links ≤ 4096) (layer : ℕ) (strict : Bool) (L : List ℕ) (told : table_of z.host layer strict ≡ Ok L) where
  read : Read z.host layer L
  read = table_read z.host layer strict L told

  pub same_links : at L ≡ at z.links
  same_links = fun_ext each
    where
      r : ℕ
      r = (root_of z.host).length / 64

      n : ℕ
      n = length (bytes_of z.host (fat_at z.host)) / 4

      behind : (p : ℕ) → length z.links ≤ p → at L p ≡ at z.links p
      behind p l = ⊎_elim
          (λ (a : p < r). ⊎_elim
          (λ (b : p < n). read_link z.host layer L read p a b ∙ synced.rest (omega (arith, a, l)) p b)
          (λ b. read_past z.host layer L read p (inr b) ∙ sym (get_or_past z.links p FREE l)) (cases_lt p n))
          (λ a. read_past z.host layer L read p (inl a) ∙ sym (get_or_past z.links p FREE l)) (cases_lt p r)

      each : (p : ℕ) → at L p ≡ at z.links p
      each p = ⊎_elim
          (λ l. read_link z.host layer L read p (omega (arith, l, sound.1.links)) (omega (arith, l, sound.1.table)) ∙ synced.links p l)
          (behind p) (cases_lt p (length z.links))

  pub same_paths : (h : ℕ) → path_of L h ≡ path_of z.links h
  same_paths = same_path L z.links (read_few z.host layer L read) few same_links

  -- s is the state that the opening finds, over the same host
  module _ (most : ℕ) (lawful : Lawful most z.host) (s : State) (over : s.host ≡ z.host) (now : Sound (opened_with s L)) where
    small_same : (meant_in (opened_with s L)).chain ≡ (meant_in z).chain
    small_same = small_by most z (opened_with s L) lawful (subst (Lawful most) (sym over) lawful) sound now (fun_ext same_paths) (ap (λ m. bytes_of m (stream_at m)) over)

    pub same_seen : seen (opened_with s L) ≡ seen z
    same_seen = same_sight (seen (opened_with s L)) (seen z) (ap (λ (x : Store). x.unit) over) (ap (λ x. (kept_part x).entries) over) (ap (λ x. (kept_part x).others) over) small_same

    pub same_strays : Strays z (opened_with s L)
    same_strays = record {
      unit = ap (λ v. v.unit) same_seen;
      chain = λ b h xs e u. (ap (λ v. chain_in v b h) (sym same_seen) ∙ e, subst (λ v. Unheld v b h) same_seen u);
      places = λ h xs e u. same_paths h;
    }
