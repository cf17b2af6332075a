-- What always holds of a mini store, shut or open; and what is known of one whose figures were asked for, and of a chain that
-- was gone along. s is the state before, and z, the same, after.
-- Assumes nothing.
use Rattle.std.proofs.Common.{◌≡◌, ℕ, ◌≤◌, length, Some, Ok, sym, ap, ◌∙◌, subst}
use Rattle.links.specs.Walk.{reach}
use Rattle.links.proofs.Stacks.{Kept, kept_of, few_of}
use Rattle.store.specs.Meaning.{Hosted, Lawful}
use Rattle.chain.specs.Webs.{Woven, stored, path_of}
use Rattle.chain.proofs.Weaves.{Chained}
use Rattle.rooms.specs.declared.Ground.{Ground}
use Rattle.mini.specs.Mini.{ground_of}
use Rattle.mini.proofs.Told.{Standing, standing, Along, along, along_few}
use Rattle.minialloc.specs.States.{State, Shown, state_in, figures_in, meant_in, web_in, Sound, SyncedIn}
use Rattle.minialloc.specs.Looks.{Looks}
use Rattle.minialloc.specs.declared.Found.{Found}
use Rattle.minialloc.specs.declared.MiniStore.{MiniStore}
use Rattle.store.specs.declared.stores.ChainStore.{Ghosts}

-- its host is lawful and a host, and its stack has the FREE places of its table
pub record Lasting (most : ℕ) (s : State) : Type 0 where
  pub shown : Shown s
  pub lawful : Lawful most s.host
  pub hosted : Hosted s.host
  pub few : length s.links ≤ 4096
  pub kept : Kept s.links s.stack

abbrev pub lasting : {X : Type 0} {K : Ghosts X} → ((x : X) → Lawful K.MOST (K.meaning x)) → ((x : X) → Hosted (K.meaning x)) → (m : MiniStore X K)
    → Lasting K.MOST (state_in m.opened (K.meaning m.host) m.table)
lasting lawful hosted m = record { shown = m.state; lawful = lawful m.host; hosted = hosted m.host; few = few_of m.table.links; kept = kept_of m.table }

-- the figures were told
pub record Based (most : ℕ) (s z : State) (g : Ground) : Type 0 where
  pub same : z ≡ s
  pub lasts : Lasting most z
  pub sound : Sound z
  pub means : meant_in s ≡ stored (web_in z)
  pub ground : g ≡ ground_of z.host (length z.links)

module _ {most : ℕ} {s z : State} (ok : Lasting most z) (left : ok.shown.0 ≡ s) where
  same : z ≡ s
  same = sym ok.shown.1 ∙ left

  pub based : (g : Ground) → figures_in s ≡ Some g → Based most s z g
  based g e =
      let st : Standing z.opened z.host z.links z.stack g = standing most z.host ok.lawful z.links z.stack ok.few ok.kept z.opened g (ap figures_in same ∙ e) in
      record {
        same = same;
        lasts = ok;
        sound = (st.opened, st.borne);
        means = ap meant_in (sym same) ∙ st.means;
        ground = st.ground;
      }

-- and the chain of h was gone along
pub record Seen (most : ℕ) (s z : State) (h r : ℕ) (f : Found) : Type 0 where
  pub base : Based most s z f.ground
  pub woven : Woven (web_in z)
  pub chained : Chained (web_in z) woven h f.chain.units
  pub units : f.chain.units ≡ length (path_of z.links h)
  pub place : f.chain.place ≡ reach 0 (path_of z.links h) r
  pub few : f.chain.units ≤ 4096

module _ {most : ℕ} {s z : State} (ok : Lasting most z) (left : ok.shown.0 ≡ s) (h r : ℕ) (f : Found) where
  pub seen : Looks s h r (Ok f) → Seen most s z h r f
  seen l =
      let q : Looks z h r (Ok f) = subst (λ x. Looks x h r (Ok f)) (sym (same ok left)) l in
      let a : Along most z.host ok.lawful z.links z.stack ok.few ok.kept z.opened f.ground h r f.chain.units f.chain.place =
      along most z.host ok.lawful z.links z.stack ok.few ok.kept z.opened f.ground h r f.chain.units f.chain.place q.0 q.1 in
      record {
        base = based ok left f.ground l.0;
        woven = a.stands.woven;
        chained = a.chained;
        units = sym a.chained.path;
        place = a.place ∙ ap (λ ps. reach 0 ps r) (sym a.path);
        few = along_few most z.host ok.lawful z.links z.stack ok.few ok.kept z.opened f.ground h r f.chain.units f.chain.place a;
      }

-- where nothing changed the MiniFAT's bytes are still the links
pub still : {s z : State} → z ≡ s → SyncedIn s → SyncedIn z
still same k = subst SyncedIn (sym same) k

-- and the host still bears the table out
pub stays : {s z : State} → z ≡ s → Sound s → Sound z
stays same k = subst Sound (sym same) k
