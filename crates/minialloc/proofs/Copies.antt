-- Reading and writing along a chain that was found: what is asked of the copying, and what it leaves.
-- Assumes nothing.
use Rattle.std.proofs.Common.{◌≡◌, ℕ, ◌+◌, ◌*◌, ◌^◌, ◌<◌, ◌≤◌, List, length, take, drop, Some, None, Ok, Result, sym, ap, ◌∙◌, subst, arith}
use Rattle.store.specs.declared.faults.Refusal.TheVariants.{PastEnd}
use Rattle.store.specs.Refusals.{Refused, refused_by, answer}
use Rattle.store.specs.Meaning.{Store, bytes_of, units_of, laid, with_chain, due_head, due_copy, read_into, wrote}
use Rattle.chain.specs.Units.{Wrote, content}
use Rattle.chain.specs.Webs.{stored, viewed, path_of}
use Rattle.chain.proofs.Dues.{told_yes, some_due, copy_no, read_done, wrote_done}
use Rattle.mini.proofs.Told.{means_open}
use Rattle.mini.proofs.Writes.{host_same, links_same, stack_same, links, stack, write_means, write_synced}
use Rattle.minialloc.specs.States.{State, meant_in, web_in, Sound, SyncedIn, Writes}
use Rattle.minialloc.specs.declared.Found.{Found}
use Rattle.minialloc.proofs.Lasting.{Lasting, Seen, still}

module _ {most : ℕ} {s z : State} {h r : ℕ} {f : Found} (a : Seen most s z h r f) where
  pub chain_here : (meant_in s).chain h ≡ Some (content (viewed (web_in z)) h)
  chain_here = ap (λ (x : Store). x.chain h) a.base.means ∙ a.chained.chain

  pub units_here : units_of (meant_in s) h ≡ f.chain.units
  units_here = ap (λ (x : Store). units_of x h) a.base.means ∙ a.chained.units

  pub units_told : ◌≡◌ {A = Result ℕ Refused} (Ok f.chain.units) (answer (due_head (meant_in s) 3 h) (units_of (meant_in s) h))
  units_told = ap Ok (sym units_here) ∙ told_yes _ (units_of (meant_in s) h) (some_due (meant_in s) 3 h _ chain_here None)

  -- a copy past its end
  pub past_due : (end : ℕ) → f.chain.units * 64 < end → due_copy (meant_in s) 3 h end ≡ Some (refused_by (record { refusal = PastEnd; layer = 3; place = h }))
  past_due end past = copy_no (meant_in s) 3 h _ chain_here end
      (omega (arith, past, ap (λ (x : Store). length (bytes_of x h)) a.base.means, ap length a.chained.bytes, a.chained.long))

  -- a copy within it
  module _ (i k : ℕ) (within : i + k ≤ f.chain.units * 64) where
    pub copy_whole : i + k ≤ length (content (viewed (web_in z)) h)
    copy_whole = omega (arith, within, a.chained.long)

    pub copy_fits : i + k < 2 ^ 32
    copy_fits = omega (arith, within, a.few)

    long : i + k ≤ length (bytes_of (stored (web_in z)) h)
    long = omega (arith, within, ap length a.chained.bytes, a.chained.long)

  pub read_yes : (i : ℕ) (out got : List ℕ) → i + length out ≤ f.chain.units * 64 → got ≡ take (length out) (drop i (content (viewed (web_in z)) h))
      → ◌≡◌ {A = Result (Unit {0}) Refused} (Ok tt) (answer (due_copy (meant_in s) 3 h (i + length out)) tt) × (got ≡ read_into (meant_in s) 3 h i out)
  read_yes i out got l is = read_done (meant_in s) (stored (web_in z)) (stored (web_in z)) 3 a.base.means h _ a.chained.chain i out got
      (long i (length out) l) (is ∙ ap (λ xs. take (length out) (drop i xs)) (sym a.chained.bytes))

  -- what is left: u is the state then
  module _ {u : State} (ok : Lasting most u) (sound : Sound u) where
    pub read_left : viewed (web_in u) ≡ viewed (web_in z) → u ≡ s
    read_left v =
        let o = sound.0 ∙ sym a.base.sound.0 in
        let b = host_same most z.host u.host a.base.lasts.lawful ok.lawful z.links z.stack u.links u.stack v in
        let c = links_same most z.host u.host a.base.lasts.lawful ok.lawful z.links z.stack u.links u.stack v in
        let d = stack_same most z.host u.host a.base.lasts.lawful ok.lawful z.links z.stack u.links u.stack v in
        (λ i. record { opened = o i; host = b i; links = c i; stack = d i }) ∙ a.base.same

    module _ (i : ℕ) (ys : List ℕ) (w : Wrote (viewed (web_in z)) (viewed (web_in u)) h i ys) where
      some : 0 < length (path_of z.links h)
      some = omega (arith, a.chained.some, a.units)

      pub write_yes : i + length ys ≤ f.chain.units * 64
          → ◌≡◌ {A = Result (Unit {0}) Refused} (Ok tt) (answer (due_copy (meant_in s) 3 h (i + length ys)) tt) × (meant_in u ≡ wrote (meant_in s) 3 h i ys)
      write_yes l = wrote_done (meant_in s) (stored (web_in z)) (meant_in u) 3 a.base.means h _ a.chained.chain i ys (long i (length ys) l)
          (means_open most u.host ok.lawful u.links u.stack ok.few ok.kept u.opened sound.0 sound.1
          ∙ write_means most z.host u.host a.base.lasts.lawful ok.lawful z.links z.stack u.links u.stack a.base.lasts.few a.base.lasts.kept a.base.sound.1 sound.1 h i ys w a.chained.head some
          ∙ ap (λ xs. with_chain (stored (web_in z)) h (Some (laid xs i ys)) (web_in z).room) (sym a.chained.bytes))

      pub write_writes : Writes s h i ys (Ok tt) u
      write_writes = subst (λ x. Writes x h i ys (Ok tt) u) a.base.same (
        sound.0 ∙ sym a.base.sound.0,
        links most z.host u.host a.base.lasts.lawful ok.lawful z.links z.stack u.links u.stack a.base.lasts.few a.base.lasts.kept a.base.sound.1 sound.1 h i ys w a.chained.head some,
        stack most z.host u.host a.base.lasts.lawful ok.lawful z.links z.stack u.links u.stack a.base.lasts.few a.base.lasts.kept a.base.sound.1 sound.1 h i ys w a.chained.head some,
        w,
      )

      pub write_sound : SyncedIn s → SyncedIn u
      write_sound k = write_synced most z.host u.host a.base.lasts.lawful ok.lawful z.links z.stack u.links u.stack a.base.lasts.few a.base.lasts.kept a.base.sound.1 sound.1 h i ys w a.chained.head some (still a.base.same k)
