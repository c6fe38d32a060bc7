-- The kept part of the store, which comes after the old slots: every part of a call leaves it as it is, but for keeping a SUBMIT. This
-- holds for every record and store, possible or not.
-- Assumes nothing.
use Rattle.std.specs.Prelude.{◌≡◌, Bool, true, false, cond, List, [], ◌∷◌, ℕ, zero, suc, ◌+◌, ◌-◌, ◌≤◌, ◌<◌, eqb, length, take, drop}
use Rattle.std.proofs.Math.Path.{refl, ap}
use Rattle.std.proofs.Common.{sym, subst, ◌∙◌, arith, length-take, drop-drop}
use mathlib.Core.List.Memᴰ
use Rattle.octets.specs.Octets.{part}
use Rattle.octets.specs.OctetsLaws.{length-patch, drop-patch}
use Rattle.quorum.specs.Quorum.{seats}
use Rattle.quorum.specs.QuorumLaws.{mem-seats}
use Rattle.protocol.specs.Layout.{signature_length, banks, collected_bank, first_bank, kept_bank, kept_value_bank, length_of_banks, banks_before, slot_length_in, slot_length, store_length, slot_at}
use Rattle.protocol.specs.LayoutLaws.{collected_bank_lem, kept_bank_lem}
use Rattle.protocol.specs.Message.{Entry, Submit, Notice, Full, full_form}
use Rattle.protocol.specs.Entries.{Laid}
use Rattle.protocol.specs.Certificate.{Certificate, slot, fill, fill_each, kept_value, kept_signature, own_certificate, signature_of, certificate_of, certificate_in}
use Rattle.protocol.specs.Record.{holds}
use Rattle.protocol.specs.Step.{State, write, collect, set_own_value, submit_own, is_wanted, collect_if_wanted, keep_if_first, hear_submit, is_open_to, collect_kept_seat, collect_kept_below, empty_kept, collect_kept, hear, owes_full, send_full, reply, hold, blame, blames, hold_or_blame, hear_certificate, is_complete, confirm, hear_own, confirm_if_complete, submitted, stepped}
use Rattle.round.specs.Round.{Each}
use Rattle.reading.specs.ListsLaws.{cond_elim}
use Rattle.claims.specs.Sound.{Room}

-- ---- the kept part

-- the bytes of the store from the first kept signature on
unfoldable pub kept_part : ℕ → List ℕ → List ℕ
kept_part n store = drop (slot_at n kept_bank 0) store

-- a store of the same length with the same kept part
pub record Beside (n : ℕ) (store store' : List ℕ) : Type 0 where
  pub long : length store' ≡ length store
  pub rest : kept_part n store' ≡ kept_part n store

beside-refl : (n : ℕ) (store : List ℕ) → Beside n store store
beside-refl n store = record { long = refl; rest = refl }

beside_trans : (n : ℕ) (a b c : List ℕ) → Beside n a b → Beside n b c → Beside n a c
beside_trans n a b c p q = record { long = q.long ∙ p.long; rest = q.rest ∙ p.rest }

-- the slots of the first two banks end before it
before_kept : (n bank seat : ℕ) → bank < kept_bank → seat < n → slot_at n bank seat + signature_length ≤ slot_at n kept_bank 0
unfolding slot_at slot_length slot_length_in banks banks_before length_of_banks signature_length
before_kept n zero seat b l = omega arith
before_kept n (suc zero) seat b l = omega arith
before_kept n (suc (suc bank)) seat b l = absurd (omega arith)

kept_in_store : (n : ℕ) → slot_at n kept_bank 0 ≤ store_length n
unfolding slot_at slot_length slot_length_in banks banks_before length_of_banks store_length signature_length
kept_in_store n = omega arith

-- and the slots of the last two stand in it
slot_in_kept : (n bank seat : ℕ) (store store' : List ℕ) → slot_at n kept_bank 0 ≤ slot_at n bank seat → Beside n store store' → slot n bank store' seat ≡ slot n bank store seat
unfolding slot part kept_part
slot_in_kept n bank seat store store' h p =
    let from = slot_at n kept_bank 0 in
    let d = slot_at n bank seat - from in
    let e : slot_at n bank seat ≡ from + d = omega arith in
    ap (λ (i : ℕ). take (slot_length bank) (drop i store')) e
    ∙ ap (take (slot_length bank)) (sym (drop-drop d from store') ∙ ap (drop d) p.rest ∙ drop-drop d from store)
    ∙ ap (λ (i : ℕ). take (slot_length bank) (drop i store)) (sym e)

kept_after : (n seat : ℕ) → slot_at n kept_bank 0 ≤ slot_at n kept_bank seat
unfolding slot_at
kept_after n seat = omega arith

kept-value_after : (n seat : ℕ) → slot_at n kept_bank 0 ≤ slot_at n kept_value_bank seat
unfolding slot_at slot_length slot_length_in banks banks_before length_of_banks signature_length
kept-value_after n seat = omega arith

module _ (n : ℕ) (store store' : List ℕ) (p : Beside n store store') (seat : ℕ) where
  pub kept-signature-beside : kept_signature n store' seat ≡ kept_signature n store seat
  kept-signature-beside = slot_in_kept n kept_bank seat store store' (kept_after n seat) p

  pub kept-value-beside : kept_value n store' seat ≡ kept_value n store seat
  kept-value-beside = slot_in_kept n kept_value_bank seat store store' (kept-value_after n seat) p

-- ---- slots filled

-- bytes no longer than a signature
abbrev Short : List ℕ → Type 0
Short signature = length signature ≤ signature_length

fill-beside : (n bank seat : ℕ) (signature store : List ℕ) → bank < kept_bank → seat < n → Short signature → store_length n ≤ length store → Beside n store (fill n bank seat signature store)
unfolding fill kept_part
fill-beside n bank seat signature store b l g room =
    let before = before_kept n bank seat b l in
    let inside = kept_in_store n in
    record {
      long = length-patch (slot_at n bank seat) signature store (omega arith);
      rest = drop-patch (slot_at n kept_bank 0) (slot_at n bank seat) signature store (omega arith) (omega arith);
    }

fill_each-beside : (n bank : ℕ) (f : ℕ → List ℕ) (xs store : List ℕ) → bank < kept_bank → Each (λ s. s < n) xs → ((s : ℕ) → Short (f s)) → store_length n ≤ length store → Beside n store (fill_each n bank f xs store)
unfolding fill_each
fill_each-beside n bank f [] store b l g room = beside-refl n store
fill_each-beside n bank f (x ∷ xs) store b l g room =
    let store' = fill n bank x (f x) store in
    let p = fill-beside n bank x (f x) store b (l x (Memᴰ.head refl)) (g x) room in
    beside_trans n store store' (fill_each n bank f xs store') p (fill_each-beside n bank f xs store' b (λ s d. l s (Memᴰ.tail d)) g (omega (arith, p.long)))

-- ---- the parts of a call

-- a part of a call that leaves what is kept: the seats, and the kept part of the store
pub record Aside (s s' : State) : Type 0 where
  pub n : s'.unit.n ≡ s.unit.n
  pub kept : s'.unit.kept ≡ s.unit.kept
  pub beside : Beside s.unit.n s.store s'.store

pub aside_trans : (a b c : State) → Aside a b → Aside b c → Aside a c
aside_trans a b c p q = record {
  n = q.n ∙ p.n;
  kept = q.kept ∙ p.kept;
  beside = beside_trans a.unit.n a.store b.store c.store p.beside (rw (← p.n) q.beside);
}

room-beside : (a b : State) → Aside a b → Room a → Room b
room-beside a b p room = rw (p.beside.long, p.n) room

pub aside-refl : (s : State) → Aside s s
aside-refl s = record { n = refl; kept = refl; beside = beside-refl s.unit.n s.store }

-- a part that leaves the store
aside-still : (s s' : State) → s'.unit.n ≡ s.unit.n → s'.unit.kept ≡ s.unit.kept → s'.store ≡ s.store → Aside s s'
aside-still s s' n kept e = record { n = n; kept = kept; beside = rw e (beside-refl s.unit.n s.store) }

pub collect-aside : (seat : ℕ) (signature : List ℕ) (s : State) → seat < s.unit.n → Short signature → Room s → Aside s (collect seat signature s)
unfolding collect
collect-aside seat signature s l g room =
    record { n = refl; kept = refl; beside = fill-beside s.unit.n collected_bank seat signature s.store (omega arith) l g room }

collect_if_wanted-aside : (seat : ℕ) (value signature : List ℕ) (s : State) → seat < s.unit.n → Short signature → Room s → Aside s (collect_if_wanted seat value signature s)
unfolding collect_if_wanted
collect_if_wanted-aside seat value signature s l g room =
    cond_elim (Aside s) (is_wanted seat value s.unit) (collect seat signature s) s (λ e. collect-aside seat signature s l g room) (λ e. aside-refl s)

pub submit_own-aside : (value signature : List ℕ) (s : State) → s.unit.seat < s.unit.n → Short signature → Room s → Aside s (submit_own value signature s)
unfolding submit_own write collect set_own_value
submit_own-aside value signature s l g room =
    record { n = refl; kept = refl; beside = fill-beside s.unit.n collected_bank s.unit.seat signature s.store (omega arith) l g room }

-- a slot for signatures holds no more than one
slot-short : (n bank : ℕ) (store : List ℕ) (seat : ℕ) → slot_length bank ≡ signature_length → Short (slot n bank store seat)
unfolding slot part
slot-short n bank store seat e = omega (arith, length-take (slot_length bank) (drop (slot_at n bank seat) store))

collect_kept_seat-aside : (seat : ℕ) (s : State) → seat < s.unit.n → Room s → Aside s (collect_kept_seat seat s)
unfolding collect_kept_seat
collect_kept_seat-aside seat s l room =
    let value = kept_value s.unit.n s.store seat in
    let signature = kept_signature s.unit.n s.store seat in
    cond_elim (Aside s) (is_open_to seat s.unit) (collect_if_wanted seat value signature s) s
    (λ e. collect_if_wanted-aside seat value signature s l (slot-short s.unit.n kept_bank s.store seat kept_bank_lem.1) room) (λ e. aside-refl s)

collect_kept_below-aside : (t : ℕ) (s : State) → t ≤ s.unit.n → Room s → Aside s (collect_kept_below t s)
unfolding collect_kept_below
collect_kept_below-aside zero s l room = aside-refl s
collect_kept_below-aside (suc t) s l room =
    let u = collect_kept_below t s in
    let a = collect_kept_below-aside t s (omega arith) room in
    aside_trans s u (collect_kept_seat t u) a (collect_kept_seat-aside t u (omega (arith, a.n)) (room-beside s u a room))

hear-aside : (value : List ℕ) (s : State) → Aside s (hear value s)
unfolding hear
hear-aside value s = aside-still s (hear value s) refl refl refl

reply-aside : (s : State) → Aside s (reply s)
unfolding reply send_full write
reply-aside s = cond_elim (Aside s) (owes_full s.unit) (send_full s) s (λ e. aside-still s (send_full s) refl refl refl) (λ e. aside-refl s)

module _ (c : Certificate) (g : (t : ℕ) → Short (c.signature t)) where
  hold-aside : (s : State) → Room s → Aside s (hold c s)
  unfolding hold
  hold-aside s room =
      let n = s.unit.n in
      record { n = refl; kept = refl; beside = fill_each-beside n first_bank c.signature (seats n c.seats) s.store (omega arith) (λ t d. ((mem-seats n t c.seats).0 d).0) g room }

  hold_or_blame-aside : (s : State) → Room s → Aside s (hold_or_blame c s)
  unfolding hold_or_blame blame write
  hold_or_blame-aside s room =
      cond_elim (Aside s) (holds s.unit) (cond (blames c s.unit) (blame c s) s) (hold c s)
      (λ h. cond_elim (Aside s) (blames c s.unit) (blame c s) s (λ e. aside-still s (blame c s) refl refl refl) (λ e. aside-refl s))
      (λ h. hold-aside s room)

  hear_certificate-aside : (s : State) → Room s → Aside s (hear_certificate c s)
  unfolding hear_certificate
  hear_certificate-aside s room =
      let h = hear c.value s in
      let a = aside_trans s h (reply h) (hear-aside c.value s) (reply-aside h) in
      aside_trans s (reply h) (hear_certificate c s) a (hold_or_blame-aside (reply h) (room-beside s (reply h) a room))

confirm-aside : (s : State) → Aside s (confirm s)
unfolding confirm write
confirm-aside s = aside-still s (confirm s) refl refl refl

hear_own-aside : (s : State) → Room s → Aside s (hear_own s)
unfolding hear_own own_certificate
hear_own-aside s room =
    hear_certificate-aside (own_certificate s.unit s.store) (λ t. slot-short s.unit.n collected_bank s.store t collected_bank_lem.1) s room

confirm_if_complete-aside : (s : State) → Room s → Aside s (confirm_if_complete s)
unfolding confirm_if_complete
confirm_if_complete-aside s room =
    let c = confirm-aside s in
    cond_elim (Aside s) (is_complete s.unit) (hear_own (confirm s)) (reply s)
    (λ e. aside_trans s (confirm s) (hear_own (confirm s)) c (hear_own-aside (confirm s) (room-beside s (confirm s) c room))) (λ e. reply-aside s)

-- ---- the two calls

-- submit: the seats kept are emptied, the rest stays
pub record Emptied (s s' : State) : Type 0 where
  pub n : s'.unit.n ≡ s.unit.n
  pub kept : s'.unit.kept ≡ 0
  pub beside : Beside s.unit.n s.store s'.store

pub submitted-emptied : (value signature : List ℕ) (s : State) → s.unit.seat < s.unit.n → Short signature → Room s → Emptied s (submitted value signature s)
unfolding submitted collect_kept empty_kept
submitted-emptied value signature s l g room =
    let o = submit_own value signature s in
    let b = collect_kept_below o.unit.n o in
    let p = submit_own-aside value signature s l g room in
    let q = aside_trans s o b p (collect_kept_below-aside o.unit.n o (omega arith) (room-beside s o p room)) in
    let z = confirm_if_complete-aside (empty_kept b) (room-beside s b q room) in
    record {
      n = z.n ∙ q.n;
      kept = z.kept;
      beside = beside_trans s.unit.n s.store b.store (submitted value signature s).store q.beside (subst (λ (n : ℕ). Beside n b.store (submitted value signature s).store) q.n z.beside);
    }

-- a step
entry-short : (es : List Entry) (seat : ℕ) → Laid full_form es → Short (signature_of es seat)
unfolding signature_of full_form
entry-short [] seat l = omega arith
entry-short (e ∷ es) seat l =
    cond_elim Short (eqb e.seat seat) e.signature (signature_of es seat)
    (λ q. omega (arith, (l e (Memᴰ.head refl)).0)) (λ q. entry-short es seat (λ x d. l x (Memᴰ.tail d)))

-- a SUBMIT heard after the own one, and one heard before it
module _ (ρ seat : ℕ) (value signature : List ℕ) (s : State) where
  pub stepped-late : s.unit.own.submitted ≡ true → stepped (Submit ρ seat value signature) s ≡ confirm_if_complete (collect_if_wanted seat value signature s)
  unfolding stepped hear_submit
  stepped-late said = ap (λ (b : Bool). confirm_if_complete (cond b (collect_if_wanted seat value signature s) (keep_if_first seat value signature s))) said

  pub stepped-early : s.unit.own.submitted ≡ false → stepped (Submit ρ seat value signature) s ≡ confirm_if_complete (keep_if_first seat value signature s)
  unfolding stepped hear_submit
  stepped-early unsaid = ap (λ (b : Bool). confirm_if_complete (cond b (collect_if_wanted seat value signature s) (keep_if_first seat value signature s))) unsaid

module _ (s : State) (room : Room s) where
  pub late_aside : (ρ seat : ℕ) (value signature : List ℕ) → s.unit.own.submitted ≡ true → seat < s.unit.n → Short signature → Aside s (stepped (Submit ρ seat value signature) s)
  late_aside ρ seat value signature said l g =
      let u = collect_if_wanted seat value signature s in
      let a = collect_if_wanted-aside seat value signature s l g room in
      subst (Aside s) (sym (stepped-late ρ seat value signature s said)) (aside_trans s u (confirm_if_complete u) a (confirm_if_complete-aside u (room-beside s u a room)))

  pub notice-aside : (ρ seat : ℕ) (value : List ℕ) → Aside s (stepped (Notice ρ seat value) s)
  unfolding stepped
  notice-aside ρ seat value = aside_trans s (hear value s) (reply (hear value s)) (hear-aside value s) (reply-aside (hear value s))

  pub full-aside : (ρ sender : ℕ) (value : List ℕ) (es : List Entry) → Laid full_form es → Aside s (stepped (Full ρ sender value es) s)
  unfolding stepped certificate_in certificate_of
  full-aside ρ sender value es l = hear_certificate-aside (certificate_of value es) (λ t. entry-short es t l) s room
