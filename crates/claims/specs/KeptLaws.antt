-- SUBMITs kept: keeping one, and collecting them at the own submit, leave record and store sound.
-- Assumes nothing.
use Rattle.std.specs.Prelude.{◌≡◌, true, List, ltb, length}
use Rattle.std.proofs.Math.Path.{refl}
use Rattle.std.proofs.Common.{sym, ◌∙◌, arith}
use Prim.Native.Nat.{ℕ, zero, suc, ◌≤◌, ◌<◌}
use Rattle.std.proofs.Math.Decide.{ℕ_discrete}
use Rattle.std.proofs.Math.Pow.{pow_pos}
use borrow.Author.Tests.{ltb-true}
use Rattle.quorum.specs.Quorum.{k, In, has, size, with}
use Rattle.quorum.specs.QuorumLaws.{bit-empty, bit_with_other, has_true, with_lt}
use Rattle.refusal.specs.RefusalLaws.{both_true}
use Rattle.protocol.specs.Layout.{value_length, banks, slot_length, collected_bank, first_bank, kept_bank, kept_value_bank}
use Rattle.protocol.specs.LayoutLaws.{collected_bank_lem, first_bank_lem, kept_bank_lem, kept-value_bank}
use Rattle.protocol.specs.Certificate.{slot, kept_value, kept_signature, fill_kept}
use Rattle.protocol.specs.Record.{with_kept}
use Rattle.protocol.specs.Refusals.{Checks}
use Rattle.protocol.specs.Step.{State, collect, is_wanted, collect_if_wanted, keep, is_open_to, collect_kept_seat, collect_kept_below, empty_kept, collect_kept}
use Rattle.round.specs.Round.{Relation}
use Rattle.reading.specs.ListsLaws.{cond_elim}
use Rattle.claims.specs.SlotsLaws.{fill_kept-length, kept_value-fill_kept, kept_signature-fill_kept, slot-fill_kept-other}
use Rattle.claims.specs.Sound.{Room, Attested, Sound, Leads}
use Rattle.claims.specs.Parts.{in_below, leads-quiet, leads_trans, leads-refl, room-leads, collection_like, holding_like, collect-leads}

module _ (checks : Checks) (W : Relation) where
  -- ---- other kept seats

  other-kept-leads : (s : State) (kept : ℕ) (store' : List ℕ) → Sound checks W (with_kept s.unit kept) store' → length store' ≡ length s.store
      → Leads checks W 0 s (record { unit = with_kept s.unit kept; store = store'; written = s.written })
  other-kept-leads s kept store' sound long =
      let r = s.unit in
      leads-quiet checks W 0 s (record { unit = with_kept r kept; store = store'; written = s.written }) sound long
      (record { n = refl; seat = refl; round = refl; said = λ e. (e, refl); heard = λ v h. h; first = λ h. refl; guilty = λ t i. i })
      refl refl refl refl refl

  -- ---- a SUBMIT kept

  module _ (seat : ℕ) (value signature : List ℕ) (s : State) (z : Sound checks W s.unit s.store) (room : Room s) (inside : seat < s.unit.n) (v : length value ≡ value_length) (g : Attested checks W seat value signature) where
    abbrev n : ℕ
    n = s.unit.n

    abbrev store' : List ℕ
    store' = fill_kept n seat value signature s.store

    wide : length signature ≡ slot_length kept_bank
    wide = g.sized ∙ sym kept_bank_lem.1

    aside : (bank t : ℕ) → bank < length banks → t < n → (kept_value_bank ≡ bank → seat ≡ t → ⊥) → (kept_bank ≡ bank → seat ≡ t → ⊥) → slot n bank store' t ≡ slot n bank s.store t
    aside = slot-fill_kept-other n seat value signature s.store inside room v wide

    keeping_with : (t : ℕ) → In t (with seat s.unit.kept) → Attested checks W t (kept_value n store' t) (kept_signature n store' t)
    keeping_with t i = go (ℕ_discrete t seat)
      where
        go : Dec (t ≡ seat) → Attested checks W t (kept_value n store' t) (kept_signature n store' t)
        go (yes e) = rw (e, kept_value-fill_kept n seat value signature s.store inside room v wide, kept_signature-fill_kept n seat value signature s.store inside room v wide) g
        go (no d) =
            let old : In t s.unit.kept = sym (bit_with_other t seat s.unit.kept d) ∙ i in
            let l = in_below n t s.unit.kept z.kept.below old in
            rw (aside kept_value_bank t kept-value_bank.0 l (λ _ q. d (sym q)) (λ q _. omega arith), aside kept_bank t kept_bank_lem.0 l (λ q _. omega arith) (λ _ q. d (sym q)))
            (z.kept.attested t old)

    pub keep-leads : Leads checks W 0 s (keep seat value signature s)
    unfolding keep
    keep-leads =
        let r = s.unit in
        other-kept-leads s (with seat r.kept) store'
        (record {
          range = z.range;
          own = record {
            collection = collection_like checks W n r.own s.store store' z.own.collection (λ t l. aside collected_bank t collected_bank_lem.0 l (λ q _. omega arith) (λ q _. omega arith));
            unsaid = z.own.unsaid;
            said = z.own.said;
          };
          heard = z.heard;
          first = holding_like checks W n r.first r.guilty s.store store' z.first (λ t l. aside first_bank t first_bank_lem.0 l (λ q _. omega arith) (λ q _. omega arith));
          flags = z.flags;
          kept = record { below = with_lt n seat r.kept inside z.kept.below; attested = keeping_with };
        })
        (fill_kept-length n seat value signature s.store inside room v wide)

  -- ---- kept ones collected

  module _ (s : State) (z : Sound checks W s.unit s.store) where
    empty_kept-leads : Leads checks W 0 s (empty_kept s)
    unfolding empty_kept
    empty_kept-leads =
        other-kept-leads s 0 s.store
        (record {
          range = z.range;
          own = z.own;
          heard = z.heard;
          first = z.first;
          flags = z.flags;
          kept = record { below = pow_pos s.unit.n; attested = λ t i. absurd (omega (arith, bit-empty t)) };
        })
        refl

    seat-leads : (seat : ℕ) → Room s → s.unit.own.submitted ≡ true → seat < s.unit.n → Leads checks W 0 s (collect_kept_seat seat s)
    unfolding collect_kept_seat collect_if_wanted is_open_to
    seat-leads seat room said inside =
        let r = s.unit in
        let value = kept_value r.n s.store seat in
        let signature = kept_signature r.n s.store seat in
        cond_elim (Leads checks W 0 s) (is_open_to seat r) (collect_if_wanted seat value signature s) s
        (λ e.
        let both = both_true (has seat r.kept) (ltb (size r.own.collected) (k r.n)) e in
        let few = ltb-true (size r.own.collected) (k r.n) both.1 in
        cond_elim (Leads checks W 0 s) (is_wanted seat value r) (collect seat signature s) s
        (λ w. collect-leads checks W seat value signature s z room w said (λ q. absurd (omega arith)) inside (z.kept.attested seat ((has_true seat r.kept).0 both.0)))
        (λ w. leads-refl checks W s z 0))
        (λ e. leads-refl checks W s z 0)

  module _ (s : State) (z : Sound checks W s.unit s.store) (room : Room s) (said : s.unit.own.submitted ≡ true) where
    below-leads : (t : ℕ) → t ≤ s.unit.n → Leads checks W 0 s (collect_kept_below t s)
    unfolding collect_kept_below
    below-leads zero l = leads-refl checks W s z 0
    below-leads (suc t) l =
        let u = collect_kept_below t s in
        let a = below-leads t (omega arith) in
        leads_trans checks W 0 0 s u (collect_kept_seat t u) a (seat-leads u a.sound t (room-leads checks W 0 s u a room) (a.grows.said said).0 (omega (arith, a.grows.n)))

    pub collect_kept-leads : Leads checks W 0 s (collect_kept s)
    unfolding collect_kept
    collect_kept-leads =
        let u = collect_kept_below s.unit.n s in
        let a = below-leads s.unit.n (omega arith) in
        leads_trans checks W 0 0 s u (empty_kept u) a (empty_kept-leads u a.sound)

-- ---- what collecting kept ones leaves

seat-confirmed : (seat : ℕ) (s : State) → (collect_kept_seat seat s).unit.confirmed ≡ s.unit.confirmed
unfolding collect_kept_seat collect_if_wanted collect
seat-confirmed seat s =
    let P : State → Type 0 = λ x. x.unit.confirmed ≡ s.unit.confirmed in
    let value = kept_value s.unit.n s.store seat in
    let signature = kept_signature s.unit.n s.store seat in
    cond_elim P (is_open_to seat s.unit) (collect_if_wanted seat value signature s) s
    (λ e. cond_elim P (is_wanted seat value s.unit) (collect seat signature s) s (λ w. refl) (λ w. refl)) (λ e. refl)

below-confirmed : (t : ℕ) (s : State) → (collect_kept_below t s).unit.confirmed ≡ s.unit.confirmed
unfolding collect_kept_below
below-confirmed zero s = refl
below-confirmed (suc t) s = seat-confirmed t (collect_kept_below t s) ∙ below-confirmed t s

pub collect_kept-confirmed : (s : State) → (collect_kept s).unit.confirmed ≡ s.unit.confirmed
unfolding collect_kept empty_kept
collect_kept-confirmed s = below-confirmed s.unit.n s

-- "then the kept seats are empty"
pub collect_kept-emptied : (s : State) → (collect_kept s).unit.kept ≡ 0
unfolding collect_kept empty_kept
collect_kept-emptied s = refl
