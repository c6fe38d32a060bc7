-- "More culprits as more certificates come in" (document 02, item 3), over an honest unit's whole list: every seat that a certificate shares
-- with the first one held is guilty, if the two conflict; each guilty seat stands in one pack, so that a later pack names only new seats; and
-- every pack is of the new form, and accepted. How many packs there are is at the end of `Once`, and the first one's seats are in `Blamed`.
-- Assumes nothing.
use Rattle.std.specs.Prelude.{◌≡◌, refl, ◌⊎◌, ℕ}
use Rattle.std.proofs.Common.{sym, subst, inl, inr, arith}
use mathlib.Core.List.{List, ◌∷◌, ◌++◌, Memᴰ}
use Rattle.std.proofs.Math.Logic.{⊎_elim}
use Rattle.quorum.specs.Quorum.{In, has}
use Rattle.protocol.specs.Message.{Entry, ValuesEach, Full, Evidence, render, read, entry_seats}
use Rattle.protocol.specs.Certificate.{certificate_of}
use Rattle.protocol.specs.CertificateLaws.{in_set}
use Rattle.protocol.specs.declared.Record.{Record}
use Rattle.round.specs.Round.{Setting, IsHonest, Each, Boat, result_of, now_of, list_of, StepGiven, Accepted}
use Rattle.round.specs.Demand1.{worth, count}
use Rattle.round.specs.Culprits.{HeardCertificate, OwnCertificate, pack_names, SharedAreGuilty, GuiltyInFirst, GuiltyOnce, OnlyNew, WritesNewForm, PacksAccepted, MoreCulprits}
use Rattle.reading.specs.ListsLaws.{worth_le_one, count_append, count_pos}
use Rattle.claims.specs.Sound.{Any, NAMED, Held, Pairs}
use Rattle.claims.specs.PacksLaws.{pack-names}
use Rattle.claims.specs.Parts.{held-grows, guilty-held}
use Rattle.claims.specs.Whole.{full-held}
use Rattle.claims.specs.Journey.{Worthy, any-worthy}
use Rattle.claims.specs.Opened.{opened-outside}
use Rattle.claims.specs.Units.{end_of, trip, end-n, end-round, marked_at_end, writes-good, by_messages, step_end}
use Rattle.claims.specs.Safe.{pack_cases}
use Rattle.claims.specs.Made.{accepted-mask}

module _ (S : Setting) (u : Boat) (honest : IsHonest S u) where
  open S use {n, round, checks}

  abbrev any : Each (Worthy S Any) (list_of S u)
  any = any-worthy S (list_of S u)

  abbrev end : Record
  end = end_of S u honest

  -- ---- the seats that are guilty

  -- after a certificate that a step took, one is held; it has the same value, or the seats that the two share are guilty
  pub heard-held : (bytes : List ℕ) (g : StepGiven S u bytes) → (result_of S g.call).refusal ≡ 0 → (ρ sender : ℕ) (layout : List ℕ) (es : List Entry) → read n bytes ≡ Full ρ sender layout es
      → Held layout (certificate_of layout es).seats end
  heard-held bytes g q ρ sender layout es reads =
      let seats = (certificate_of layout es).seats in
      step_end S u honest bytes g q (Full ρ sender layout es) reads (Held layout seats) (held-grows layout seats) (λ s z room settled b. full-held checks Any s z room settled ρ sender layout es b)

  -- "each certificate that conflicts with the first one held adds the seats that it shares"
  pub shared_are_guilty_lem : SharedAreGuilty S u
  unfolding entry_seats certificate_of
  shared_are_guilty_lem layout seat other certificate first = go certificate
    where
      of_held : (seats : ℕ) → Held layout seats end → In seat seats → In seat end.guilty
      of_held seats held i = ⊎_elim (λ same. absurd (other (sym same))) (λ compared. compared seat first i) held.1

      go : HeardCertificate S u layout seat ⊎ OwnCertificate S u layout seat → In seat end.guilty
      go (inl h) =
          of_held (certificate_of layout h.entries).seats (heard-held h.bytes h.given h.unrefused h.ρ h.sender layout h.entries h.is_full)
          ((in_set seat (entry_seats (Full h.ρ h.sender layout h.entries))).1 (subst (λ m. Memᴰ seat (entry_seats m)) h.is_full h.stands))
      go (inr o) = of_held end.own.collected (subst (λ v. Held v end.own.collected end) o.own ((trip S u honest Any any).settled.holds o.confirmed)) o.stands

  -- no seat is guilty without standing in the first certificate held
  pub guilty_in_first : GuiltyInFirst S u
  guilty_in_first = guilty-held checks Any end (now_of S u).store (trip S u honest Any any).sound

  -- ---- the packs that name them

  -- a guilty seat stands in one pack that the unit's list writes, and any other seat in none
  pub guilty-once : GuiltyOnce S u
  guilty-once ms a seat = by_messages S u honest (λ xs. count (pack_names seat) xs ≡ worth (has seat end.guilty)) (marked_at_end S u honest Any any (NAMED seat)) ms a

  -- "EVIDENCE is written for those newly found": a pack names no seat that one before it names
  pub only-new : OnlyNew S u
  only-new before later m a is earlier d is' seat e e' =
      absurd (omega (
        arith,
        guilty-once (before ++ m ∷ later) a seat,
        worth_le_one (has seat end.guilty),
        count_append (pack_names seat) before (m ∷ later),
        count_pos (pack_names seat) before earlier d (pack-names seat earlier is' e),
        count_pos (pack_names seat) (m ∷ later) m (Memᴰ.head refl) (pack-names seat m is e'),
      ))

  -- "Evidence becomes 0x07": a unit writes no other
  pub writes-new-form : WritesNewForm S u
  writes-new-form ρ form entries w = (writes-good S u honest Any any (Evidence ρ form entries) w).1

  -- every unit accepts each pack that the unit's list writes
  pub packs-accepted : PacksAccepted S u
  packs-accepted evidence w =
      rw w.bytes
      (pack_cases checks Any end (λ m. Accepted S (render m)) w.message w.kind (writes-good S u honest Any any w.message w.writes)
      (λ ps z. subst (λ ρ. Accepted S (render (Evidence ρ ValuesEach ps))) (sym (end-round S u honest Any any)) (accepted-mask S (opened-outside S u honest) ps (subst (λ i. Pairs checks Any i ps) (end-n S u honest Any any) z)).0))

-- ---- the claim

pub more_culprits : (S : Setting) (u : Boat) → IsHonest S u → MoreCulprits S u
more_culprits S u honest = record {
  shared = shared_are_guilty_lem S u honest;
  in_first = guilty_in_first S u honest;
  once = guilty-once S u honest;
  only_new = only-new S u honest;
  new_form = writes-new-form S u honest;
  accepted = packs-accepted S u honest;
}
