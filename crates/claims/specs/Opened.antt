-- An honest unit's opening: what was asked of it, and the record with nothing set that it gave.
-- Assumes nothing.
use Rattle.std.specs.Prelude.{◌≡◌, refl, List, ℕ}
use Rattle.std.proofs.Common.{sym, subst}
use Rattle.std.proofs.Math.Path.{ap}
use Rattle.quorum.specs.QuorumLaws.{bit-empty, has_false}
use Rattle.refusal.specs.Refusal.{unrefused}
use Rattle.protocol.specs.Record.{fresh, InRange}
use Rattle.protocol.specs.Calls.{opened_by, opening}
use Rattle.protocol.specs.declared.Record.{Record}
use Rattle.round.specs.Round.{Setting, IsHonest, Relation, Boat}
use Rattle.round.specs.Demand1.{worth}
use Rattle.claims.specs.Sound.{Mark, SUBMITTED, CONFIRMED, SENT, NAMED, flag_of, Settled, Sound}
use Rattle.claims.specs.NotRefused.{OpeningFit, opening_not_refused, Outside}
use Rattle.claims.specs.UnrefusedLaws.{fresh-sound, fresh-settled}

fresh_flag : (n seat round : ℕ) (μ : Mark) → worth (flag_of μ (fresh n seat round)) ≡ 0
unfolding fresh worth
fresh_flag n seat round SUBMITTED = refl
fresh_flag n seat round CONFIRMED = refl
fresh_flag n seat round SENT = refl
fresh_flag n seat round (NAMED other) = rw ((has_false other 0).1 (bit-empty other))

module _ (S : Setting) (u : Boat) (honest : IsHonest S u) where
  open S use {n, round, keys, checks}

  abbrev pub start_of : Record
  start_of = (opening n u.seat round keys).unit

  pub opened-fit : OpeningFit n u.seat round keys
  opened-fit = (opening_not_refused n u.seat round keys).0 honest.opened

  pub opened-range : InRange n u.seat round
  opened-range = opened-fit.range

  pub opened-outside : Outside n round keys
  opened-outside = record { some = opened-range.some; most = opened-range.most; in_time = opened-range.dated; table = opened-fit.table }

  pub opened-fresh : start_of ≡ fresh n u.seat round
  unfolding opening opened_by unrefused
  opened-fresh = rw honest.opened

  pub start-n : start_of.n ≡ n
  unfolding fresh
  start-n = ap (λ (r : Record). r.n) opened-fresh

  pub start-seat : start_of.seat ≡ u.seat
  unfolding fresh
  start-seat = ap (λ (r : Record). r.seat) opened-fresh

  pub start-round : start_of.round ≡ round
  unfolding fresh
  start-round = ap (λ (r : Record). r.round) opened-fresh

  -- no mark is set at the start, and no seat is guilty
  pub start-unset : (μ : Mark) → worth (flag_of μ start_of) ≡ 0
  start-unset μ = rw opened-fresh (fresh_flag n u.seat round μ)

  pub start-innocent : start_of.guilty ≡ 0
  unfolding fresh
  start-innocent = ap (λ (r : Record). r.guilty) opened-fresh

  -- with any store
  pub start-sound : (W : Relation) (store : List ℕ) → Sound checks W start_of store
  start-sound W store = subst (λ r. Sound checks W r store) (sym opened-fresh) (fresh-sound checks W n u.seat round store opened-range)

  pub start-settled : Settled start_of
  start-settled = subst Settled (sym opened-fresh) (fresh-settled n u.seat round opened-range.some)
