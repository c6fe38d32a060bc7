-- A unit that only makes calls: its list is its calls, one after another, and it is honest where its opening isn't refused.
-- Assumes nothing.
use Rattle.std.specs.Prelude.{ℕ, ◌≡◌}
use Rattle.std.proofs.Common.{sym, ◌∙◌}
use Rattle.std.proofs.Math.Path.{ap}
use mathlib.Core.List.{List, [], ◌∷◌, ◌++◌, map, append-nil, append_assoc}
use Rattle.protocol.specs.Calls.{opening}
use Rattle.round.specs.Round.{Setting, Call, Called, Makes, InHand, Moment, outcome, begins, after, after_all, list_of, AllowedAll, IsHonest, unbroken, list_from}

module _ (S : Setting) (seat : ℕ) where
  open S use {n, round, keys}

  goes_on : (m : Moment) (cs : List Call) → let m' = after_all S seat m (map Makes cs) in m'.noted ++ m'.since ≡ (m.noted ++ m.since) ++ list_from S m.unit m.store cs
  unfolding after after_all list_from
  goes_on m [] = rw append-nil
  goes_on m (c ∷ cs) =
      let t : Called = record { given = c; unit = m.unit; store = m.store } in
      let rest = list_from S (outcome S c m.unit m.store).unit (outcome S c m.unit m.store).store cs in
      goes_on (after S seat m (Makes c)) cs ∙ ap (λ (ts : List Called). ts ++ rest) (sym (append_assoc m.noted m.since (t ∷ []))) ∙ append_assoc (m.noted ++ m.since) (t ∷ []) rest

  allowed : (m : Moment) (cs : List Call) → AllowedAll S seat m (map Makes cs)
  unfolding AllowedAll
  allowed m [] = tt
  allowed m (c ∷ cs) = (tt, allowed (after S seat m (Makes c)) cs)

  pub unbroken-list : (store : List ℕ) (cs : List Call) (in_hand : List InHand) → list_of S (unbroken seat store cs in_hand) ≡ list_from S (opening n seat round keys).unit store cs
  unfolding begins
  unbroken-list store cs in_hand = goes_on (begins S (unbroken seat store cs in_hand)) cs

  pub unbroken-honest : (store : List ℕ) (cs : List Call) (in_hand : List InHand) → (opening n seat round keys).number ≡ 0 → IsHonest S (unbroken seat store cs in_hand)
  unbroken-honest store cs in_hand opened = record { opened = opened; allowed = allowed (begins S (unbroken seat store cs in_hand)) cs }
