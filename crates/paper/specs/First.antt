-- "The papers detect once; the engine's definition now says each time" (document 02, item 3): the first time comes exactly when the paper's
-- does. All seats that the two certificates share are detected then, since none was before.
-- Assumes nothing.
use Rattle.std.specs.Prelude.{ℕ, ◌≤◌, ◌≡◌, Bool, true, false, ◌&&◌, ◌↔◌}
use Rattle.std.proofs.Math.Path.{refl, sym, ap}
use Rattle.std.proofs.Common.{◌∙◌, arith}
use Rattle.std.proofs.Math.Bool.{not, and-true}
use mathlib.Core.List.Memᴰ
use mathlib.Core.List.{List, [], ◌∷◌}
use Rattle.std.proofs.Math.Option.{none}
use Rattle.std.proofs.Math.Dec.{eqb}
use borrow.Author.Tests.{ne_eqb, not-false}
use Rattle.octets.specs.Strings.{same}
use Rattle.octets.specs.StringsLaws.{same_refl}
use Rattle.quorum.specs.Quorum.{size, shared, less}
use Rattle.quorum.specs.QuorumLaws.{bit-empty, bit-less, same_seats, size-empty, k_of_n_share}
use Rattle.protocol.specs.Certificate.{set_of}
use Rattle.round.specs.Round.{Each}
use Rattle.paper.specs.Machine.{FullCertificate, pair_or, conflict, is_empty, newly, shows_more}
use Rattle.paper.specs.Memory.{seats_in}
use Rattle.paper.specs.ConflictsLaws.{other_none, other_all, conflict-head, head_none}
use Rattle.paper.specs.EntriesLaws.{set-empty, set-newly}
use Rattle.paper.specs.Rules.{Quiet}
use Rattle.paper.specs.Mirror.{Quorum}

-- two certificates conflict where their values differ
abbrev pub value_of_full : FullCertificate → List ℕ
value_of_full c = c.value

less_none : (a : ℕ) → less a 0 ≡ a
less_none a = same_seats (less a 0) a (λ s. omega (arith, bit-less s a 0, bit-empty s))

module _ (n : ℕ) (some-seats : 1 ≤ n) where
  -- two certificates share a seat, and so they show someone while none is detected
  shows_some : (c d : FullCertificate) → Quorum n c → Quorum n d → is_empty (newly [] c.entries d.entries) ≡ false
  unfolding set_of
  shows_some c d y z =
      let a = seats_in c.entries in
      let b = seats_in d.entries in
      let many = k_of_n_share n a b some-seats y.below z.below y.enough z.enough in
      sym (set-empty (newly [] c.entries d.entries)) ∙ ap (λ (m : ℕ). eqb m 0) (set-newly [] c.entries d.entries ∙ less_none (shared a b))
      ∙ ne_eqb (shared a b) 0 (λ h. let none_in = ap size h ∙ size-empty in omega arith)

  shows-conflict : (c d : FullCertificate) → Quorum n c → Quorum n d → shows_more [] c d ≡ false → same c.value d.value ≡ true
  unfolding shows_more
  shows-conflict c d y z e =
      not-false (same c.value d.value) (sym (and-true (not (same c.value d.value))) ∙ ap (λ (b : Bool). not (same c.value d.value) && not b) (sym (shows_some c d y z)) ∙ e)

  -- while no seat is detected, line 39's rule is due exactly where two certificates obtained, each of k seats, conflict
  pub first_is_the_papers : (obtained : List FullCertificate) → Each (Quorum n) obtained → Quiet [] obtained ↔ (conflict value_of_full obtained ≡ none)
  unfolding conflict pair_or shows_more
  first_is_the_papers [] q = (λ h. refl, λ h. tt)
  first_is_the_papers (c ∷ ds) q =
      let first = q c (Memᴰ.head refl) in (
        λ h. conflict-head value_of_full c ds ∙ ap (λ o. pair_or c o none) (other_all value_of_full c.value ds (λ d m. shows-conflict c d first (q d (Memᴰ.tail m)) (h d m))),
        λ h d m.
            let agree = other_none value_of_full c.value ds (head_none value_of_full c ds h) d m in
            ap (λ (b : Bool). not b && not (is_empty (newly [] c.entries d.entries))) (ap (same c.value) agree ∙ same_refl c.value),
      )
