-- Laws of the messages that a call in a list writes.
-- Assumes nothing.
use Rattle.std.specs.Prelude.{◌≡◌, refl, ℕ, zero, suc, ◌+◌, length, drop}
use Rattle.std.proofs.Common.{sym, ap, subst, ◌∙◌, inl, inr, ⊎_elim}
use mathlib.Core.List.Memᴰ
use mathlib.Core.List.{List, [], ◌∷◌, Memᴰ}
use Rattle.std.proofs.Math.Seq.{take-append_seam}
use Rattle.octets.specs.Octets.{patch}
use Rattle.refusal.specs.Refusal.{first_of, unrefused}
use Rattle.protocol.specs.Message.{Message, render_all, read, WellFormed}
use Rattle.protocol.specs.MessageLaws.{all_append}
use Rattle.protocol.specs.Refusals.{step_conditions}
use Rattle.protocol.specs.Step.{stepped}
use Rattle.protocol.specs.Calls.{Result, result_by, start, out_after, submit, step, answer}
use Rattle.protocol.specs.declared.Record.{Record}
use Rattle.round.specs.Round.{Each, Are, Call, BySubmit, ByStep, ByThinEntry, IsStep, Setting, Called, outcome, result_of, counted, written_in, written_over, out_of}
use Rattle.reading.specs.ListsLaws.{each_nil, each_append}
use Rattle.reading.specs.Messages.{refusal_of, came_to, messages, all_messages}

pub outcome_is : (S : Setting) (c : Call) (r : Record) (store : List ℕ) → outcome S c r store ≡ result_by (refusal_of S c r store) (came_to c r store) r store
unfolding outcome refusal_of came_to submit step
outcome_is S (BySubmit value signature out) r store = refl
outcome_is S (ByStep bytes out) r store = refl
outcome_is S (ByThinEntry bytes out) r store = refl

-- refusal number and state of a step, by value or through the thin entry
pub step_is : (S : Setting) (c : Call) (bytes out : List ℕ) (r : Record) (store : List ℕ) → IsStep c bytes out
    → (refusal_of S c r store ≡ first_of (step_conditions S.checks S.keys r store (read r.n bytes) out)) × (came_to c r store ≡ stepped (read r.n bytes) (start r store))
unfolding refusal_of came_to
step_is S c bytes out r store (inl e) = (ap (λ x. refusal_of S x r store) e, ap (λ x. came_to x r store) e)
step_is S c bytes out r store (inr e) = (ap (λ x. refusal_of S x r store) e, ap (λ x. came_to x r store) e)

-- the record after a call that isn't refused
pub unrefused-unit : (S : Setting) (t : Called) → refusal_of S t.given t.unit t.store ≡ 0 → (result_of S t).unit ≡ (came_to t.given t.unit t.store).unit
unfolding result_by unrefused
unrefused-unit S t e = ap (λ (x : Result). x.unit) (outcome_is S t.given t.unit t.store) ∙ rw e

pub unrefused-result : (S : Setting) (t : Called) → (result_of S t).refusal ≡ 0
    → (refusal_of S t.given t.unit t.store ≡ 0) × ((result_of S t).unit ≡ (came_to t.given t.unit t.store).unit)
unfolding result_by
unrefused-result S t q =
    let e : refusal_of S t.given t.unit t.store ≡ 0 = sym (ap (λ (x : Result). x.refusal) (outcome_is S t.given t.unit t.store)) ∙ q in
    (e, unrefused-unit S t e)

-- a message of a list is one of a call in it, and the other way round
pub all_member : (S : Setting) (ts : List Called) (t : Called) (m : Message) → Memᴰ t ts → Memᴰ m (messages S t) → Memᴰ m (all_messages S ts)
unfolding all_messages
all_member S [] t m d e = absurd (Memᴰ.not-nil d)
all_member S (x ∷ ts) t m d e =
    ⊎_elim (λ q. Memᴰ.append_left (all_messages S ts) (subst (λ y. Memᴰ m (messages S y)) q e)) (λ q. Memᴰ.append_right (messages S x) (all_member S ts t m q e)) (Memᴰ.cases_cons d)

pub member_all : (S : Setting) (ts : List Called) (m : Message) → Memᴰ m (all_messages S ts) → (t : Called) × Memᴰ t ts × Memᴰ m (messages S t)
unfolding all_messages
member_all S [] m d = absurd (Memᴰ.not-nil d)
member_all S (x ∷ ts) m d =
    ⊎_elim (λ q. (x, Memᴰ.head refl, q)) (λ q. let r = member_all S ts m q in (r.0, Memᴰ.tail r.1, r.2)) (Memᴰ.append_cases (messages S x) d)

-- the bytes that an answer counts are those written
pub counted-written : (written out : List ℕ) → counted (length written) written out ≡ written
unfolding out_after patch
counted-written written out = take-append_seam written (drop (0 + length written) out)

unrefused-render : (refusal : ℕ) (ms : List Message) → unrefused refusal (render_all ms) [] ≡ render_all (unrefused refusal ms [])
unfolding unrefused render_all
unrefused-render zero ms = refl
unrefused-render (suc refusal) ms = refl

pub written_is : (S : Setting) (t : Called) → written_in S t ≡ render_all (messages S t)
unfolding answer result_by
written_is S t =
    counted-written (result_of S t).written (out_of t.given) ∙ ap (λ (x : Result). x.written) (outcome_is S t.given t.unit t.store)
    ∙ unrefused-render (refusal_of S t.given t.unit t.store) (came_to t.given t.unit t.store).written

-- the bytes that the calls of a list write are the messages of the calls, one after another
pub list_are : (S : Setting) (n : ℕ) (ts : List Called) → Each (λ t. Are n (written_in S t) (messages S t)) ts → Are n (written_over S ts) (all_messages S ts)
unfolding written_over all_messages render_all
list_are S n [] h = (each_nil (WellFormed n), refl)
list_are S n (t ∷ ts) h =
    let a = h t (Memᴰ.head refl) in
    let b = list_are S n ts (λ x d. h x (Memᴰ.tail d)) in (
      each_append (WellFormed n) (messages S t) (all_messages S ts) a.0 b.0,
      rw (a.1, b.1) (sym (all_append (messages S t) (all_messages S ts))),
    )
