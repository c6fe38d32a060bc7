-- The order of the table's numbers. Every call answers the first number in it whose condition holds; "over two certificates, the
-- first one's 9 to 14 come before the second's", and over two packs the first one's 9 to 15 (document 02, item 5). The numbers of document 01 rise in this order, and so, as it says, "The lowest number
-- whose condition holds is returned"; 17, which only reading a note answers, "comes before 4" (document 02, item 2);
-- 18 and 19, which only the dispatcher's calls answer, "come after 4, in that order" (document 02, item 6; `dispatch_claims/specs/Answers`).
-- Assumes nothing.
use Rattle.std.specs.Prelude.{ℕ, ◌≡◌, true, false}
use Rattle.std.proofs.Math.Path.{refl, ap}
use Rattle.std.proofs.Common.{◌∙◌}
use mathlib.Core.List.{List, [], ◌∷◌, ◌++◌, map}
use Rattle.refusal.specs.Refusal.{first_of, numbers, nonzero, ◌before◌}
use Rattle.refusal.specs.RefusalLaws.{both_true, first_of_before}
use Rattle.refusal.specs.Order.{is_in, distinct, follows, held, first_in}
use Rattle.refusal.specs.OrderLaws.{first_of_in_order}
use Rattle.refusal.specs.Lowest.{rise_from, rise, Lowest}
use Rattle.refusal.specs.LowestLaws.{first_of-lowest, rise_in}
use Rattle.protocol.specs.Layout.{out_length, evidence_out_length, joined_out_length}
use Rattle.protocol.specs.Message.{read}
use Rattle.protocol.specs.Refusals.{Condition, Checks, every, SIZE, SEAT, ROUND, NOTE, RECORD, KEYS, STORE, OUT, SAID, GARBLED, OTHER_ROUND, STRANGER, DISORDER, SIGNATURE, NO_CONFLICT_IN, NO_CONFLICT_BETWEEN, KEY_MATERIAL, outside_conditions, record_conditions, message_conditions, certificate_conditions, two_conditions, pack_conditions, joined_conditions, opening_conditions, submit_conditions, step_conditions, evidence_conditions, making_conditions, lower_conditions, joining_conditions, check_conditions, make_key_conditions, sign_conditions, write_note_conditions, read_note_conditions}
use Rattle.protocol.specs.Signatures.{check_signature, make_key_refusal, make_key, sign_refusal, sign}
use Rattle.protocol.specs.Calls as calls
use Rattle.protocol.specs.declared.Record.{Record}

-- ---- the order

unfoldable pub order : List ℕ
order = 1 ∷ 2 ∷ 3 ∷ 17 ∷ 4 ∷ 5 ∷ 6 ∷ 7 ∷ 8 ∷ 9 ∷ 10 ∷ 11 ∷ 12 ∷ 14 ∷ 15 ∷ 16 ∷ 18 ∷ 19 ∷ []

-- "Number 13 no longer occurs" (document 02, item 1)
pub no_thirteen : is_in 13 order ≡ false
unfolding order is_in
no_thirteen = refl

order-distinct : distinct order ≡ true
unfolding order distinct is_in
order-distinct = refl

-- 18, lane, and 19, full: the rows are the dispatcher's (`dispatch/specs/Calls`)
abbrev pub of_dispatcher : List ℕ
of_dispatcher = 18 ∷ 19 ∷ []

-- document 01's numbers keep their order, in which they rise
unfoldable pub of_document01 : List ℕ
of_document01 = 1 ∷ 2 ∷ 3 ∷ 4 ∷ 5 ∷ 6 ∷ 7 ∷ 8 ∷ 9 ∷ 10 ∷ 11 ∷ 12 ∷ 14 ∷ 15 ∷ 16 ∷ []

pub of_document01_in_order : follows order of_document01 ≡ true
unfolding order of_document01 follows
of_document01_in_order = refl

of_document01-rises : rise of_document01 ≡ true
unfolding of_document01 rise rise_from
of_document01-rises = refl

-- the number is the first in the order whose condition holds, or 0 where none does
abbrev pub FirstInOrder : ℕ → List Condition → Type 0
FirstInOrder n conditions = n ≡ first_in order (held conditions)

-- in a list whose numbers follow the order, `first_of` finds the first; where they are document 01's, this is the lowest
abbrev Follows : List ℕ → List Condition → Type 0
Follows numbered conditions = follows numbered (numbers conditions) ≡ true

pub finds_first : (conditions : List Condition) → Follows order conditions → FirstInOrder (first_of conditions) conditions
finds_first conditions f = first_of_in_order order conditions order-distinct f

finds_lowest : (conditions : List Condition) → Follows of_document01 conditions → Lowest (first_of conditions) conditions
finds_lowest conditions f = first_of-lowest conditions (rise_in of_document01 (numbers conditions) of_document01-rises f)

-- ---- every list

-- a property of the number that `first_of` finds, in each list whose numbers follow some numbers
module _ (Is : ℕ → List Condition → Type 0) (numbered : List ℕ) where
  abbrev EachIs : List (List Condition) → Type 0
  EachIs [] = Unit {0}
  EachIs (conditions ∷ rest) = Is (first_of conditions) conditions × EachIs rest

  each : ((conditions : List Condition) → Follows numbered conditions → Is (first_of conditions) conditions)
      → (lists : List (List Condition)) → every (follows numbered) (map numbers lists) ≡ true → EachIs lists
  unfolding every
  each find [] e = tt
  each find (conditions ∷ rest) e =
      let p = both_true (follows numbered (numbers conditions)) (every (follows numbered) (map numbers rest)) e in
      (find conditions p.0, each find rest p.1)

module _
    (n seat round leaf : ℕ) (keys store value signature out key message seed I C tree bytes first second note : List ℕ) (checks : Checks)
    (r : Record)
  where
    -- the rows in the order of the table
    abbrev pub table : List Condition
    table =
        let m = read n bytes in
        SIZE n ∷ SEAT n seat ∷ ROUND round ∷ NOTE note ∷ RECORD r ∷ KEYS n keys ∷ STORE n store ∷ OUT (out_length n) out ∷ SAID r ∷ GARBLED true
        ∷ OTHER_ROUND round m ∷ STRANGER n m ∷ DISORDER m ∷ SIGNATURE checks m ∷ NO_CONFLICT_IN m ∷ KEY_MATERIAL seed I tree
        ∷ []

    -- their numbers are the order, with those of the dispatcher
    pub table-ordered : numbers table ++ of_dispatcher ≡ order
    unfolding numbers order
    table-ordered = refl

    -- over two certificates: the rows of the other arguments, and one certificate's 9 to 14
    abbrev pub making-given : List Condition
    making-given = outside_conditions n round keys ++ OUT (evidence_out_length n) out ∷ []

    abbrev pub lower-given : List Condition
    lower-given = outside_conditions n round keys

    abbrev pub of_first_lem : List Condition
    of_first_lem = certificate_conditions checks n round (read n first)

    abbrev pub of_second_lem : List Condition
    of_second_lem = certificate_conditions checks n round (read n second)

    abbrev pub of_both : List Condition
    of_both = NO_CONFLICT_BETWEEN (read n first) (read n second) ∷ []

    -- over two packs: the rows of the other arguments, and one pack's 9 to 15
    abbrev pub joining-given : List Condition
    joining-given = outside_conditions n round keys ++ OUT (joined_out_length n) out ∷ []

    abbrev pub of_first-pack : List Condition
    of_first-pack = joined_conditions checks n round (read n first)

    abbrev pub of_second-pack : List Condition
    of_second-pack = joined_conditions checks n round (read n second)

    -- the lists of all calls but reading a note, those over two certificates or packs in parts
    abbrev pub lists : List (List Condition)
    lists =
        opening_conditions n seat round keys
        ∷ submit_conditions checks keys r store value signature out
        ∷ step_conditions checks keys r store (read r.n bytes) out
        ∷ evidence_conditions checks n round keys (read n bytes)
        ∷ check_conditions key message signature
        ∷ make_key_conditions seed I tree out
        ∷ sign_conditions leaf message seed I C tree out
        ∷ write_note_conditions r out
        ∷ making-given
        ∷ lower-given
        ∷ of_first_lem
        ∷ of_second_lem
        ∷ joining-given
        ∷ of_first-pack
        ∷ of_second-pack
        ∷ []

    -- by computation: a list's numbers don't depend on its conditions
    pub lists_follow : (every (follows order) (map numbers lists) ≡ true) × (every (follows of_document01) (map numbers lists) ≡ true)
    unfolding every follows order of_document01 numbers opening_conditions submit_conditions step_conditions evidence_conditions check_conditions make_key_conditions sign_conditions write_note_conditions outside_conditions record_conditions message_conditions certificate_conditions pack_conditions joined_conditions
    lists_follow = (refl, refl)

    -- each call answers the number with this property; over two certificates, that of the other arguments comes first, then that of
    -- the first certificate, that of the second, and 15; over two packs, that of the other arguments, that of the first pack, and that of
    -- the second
    pub record Answers (Is : ℕ → List Condition → Type 0) : Type 0 where
      pub opening : Is (calls.opening n seat round keys).number (opening_conditions n seat round keys)
      pub submit : Is (calls.submit checks keys r store value signature out).refusal (submit_conditions checks keys r store value signature out)
      pub step : Is (calls.step checks keys r store bytes out).refusal (step_conditions checks keys r store (read r.n bytes) out)
      pub evidence : Is (calls.evidence_check checks n round keys bytes).number (evidence_conditions checks n round keys (read n bytes))
      pub check : Is (check_signature key message signature) (check_conditions key message signature)
      pub key_maker : Is (make_key seed I tree out).refusal (make_key_conditions seed I tree out)
      pub signer : Is (sign leaf message seed I C tree out).refusal (sign_conditions leaf message seed I C tree out)
      pub write-note : Is (calls.write_note r out).refusal (write_note_conditions r out)
      pub making : (calls.making checks n round keys first second out).refusal ≡ (first_of making-given before first_of of_first_lem before first_of of_second_lem before first_of of_both)
      pub lower : first_of (lower_conditions checks n round keys (read n first) (read n second)) ≡ (first_of lower-given before first_of of_first_lem before first_of of_second_lem before first_of of_both)
      pub parts : Is (first_of making-given) making-given × Is (first_of lower-given) lower-given × Is (first_of of_first_lem) of_first_lem × Is (first_of of_second_lem) of_second_lem
      pub joining : (calls.joining checks n round keys first second out).refusal ≡ (first_of joining-given before first_of of_first-pack before first_of of_second-pack)
      pub joining-parts : Is (first_of joining-given) joining-given × Is (first_of of_first-pack) of_first-pack × Is (first_of of_second-pack) of_second-pack

    two_before : (given : List Condition) → nonzero (numbers given) ≡ true
        → first_of (given ++ two_conditions checks n round (read n first) (read n second)) ≡ (first_of given before first_of of_first_lem before first_of of_second_lem before first_of of_both)
    unfolding two_conditions certificate_conditions message_conditions nonzero numbers
    two_before given e =
        first_of_before given _ e
        ∙ ap (λ later. first_of given before later) (first_of_before of_first_lem (of_second_lem ++ of_both) refl ∙ ap (λ later. first_of of_first_lem before later) (first_of_before of_second_lem of_both refl))

    packs_before : first_of (joining_conditions checks n round keys (read n first) (read n second) out) ≡ (first_of joining-given before first_of of_first-pack before first_of of_second-pack)
    unfolding joining_conditions joined_conditions pack_conditions message_conditions outside_conditions nonzero numbers
    packs_before =
        first_of_before joining-given (of_first-pack ++ of_second-pack) refl
        ∙ ap (λ later. first_of joining-given before later) (first_of_before of_first-pack of_second-pack refl)

    answers_each : (Is : ℕ → List Condition → Type 0) (numbered : List ℕ)
        → ((conditions : List Condition) → Follows numbered conditions → Is (first_of conditions) conditions) → every (follows numbered) (map numbers lists) ≡ true → Answers Is
    unfolding calls.opening calls.opened_by calls.submit calls.step calls.result_by calls.evidence_check calls.checked_by calls.making calls.making_by calls.joining calls.write_note calls.noting_by check_signature make_key make_key_refusal sign sign_refusal making_conditions lower_conditions outside_conditions nonzero numbers
    answers_each Is numbered find follow =
        let found = each Is numbered find lists follow in
        let two = found.1.1.1.1.1.1.1.1 in
        let packs = two.1.1.1.1 in
        record {
          opening = found.0;
          submit = found.1.0;
          step = found.1.1.0;
          evidence = found.1.1.1.0;
          check = found.1.1.1.1.0;
          key_maker = found.1.1.1.1.1.0;
          signer = found.1.1.1.1.1.1.0;
          write-note = found.1.1.1.1.1.1.1.0;
          making = two_before making-given refl;
          lower = two_before lower-given refl;
          parts = (two.0, two.1.0, two.1.1.0, two.1.1.1.0);
          joining = packs_before;
          joining-parts = (packs.0, packs.1.0, packs.1.1.0);
        }

    -- the first in the order, since each list follows it, by computation as in `lists_follow`
    pub answers : Answers FirstInOrder
    unfolding every follows order numbers opening_conditions submit_conditions step_conditions evidence_conditions check_conditions make_key_conditions sign_conditions write_note_conditions outside_conditions record_conditions message_conditions certificate_conditions pack_conditions joined_conditions
    answers = answers_each FirstInOrder order finds_first refl

    -- and reading a note, the only call that has 17
    pub answers-note : FirstInOrder (calls.read_note note).number (read_note_conditions note)
    unfolding calls.read_note calls.opened_by follows order numbers read_note_conditions
    answers-note = finds_first (read_note_conditions note) refl

    -- "The lowest number whose condition holds is returned": of document 01's numbers
    pub answers-lowest : Answers Lowest
    unfolding every follows of_document01 numbers opening_conditions submit_conditions step_conditions evidence_conditions check_conditions make_key_conditions sign_conditions write_note_conditions outside_conditions record_conditions message_conditions certificate_conditions pack_conditions joined_conditions
    answers-lowest = answers_each Lowest of_document01 finds_lowest refl
