-- Proof of `Split`'s conclusions from its premises.
-- Assumes nothing.
use Rattle.std.specs.Prelude.{ℕ, ◌≤◌, ◌<◌, ◌≡◌, Bool, false, not, ◌&&◌, ◌⊎◌, ◌≢◌, length}
use Rattle.std.proofs.Math.Path.{refl, sym, ap, subst}
use Rattle.std.proofs.Common.{ap₂, subst₂, ◌∙◌, true≢false}
use Rattle.std.proofs.Math.Bool.{true}
use Rattle.std.proofs.lemmas.Bool.{false≢true, not-false}
use mathlib.Core.List.Memᴰ
use mathlib.Core.List.{List, [], ◌∷◌, ◌++◌, map, append-nil, Memᴰ}
use Rattle.std.proofs.Math.Logic.{inl, inr, ⊎_elim}
use native.Mathlib.Omega.{arith}
use Rattle.std.proofs.Math.Decide.{ℕ_discrete}
use Rattle.std.proofs.Math.ListN.{length-map}
use Rattle.octets.specs.Strings.{same}
use Rattle.octets.specs.StringsLaws.{same_refl}
use Rattle.quorum.specs.Quorum.{k, bit, In, has, size, shared, with, seats}
use Rattle.quorum.specs.QuorumLaws.{bit_cases, has_true, bit_with_same, bit_with_other, same_seats, size-within, size_with_new, mem-seats}
use Rattle.refusal.specs.Refusal.{first_of, unrefused}
use Rattle.protocol.specs.Layout.{store_length, out_length, evidence_out_length}
use Rattle.protocol.specs.Entries.{form_seats}
use Rattle.protocol.specs.Message.{Entry, ValuesEach, Message, Submit, Notice, Full, Evidence, Garbled, Signed, render, render_all, read, round_of, entry_seats, seats_of, signed, WellFormed, full_form}
use Rattle.protocol.specs.MessageLaws.{read-render}
use Rattle.protocol.specs.CertificateLaws.{in_set, set-seats}
use Rattle.protocol.specs.Certificate.{set_of, own_certificate, certificate_of, certificate_in, entry_of, entries_of, full_of}
use Rattle.protocol.specs.Refusals.{is_for_step, is_full, is_evidence, rising, step_conditions}
use Rattle.protocol.specs.Step.{State, write, collect, is_wanted, collect_if_wanted, hear_submit, reply, is_complete, confirm, hear_own, confirm_if_complete, submitted, stepped}
use Rattle.protocol.specs.Calls.{Result, result_by, start, submit, step, making}
use Rattle.protocol.specs.declared.Record.{Record}
use Rattle.round.specs.Round.{Setting, Call, ByStep, ByThinEntry, IsStep, Makes, Make, Boat, Moment, Called, Each, Relation, EachSigned, outcome, begins, after as next-moment, after_all, list_from, list_of, IsHonest, Family, Writes, Submits, Confirms, StepGiven, Reached, MadeFrom, Delivered, MakesEvidence, making_of}
use Rattle.round.specs.Demand1.{is_notice}
use Rattle.round.specs.Demand3.{NoneForged, ReachedOthers}
use Rattle.reading.specs.ListsLaws.{cond_elim, and_false-either, worth_le_one, worth-true, true_of_worth, count_nil, each_nil, each_cons, each_one, each_append, each_map, rising_first}
use Rattle.claims.specs.Sound.{Any, SUBMITTED, CONFIRMED, Settled, Attested, Certifies, Entries, Sound, Said}
use Rattle.claims.specs.CertificatesLaws.{set-size, seats-rising, entries-laid, entry-seats, entries_of_lem}
use Rattle.claims.specs.Parts.{in_below}
use Rattle.claims.specs.Whole.{reply-stays, hearing_stays, Done, submitted-done, submitted-value}
use Rattle.reading.specs.Messages.{refusal_of, came_to}
use Rattle.reading.specs.MessagesLaws.{outcome_is, step_is}
use Rattle.reading.specs.UnbrokenLaws.{unbroken-list, unbroken-honest}
use Rattle.claims.specs.UnrefusedLaws.{possible, Taken, signed-entries, full-taken}
use Rattle.claims.specs.Journey.{last_of, WorthyGiven, Worthy, any-worthy, step-done}
use Rattle.claims.specs.Opened.{start_of, start-n, start-seat, start-round, start-unset, start-sound, start-settled}
use Rattle.claims.specs.Units.{end_of, stop, end-n, end-seat, end-round, flag_written, writes-good, pairs-formed}
use Rattle.claims.specs.NotRefused.{opening_not_refused, submit_not_refused, message_not_refused, making_not_refused}
use Rattle.claims.specs.Safe.{evidence_from, making-bytes, evidence-made, submits-end}
use Rattle.claims.specs.Made.{Accuses, made-accepted}
use Rattle.claims.specs.Claim.{demand_3_any}
use Rattle.examples.specs.Split.{Plan, certificate, submit_by, notice_of, full_by, leaders, heard, given, own_submit, calls, in_hand, boat, Splits, Split}

-- ---- sets and rising lists of seats

-- a set within another of its size is that other
sub_same : (a b : ℕ) → ((s : ℕ) → In s a → In s b) → size a ≡ size b → a ≡ b
sub_same a b h e = same_seats a b (λ s. go s (bit_cases s a) (bit_cases s b))
  where
    more : (s : ℕ) → In s b → (t : ℕ) → In t (with s a) → Dec (t ≡ s) → In t b
    more s j t i (yes q) = subst (λ x. In x b) (sym q) j
    more s j t i (no d) = h t (sym (bit_with_other t s a d) ∙ i)

    go : (s : ℕ) → (bit s a ≡ 0) ⊎ In s a → (bit s b ≡ 0) ⊎ In s b → bit s a ≡ bit s b
    go s (inl z) (inl y) = omega arith
    go s (inl z) (inr j) = absurd (omega (arith, size_with_new s a z, size-within b (with s a) (λ t i. more s j t i (ℕ_discrete t s))))
    go s (inr i) y = omega (arith, h s i)

-- rising lists of the same seats are the same
rising_same : (xs ys : List ℕ) → rising xs ≡ true → rising ys ≡ true → Each (λ s. Memᴰ s ys) xs → Each (λ s. Memᴰ s xs) ys → xs ≡ ys
rising_same [] [] p q f g = refl
rising_same [] (y ∷ ys) p q f g = absurd (Memᴰ.not-nil (g y (Memᴰ.head refl)))
rising_same (x ∷ xs) [] p q f g = absurd (Memᴰ.not-nil (f x (Memᴰ.head refl)))
rising_same (x ∷ xs) (y ∷ ys) p q f g =
    let a = rising_first x xs p in
    let b = rising_first y ys q in
    let first : x ≡ y = ⊎_elim (λ e. e) (λ d. ⊎_elim (λ e. sym e) (λ c. absurd (let l = b.1 x d in let m = a.1 y c in omega arith)) (Memᴰ.cases_cons (g y (Memᴰ.head refl)))) (Memᴰ.cases_cons (f x (Memᴰ.head refl))) in
    let rest = rising_same xs ys a.0 b.0
    (λ s d. ⊎_elim (λ e. absurd (let l = a.1 s d in omega arith)) (λ t. t) (Memᴰ.cases_cons (f s (Memᴰ.tail d))))
    (λ s d. ⊎_elim (λ e. absurd (let l = b.1 s d in omega arith)) (λ t. t) (Memᴰ.cases_cons (g s (Memᴰ.tail d)))) in
    cc

-- ---- effects of calls

-- the only case of a message that is a NOTICE
notice_cases : (Q : Message → Type 0) (m : Message) → is_notice m ≡ true → ((ρ seat : ℕ) (value : List ℕ) → Q (Notice ρ seat value)) → Q m
unfolding is_notice
notice_cases Q (Submit ρ seat value signature) e f = absurd (false≢true e)
notice_cases Q (Notice ρ seat value) e f = f ρ seat value
notice_cases Q (Full ρ sender value es) e f = absurd (false≢true e)
notice_cases Q (Evidence ρ form ps) e f = absurd (false≢true e)
notice_cases Q Garbled e f = absurd (false≢true e)

-- own value and collected seats stay at confirming
confirm-own : (s : State) → (confirm_if_complete s).unit.own ≡ s.unit.own
unfolding confirm_if_complete hear_own confirm write
confirm-own s =
    cond_elim (λ x. x.unit.own ≡ s.unit.own) (is_complete s.unit) (hear_own (confirm s)) (reply s) (λ e. (hearing_stays (own_certificate (confirm s).unit (confirm s).store) (confirm s)).own) (λ e. (reply-stays s).own)

-- the seats collected once a SUBMIT is heard, after the own submit
module _ (ρ seat : ℕ) (value signature : List ℕ) (s : State) (said : s.unit.own.submitted ≡ true) where
  abbrev after : State
  after = stepped (Submit ρ seat value signature) s

  collected-wanted : is_wanted seat value s.unit ≡ true → after.unit.own.collected ≡ with seat s.unit.own.collected
  unfolding stepped hear_submit collect_if_wanted collect
  collected-wanted w = ap (λ o. o.collected) (confirm-own (hear_submit seat value signature s)) ∙ rw (w, said)

  collected-unwanted : is_wanted seat value s.unit ≡ false → after.unit.own.collected ≡ s.unit.own.collected
  unfolding stepped hear_submit collect_if_wanted
  collected-unwanted w = ap (λ o. o.collected) (confirm-own (hear_submit seat value signature s)) ∙ rw (w, said)

-- a call in a list is one that the unit was given, and the other way round
called-given : (S : Setting) (r : Record) (store : List ℕ) (cs : List Call) (t : Called) → Memᴰ t (list_from S r store cs) → Memᴰ t.given cs
unfolding list_from
called-given S r store [] t d = absurd (Memᴰ.not-nil d)
called-given S r store (c ∷ cs) t d =
    ⊎_elim (λ q. Memᴰ.head (ap (λ (x : Called). x.given) q)) (λ q. Memᴰ.tail (called-given S (outcome S c r store).unit (outcome S c r store).store cs t q)) (Memᴰ.cases_cons d)

call_of : (S : Setting) (r : Record) (store : List ℕ) (cs : List Call) (c : Call) → Memᴰ c cs → (t : Called) × Memᴰ t (list_from S r store cs) × (t.given ≡ c)
unfolding list_from
call_of S r store [] c d = absurd (Memᴰ.not-nil d)
call_of S r store (x ∷ cs) c d =
    ⊎_elim (λ e. (record { given = x; unit = r; store = store }, Memᴰ.head refl, sym e))
    (λ t. let h = call_of S (outcome S x r store).unit (outcome S x r store).store cs c t in (h.0, Memᴰ.tail h.1, h.2))
    (Memᴰ.cases_cons d)

-- the record at the end of calls without a power cut
unbroken-end : (S : Setting) (seat : ℕ) (m : Moment) (cs : List Call) → (after_all S seat m (map Makes cs)).unit ≡ last_of S m.unit m.store cs
unfolding next-moment after_all last_of
unbroken-end S seat m [] = refl
unbroken-end S seat m (c ∷ cs) = unbroken-end S seat (next-moment S seat m (Makes c)) cs

module _ (S : Setting) {I : Type 0} (P : Plan I) (z : Splits S P) where
  open S use {n, round, keys, checks}
  open P use {fleet, layout, signature, store, out}
  open fleet use {signers, role, leader}

  -- ---- the signatures of the round

  abbrev W : Relation
  W seat value g = (side : Bool) × (value ≡ layout side) × In seat (signers side) × (g ≡ signature side seat)

  side_of : (a b : Bool) → layout a ≡ layout b → a ≡ b
  side_of false false e = refl
  side_of false true e = absurd (z.different e)
  side_of true false e = absurd (z.different (sym e))
  side_of true true e = refl

  inside : (side : Bool) (s : ℕ) → In s (signers side) → s < n
  inside side s i = in_below n s (signers side) (z.fits.below side) i

  sender_in : (side : Bool) → In (role (leader side)).seat (signers side)
  sender_in side = subst (λ b. In (role (leader side)).seat (signers b)) (z.fits.leads side) (z.fits.signs (leader side))

  attested : (side : Bool) (s : ℕ) → In s (signers side) → Attested checks W s (layout side) (signature side s)
  attested side s i = record { checked = z.checked side s i; sized = z.sized side s i; worthy = (side, refl, i, refl) }

  certifies : (side : Bool) → Certifies checks W n (certificate S P side)
  certifies side = record { sized = z.layouts side; below = z.fits.below side; enough = z.fits.enough side; attested = attested side }

  entries : (side : Bool) → Entries checks W n (layout side) (entries_of n (certificate S P side))
  entries side = entries_of_lem checks W n (certificate S P side) (certifies side)

  -- ---- the messages of the round

  record Sent (m : Message) : Type 0 where
    formed : WellFormed n m
    for_step : is_for_step m ≡ true
    taken : Taken checks n round m
    worthy : EachSigned W m

  short : round < 65536
  short = let e = z.early in omega arith

  abbrev Checked : Signed → Type 0
  Checked s = checks s.seat s.value s.signature ≡ true

  abbrev Worth : Signed → Type 0
  Worth s = W s.seat s.value s.signature

  submit-sent : (side : Bool) (s : ℕ) → In s (signers side) → Sent (submit_by S P side s)
  unfolding is_for_step round_of seats_of entry_seats signed rising
  submit-sent side s i =
      let signed : Signed = record { seat = s; value = layout side; signature = signature side s } in
      record {
        formed = (short, z.layouts side, z.sized side s i);
        for_step = refl;
        taken = record { in_round = refl; inside = each_one (λ t. t < n) s (inside side s i); rises = refl; checked = each_one Checked signed (z.checked side s i) };
        worthy = each_one Worth signed (side, refl, i, refl);
      }

  notice-sent : (side : Bool) → Sent (notice_of S P side)
  unfolding is_for_step round_of seats_of entry_seats signed rising
  notice-sent side =
      let s = (role (leader side)).seat in
      record {
        formed = (short, z.layouts side);
        for_step = refl;
        taken = record { in_round = refl; inside = each_one (λ t. t < n) s (inside side s (sender_in side)); rises = refl; checked = each_nil Checked };
        worthy = each_nil Worth;
      }

  full-sent : (side : Bool) → Sent (full_by S P side)
  unfolding is_for_step full_of signed
  full-sent side =
      let s = (role (leader side)).seat in
      let es = entries_of n (certificate S P side) in
      record {
        formed = (short, z.layouts side, (entries side).many, entries-laid checks W n (layout side) es (entries side));
        for_step = refl;
        taken = full-taken checks W n round s (layout side) es (inside side s (sender_in side)) (entries side);
        worthy = (signed-entries W (layout side) es).1 (λ e d. ((entries side).attested e d).worthy);
      }

  leaders-sent : Each Sent (leaders S P)
  leaders-sent =
      let last = each_one Sent (full_by S P true) (full-sent true) in
      let third = each_cons Sent (notice_of S P true) (full_by S P true ∷ []) (notice-sent true) last in
      let second = each_cons Sent (full_by S P false) (notice_of S P true ∷ full_by S P true ∷ []) (full-sent false) third in
      each_cons Sent (notice_of S P false) (full_by S P false ∷ notice_of S P true ∷ full_by S P true ∷ []) (notice-sent false) second

  submits-sent : (side : Bool) (xs : List ℕ) → Each (λ s. In s (signers side)) xs → Each Sent (map (submit_by S P side) xs)
  submits-sent side xs h = each_map Sent (submit_by S P side) xs (λ s d. submit-sent side s (h s d))

  heard-sent : (i : I) → Each Sent (heard S P i)
  heard-sent i =
      each_append Sent (map (submit_by S P (role i).side) (role i).hears) (leaders S P) (submits-sent (role i).side (role i).hears (z.fits.hears_signers i)) leaders-sent

  given-step : (m : Message) → IsStep (given S P m) (render m) out
  given-step m = cond_elim (λ c. IsStep c (render m) out) (is_full m) (ByThinEntry (render m) out) (ByStep (render m) out) (λ e. inr refl) (λ e. inl refl)

  -- ---- the units

  honest : (i : I) → IsHonest S (boat S P i)
  honest i =
      unbroken-honest S (role i).seat store (calls S P i) (in_hand S P ∷ [])
      ((opening_not_refused n (role i).seat round keys).1
      (record { range = record { some = z.fits.some; most = z.fits.most; seated = inside (role i).side (role i).seat (z.fits.signs i); dated = z.early }; table = z.table }))

  list_is : (i : I) → list_of S (boat S P i) ≡ list_from S (start_of S (boat S P i) (honest i)) store (calls S P i)
  list_is i = unbroken-list S (role i).seat store (calls S P i) (in_hand S P ∷ [])

  end_is : (i : I) → end_of S (boat S P i) (honest i) ≡ last_of S (start_of S (boat S P i) (honest i)) store (calls S P i)
  unfolding begins
  end_is i = unbroken-end S (role i).seat (begins S (boat S P i)) (calls S P i)

  family : Family S (boat S P)
  family = record { honest = honest; apart = z.fits.apart }

  -- every signature that a unit is given is one of the round
  calls-worthy : (i : I) (r : Record) → r.n ≡ n → r.seat ≡ (role i).seat → Each (λ c. WorthyGiven S W c r) (calls S P i)
  calls-worthy i r en es =
      let own : W r.seat (layout (role i).side) (signature (role i).side (role i).seat) =
      subst (λ s. W s (layout (role i).side) (signature (role i).side (role i).seat)) (sym es) ((role i).side, refl, z.fits.signs i, refl) in
      each_cons (λ c. WorthyGiven S W c r) (own_submit S P i) (map (given S P) (heard S P i)) own
      (each_map (λ c. WorthyGiven S W c r) (given S P) (heard S P i) (λ m d.
      let x = heard-sent i m d in
      let worthy : EachSigned W (read r.n (render m)) = rw (en, read-render n m x.formed) x.worthy in
      cond_elim (λ c. WorthyGiven S W c r) (is_full m) (ByThinEntry (render m) out) (ByStep (render m) out) (λ e. worthy) (λ e. worthy)))

  call-worthy : (i : I) (t : Called) → Memᴰ t (list_of S (boat S P i)) → WorthyGiven S W t.given t.unit
  call-worthy i t d =
      let u = boat S P i in
      let at = stop S u (honest i) Any (any-worthy S (list_of S u)) t d in
      calls-worthy i t.unit (at.since.n ∙ start-n S u (honest i)) (at.since.seat ∙ start-seat S u (honest i)) t.given
      (called-given S (start_of S u (honest i)) store (calls S P i) t (subst (Memᴰ t) (list_is i) d))

  worthy : (i : I) → Each (Worthy S W) (list_of S (boat S P i))
  worthy i t d q = call-worthy i t d

  -- ---- one unit, from its submit on

  module _ (i : I) where
    abbrev u : Boat
    u = boat S P i

    abbrev side : Bool
    side = (role i).side

    record Ready (r : Record) (s : List ℕ) : Type 0 where
      sound : Sound checks W r s
      settled : Settled r
      size_is : r.n ≡ n
      round_is : r.round ≡ round
      submitted : r.own.submitted ≡ true
      value : r.own.value ≡ layout side
      room : store_length n ≤ length s

    -- a step with a message of the round
    module _ (r : Record) (s : List ℕ) (y : Ready r s) (m : Message) (x : Sent m) where
      abbrev t : State
      t = stepped m (start r s)

      reads : read r.n (render m) ≡ m
      reads = rw y.size_is (read-render n m x.formed)

      unrefused-here : first_of (step_conditions checks keys r s (read r.n (render m)) out) ≡ 0
      unfolding step result_by
      unrefused-here =
          message_not_refused checks keys r s out m
          (record { possible = possible checks W r s y.sound y.settled; table = rw y.size_is z.table; store_room = rw y.size_is y.room; out_room = rw y.size_is z.out_room })
          (rw y.size_is x.formed) x.for_step (subst₂ (λ a b. Taken checks a b m) (sym y.size_is) (sym y.round_is) x.taken)

      passes : refusal_of S (given S P m) r s ≡ 0
      passes = (step_is S (given S P m) (render m) out r s (given-step m)).0 ∙ unrefused-here

      leaves : outcome S (given S P m) r s ≡ result_by 0 t r s
      leaves = outcome_is S (given S P m) r s ∙ rw (passes, (step_is S (given S P m) (render m) out r s (given-step m)).1, reads)

      done : Done checks W (start r s) t
      done = subst (λ (v : Message). Done checks W (start r s) (stepped v (start r s))) reads (step-done S W (render m) out r s y.sound y.settled unrefused-here (rw reads x.worthy))

      next : Ready t.unit t.store
      next =
          let g = done.leads.grows in
          let still = g.said y.submitted in
          record {
            sound = done.leads.sound;
            settled = done.settled;
            size_is = g.n ∙ y.size_is;
            round_is = g.round ∙ y.round_is;
            submitted = still.0;
            value = still.1 ∙ y.value;
            room = rw done.leads.stored y.room;
          }

      confirmed_next : r.confirmed ≡ true → t.unit.confirmed ≡ true
      confirmed_next e =
          let c = done.leads.counts.marked CONFIRMED in
          true_of_worth t.unit.confirmed (omega (arith, count_nil is_notice, worth-true r.confirmed e, worth_le_one t.unit.confirmed))

    -- room in the store for every call of a unit's list
    abbrev Room : Called → Type 0
    Room c = store_length n ≤ length c.store

    rooms : (ms : List Message) (r : Record) (s : List ℕ) → Ready r s → Each Sent ms → Each Room (list_from S r s (map (given S P) ms))
    unfolding list_from result_by unrefused
    rooms [] r s y x = each_nil Room
    rooms (m ∷ ms) r s y x =
        let sent = x m (Memᴰ.head refl) in
        let t = stepped m (start r s) in
        let after = outcome S (given S P m) r s in
        each_cons Room (record { given = given S P m; unit = r; store = s }) (list_from S after.unit after.store (map (given S P) ms)) y.room
        (subst (λ (o : Result). Each Room (list_from S o.unit o.store (map (given S P) ms))) (sym (leaves r s y m sent)) (rooms ms t.unit t.store (next r s y m sent) (λ a d. x a (Memᴰ.tail d))))

    -- a unit that has confirmed stays so
    confirmed_last : (ms : List Message) (r : Record) (s : List ℕ) → Ready r s → Each Sent ms → r.confirmed ≡ true → (last_of S r s (map (given S P) ms)).confirmed ≡ true
    unfolding last_of result_by unrefused
    confirmed_last [] r s y x e = e
    confirmed_last (m ∷ ms) r s y x e =
        let sent = x m (Memᴰ.head refl) in
        let t = stepped m (start r s) in
        subst (λ (o : Result). (last_of S o.unit o.store (map (given S P) ms)).confirmed ≡ true) (sym (leaves r s y m sent))
        (confirmed_last ms t.unit t.store (next r s y m sent) (λ a d. x a (Memᴰ.tail d)) (confirmed_next r s y m sent e))

    -- the unit has confirmed, or each signer is collected or still to be heard
    abbrev Awaits : List ℕ → Record → Type 0
    Awaits xs r = (r.confirmed ≡ true) ⊎ ((s : ℕ) → In s (signers side) → In s r.own.collected ⊎ Memᴰ s xs)

    module _ (x : ℕ) (xs : List ℕ) (r : Record) (s : List ℕ) (y : Ready r s) (j : In x (signers side)) where
      abbrev after_submit : Record
      after_submit = (stepped (submit_by S P side x) (start r s)).unit

      awaits_from : ((a : ℕ) → In a r.own.collected → In a after_submit.own.collected) → In x after_submit.own.collected
          → ((a : ℕ) → In a (signers side) → In a r.own.collected ⊎ Memᴰ a (x ∷ xs)) → Awaits xs after_submit
      awaits_from still new f =
          inr (λ a h. ⊎_elim (λ c. inl (still a c)) (λ d. ⊎_elim (λ e. inl (subst (λ b. In b after_submit.own.collected) (sym e) new)) inr (Memᴰ.cases_cons d)) (f a h))

      in_with : (a : ℕ) → In a r.own.collected → Dec (a ≡ x) → In a (with x r.own.collected)
      in_with a h (yes e) = rw e (bit_with_same x r.own.collected)
      in_with a h (no d) = bit_with_other a x r.own.collected d ∙ h

      -- cause for a SUBMIT that isn't wanted: the unit has confirmed, or the seat is collected
      unwanted : is_wanted x (layout side) r ≡ false → (r.confirmed ≡ true) ⊎ In x r.own.collected
      unfolding is_wanted
      unwanted w =
          let own : same (layout side) r.own.value ≡ true = rw y.value (same_refl (layout side)) in
          ⊎_elim
          (λ e. ⊎_elim (λ c. inl (not-false r.confirmed c)) (λ c. absurd (true≢false (sym own ∙ c))) (and_false-either (not r.confirmed) (same (layout side) r.own.value) e))
          (λ e. inr ((has_true x r.own.collected).0 (not-false (has x r.own.collected) e)))
          (and_false-either (not r.confirmed && same (layout side) r.own.value) (not (has x r.own.collected)) w)

      awaits_next : Awaits (x ∷ xs) r → Awaits xs after_submit
      awaits_next (inl e) = inl (confirmed_next r s y (submit_by S P side x) (submit-sent side x j) e)
      awaits_next (inr f) = go (is_wanted x (layout side) r) refl
        where
          go : (b : Bool) → is_wanted x (layout side) r ≡ b → Awaits xs after_submit
          go true w =
              let is = collected-wanted round x (layout side) (signature side x) (start r s) y.submitted w in
              awaits_from (λ a h. rw is (in_with a h (ℕ_discrete a x))) (rw is (bit_with_same x r.own.collected)) f
          go false w =
              let is = collected-unwanted round x (layout side) (signature side x) (start r s) y.submitted w in
              ⊎_elim (λ e. inl (confirmed_next r s y (submit_by S P side x) (submit-sent side x j) e)) (λ h. awaits_from (λ a c. rw is c) (rw is h) f) (unwanted w)

    -- with all signers heard, the unit has confirmed
    collected_all : (r : Record) (s : List ℕ) → Ready r s → Awaits [] r → r.confirmed ≡ true
    collected_all r s y (inl e) = e
    collected_all r s y (inr f) =
        let all : r.own.collected ≡ signers side = same_seats r.own.collected (signers side) (λ a. go a (bit_cases a (signers side)) (bit_cases a r.own.collected)) in
        y.settled.complete (ap size all ∙ z.fits.enough side ∙ ap k (sym y.size_is))
      where
        go : (a : ℕ) → (bit a (signers side) ≡ 0) ⊎ In a (signers side) → (bit a r.own.collected ≡ 0) ⊎ In a r.own.collected → bit a r.own.collected ≡ bit a (signers side)
        go a (inl e) (inl h) = omega arith
        go a (inl e) (inr h) =
            let w = (y.sound.own.collection.attested a h).worthy in
            let own : In a (signers side) = subst (λ b. In a (signers b)) (side_of w.0 side (sym w.1 ∙ y.value)) w.2 in
            omega arith
        go a (inr e) _ = omega (arith, ⊎_elim (λ h. h) (λ d. absurd (Memᴰ.not-nil d)) (f a e))

    confirms_last : (xs : List ℕ) (ms : List Message) (r : Record) (s : List ℕ) → Ready r s → Each (λ a. In a (signers side)) xs → Each Sent ms → Awaits xs r
        → (last_of S r s (map (given S P) (map (submit_by S P side) xs ++ ms))).confirmed ≡ true
    unfolding last_of result_by unrefused
    confirms_last [] ms r s y j x w = confirmed_last ms r s y x (collected_all r s y w)
    confirms_last (a ∷ xs) ms r s y j x w =
        let h = j a (Memᴰ.head refl) in
        let m = submit_by S P side a in
        let sent = submit-sent side a h in
        let t = stepped m (start r s) in
        subst (λ (o : Result). (last_of S o.unit o.store (map (given S P) (map (submit_by S P side) xs ++ ms))).confirmed ≡ true) (sym (leaves r s y m sent))
        (confirms_last xs ms t.unit t.store (next r s y m sent) (λ b d. j b (Memᴰ.tail d)) x (awaits_next a xs r s y h w))

    -- ---- the unit's submit

    abbrev start_record : Record
    start_record = start_of S u (honest i)

    unsaid : start_record.own.submitted ≡ false
    unsaid = go start_record.own.submitted refl
      where
        go : (b : Bool) → start_record.own.submitted ≡ b → start_record.own.submitted ≡ false
        go true e = absurd (omega (arith, start-unset S u (honest i) SUBMITTED, worth-true start_record.own.submitted e))
        go false e = e

    own-attested : Attested checks W start_record.seat (layout side) (signature side (role i).seat)
    own-attested = subst (λ s. Attested checks W s (layout side) (signature side (role i).seat)) (sym (start-seat S u (honest i))) (attested side (role i).seat (z.fits.signs i))

    start-room : store_length start_record.n ≤ length store
    start-room = rw (start-n S u (honest i)) z.store_room

    submit-passes : refusal_of S (own_submit S P i) start_record store ≡ 0
    unfolding refusal_of submit result_by
    submit-passes =
        let same = start-n S u (honest i) in
        (submit_not_refused checks keys start_record store (layout side) (signature side (role i).seat) out).1
        (record {
          lent = record {
            possible = possible checks W start_record store (start-sound S u (honest i) W store) (start-settled S u (honest i));
            table = rw same z.table;
            store_room = start-room;
            out_room = rw same z.out_room;
          };
          first = unsaid;
          sized_value = z.layouts side;
          sized_signature = own-attested.sized;
          checked = own-attested.checked;
        })

    abbrev submitted_state : State
    submitted_state = submitted (layout side) (signature side (role i).seat) (start start_record store)

    submit-leaves : outcome S (own_submit S P i) start_record store ≡ result_by 0 submitted_state start_record store
    unfolding came_to
    submit-leaves = outcome_is S (own_submit S P i) start_record store ∙ rw submit-passes

    submit-ready : Ready submitted_state.unit submitted_state.store
    submit-ready =
        let sound = start-sound S u (honest i) W store in
        let done = submitted-done checks W (layout side) (signature side (role i).seat) (start start_record store) sound start-room unsaid (z.layouts side) own-attested in
        let value = submitted-value checks W (layout side) (signature side (role i).seat) (start start_record store) sound start-room unsaid (z.layouts side) own-attested in
        record {
          sound = done.leads.sound;
          settled = done.settled;
          size_is = done.leads.grows.n ∙ start-n S u (honest i);
          round_is = done.leads.grows.round ∙ start-round S u (honest i);
          submitted = value.0;
          value = value.1;
          room = rw done.leads.stored z.store_room;
        }

    abbrev own-call : Called
    own-call = record { given = own_submit S P i; unit = start_record; store = store }

    submits : Submits S u (layout side)
    unfolding list_from result_by
    submits = record {
      call = own-call;
      in_list = subst (Memᴰ own-call) (sym (list_is i)) (Memᴰ.head refl);
      signature = signature side (role i).seat;
      out = out;
      carries = refl;
      unrefused = ap (λ (o : Result). o.refusal) submit-leaves;
    }

    -- ---- messages that have reached the unit

    list-room : Each Room (list_of S u)
    unfolding list_from result_by unrefused
    list-room =
        let after = outcome S (own_submit S P i) start_record store in
        subst (Each Room) (sym (list_is i))
        (each_cons Room own-call (list_from S after.unit after.store (map (given S P) (heard S P i))) z.store_room
        (subst (λ (o : Result). Each Room (list_from S o.unit o.store (map (given S P) (heard S P i)))) (sym submit-leaves) (rooms (heard S P i) submitted_state.unit submitted_state.store submit-ready (heard-sent i))))

    heard-reached : (m : Message) → Memᴰ m (heard S P i) → Reached S u (render m)
    heard-reached m d =
        let c = call_of S start_record store (calls S P i) (given S P m) (Memᴰ.tail (Memᴰ.map (given S P) d)) in
        let in_list = subst (Memᴰ c.0) (sym (list_is i)) c.1 in
        record {
          step = record { call = c.0; in_list = in_list; out = out; is_step = subst (λ x. IsStep x (render m) out) (sym c.2) (given-step m) };
          store_room = list-room c.0 in_list;
          out_room = z.out_room;
        }

    -- ---- messages that the unit writes

    end-value : (end_of S u (honest i)).own.value ≡ layout side
    end-value = submits-end S u (honest i) (layout side) submits

    abbrev Own : ℕ → ℕ → List ℕ → Type 0
    Own ρ seat value = (ρ ≡ round) × (seat ≡ (role i).seat) × (value ≡ layout side)

    own-said : (ρ seat : ℕ) (value : List ℕ) → Said (end_of S u (honest i)) ρ seat value → Own ρ seat value
    own-said ρ seat value s =
        (s.of_round ∙ end-round S u (honest i) W (worthy i), s.of_seat ∙ end-seat S u (honest i) W (worthy i), s.of_value ∙ end-value)

    notice_is : (ρ seat : ℕ) (value : List ℕ) → Writes S u (Notice ρ seat value) → Own ρ seat value
    notice_is ρ seat value w = own-said ρ seat value (writes-good S u (honest i) W (worthy i) (Notice ρ seat value) w)

    entry_is : (es : List Entry) → Each (λ (e : Entry). W e.seat (layout side) e.signature) es → map (entry_of (certificate S P side)) (map (λ (e : Entry). e.seat) es) ≡ es
    entry_is [] h = refl
    entry_is (e ∷ es) h =
        let w = h e (Memᴰ.head refl) in
        let same : e.signature ≡ signature side e.seat = w.3 ∙ ap (λ b. signature b e.seat) (sym (side_of side w.0 w.1)) in
        let rest = entry_is es (λ x d. h x (Memᴰ.tail d)) in
        rw (← same, rest)

    -- the entries of a full certificate: k signers, and so all of them
    entries_are : (es : List Entry) → Entries checks W n (layout side) es → es ≡ entries_of n (certificate S P side)
    unfolding entries_of
    entries_are es y =
        let xs = map (λ (e : Entry). e.seat) es in
        let signing : Each (λ s. In s (signers side)) xs =
        each_map (λ s. In s (signers side)) (λ (e : Entry). e.seat) es (λ e d. let w = (y.attested e d).worthy in subst (λ b. In e.seat (signers b)) (sym (side_of side w.0 w.1)) w.2) in
        let all : set_of xs ≡ signers side =
        sub_same (set_of xs) (signers side) (λ s h. signing s ((in_set s xs).0 h)) (set-size xs y.rise ∙ length-map es (λ (e : Entry). e.seat) ∙ y.many ∙ sym (z.fits.enough side)) in
        let seats-are : xs ≡ seats n (signers side) =
        rising_same xs (seats n (signers side)) y.rise (seats-rising n (signers side)) (λ s d. (mem-seats n s (signers side)).1 (inside side s (signing s d), signing s d))
        (λ s d. (in_set s xs).0 (subst (In s) (sym all) ((mem-seats n s (signers side)).0 d).1)) in
        sym (entry_is es (λ e d. (y.attested e d).worthy)) ∙ ap (map (entry_of (certificate S P side))) seats-are

    full_is : (ρ sender : ℕ) (value : List ℕ) (es : List Entry) → Writes S u (Full ρ sender value es) → Own ρ sender value × (es ≡ entries_of n (certificate S P side))
    full_is ρ sender value es w =
        let g = writes-good S u (honest i) W (worthy i) (Full ρ sender value es) w in
        let own = own-said ρ sender value g.0 in
        (own, entries_are es (subst₂ (λ a v. Entries checks W a v es) (end-n S u (honest i) W (worthy i)) own.2 g.1))

  -- ---- the leaders

  leader-confirmed : (b : Bool) → (end_of S (boat S P (leader b)) (honest (leader b))).confirmed ≡ true
  unfolding last_of result_by unrefused
  leader-confirmed b =
      let i = leader b in
      let t = submitted_state i in
      subst (λ (r : Record). r.confirmed ≡ true) (sym (end_is i))
      (subst (λ (o : Result). (last_of S o.unit o.store (map (given S P) (heard S P i))).confirmed ≡ true) (sym (submit-leaves i))
      (confirms_last i (role i).hears (leaders S P) t.unit t.store (submit-ready i) (z.fits.hears_signers i) leaders-sent
      (inr (λ s h. let signs = subst (λ c. In s (signers c)) (z.fits.leads b) h in inr (subst (Memᴰ s) (sym (z.fits.hears_all b)) ((mem-seats n s (signers b)).1 (inside b s signs, signs)))))))

  confirmed : (b : Bool) → Confirms S (boat S P (leader b)) (layout b)
  confirmed b =
      let i = leader b in
      let f = flag_written S (boat S P i) (honest i) W (worthy i) CONFIRMED (leader-confirmed b) in
      notice_cases (λ m. Writes S (boat S P i) m → Confirms S (boat S P i) (layout b)) f.0 f.1
      (λ ρ seat value w. (ρ, seat, subst (λ v. Writes S (boat S P i) (Notice ρ seat v)) ((notice_is i ρ seat value w).2 ∙ ap layout (z.fits.leads b)) w))
      f.2

  notice-heard : (b : Bool) (l : I) → Memᴰ (notice_of S P b) (heard S P l)
  notice-heard false l = Memᴰ.append_right (map (submit_by S P (role l).side) (role l).hears) (Memᴰ.head refl)
  notice-heard true l = Memᴰ.append_right (map (submit_by S P (role l).side) (role l).hears) (Memᴰ.tail (Memᴰ.tail (Memᴰ.head refl)))

  full-heard : (b : Bool) (l : I) → Memᴰ (full_by S P b) (heard S P l)
  full-heard false l = Memᴰ.append_right (map (submit_by S P (role l).side) (role l).hears) (Memᴰ.tail (Memᴰ.head refl))
  full-heard true l = Memᴰ.append_right (map (submit_by S P (role l).side) (role l).hears) (Memᴰ.tail (Memᴰ.tail (Memᴰ.tail (Memᴰ.head refl))))

  reached : (b : Bool) → ReachedOthers S (boat S P) (leader b)
  unfolding full_of
  reached b l d = record {
    notice = λ ρ seat value w.
        let own = notice_is (leader b) ρ seat value w in
        let is : Notice ρ seat value ≡ notice_of S P b = rw (own.0, own.1, own.2, z.fits.leads b) in
        subst (λ m. Reached S (boat S P l) (render m)) (sym is) (heard-reached l (notice_of S P b) (notice-heard b l));
    full = λ ρ sender value es w.
        let own = full_is (leader b) ρ sender value es w in
        let is : Full ρ sender value es ≡ full_by S P b = rw (own.0.0, own.0.1, own.0.2, own.1, z.fits.leads b) in
        subst (λ m. Reached S (boat S P l) (render m)) (sym is) (heard-reached l (full_by S P b) (full-heard b l));
  }

  -- ---- no signature is forged

  -- every signature delivered is one of the round
  step-worthy : (j : I) (bytes : List ℕ) → StepGiven S (boat S P j) bytes → EachSigned W (read n bytes)
  step-worthy j bytes g =
      let u = boat S P j in
      let t = g.call in
      let at = stop S u (honest j) Any (any-worthy S (list_of S u)) t g.in_list in
      let same : t.unit.n ≡ n = at.since.n ∙ start-n S u (honest j) in
      let here = call-worthy j t g.in_list in
      ⊎_elim
      (λ e. subst (λ a. EachSigned W (read a bytes)) same (subst (λ c. WorthyGiven S W c t.unit) e here))
      (λ e. subst (λ a. EachSigned W (read a bytes)) same (subst (λ c. WorthyGiven S W c t.unit) e here))
      g.is_step

  full-worthy : (b : Bool) → EachSigned W (read n (render (full_by S P b)))
  full-worthy b = rw (read-render n (full_by S P b) (full-sent b).formed) (full-sent b).worthy

  hand-worthy : (j : I) (bytes : List ℕ) → MadeFrom S (boat S P j) bytes → EachSigned W (read n bytes)
  hand-worthy j bytes g =
      let is = Memᴰ.eq_of_singleton g.has in
      ⊎_elim
      (λ e. subst (λ x. EachSigned W (read n x)) (sym (e ∙ ap (λ h. h.a) is)) (full-worthy false))
      (λ e. subst (λ x. EachSigned W (read n x)) (sym (e ∙ ap (λ h. h.b) is)) (full-worthy true))
      g.either

  -- an honest seat's signature is over its own layout
  own-side : (seat : ℕ) (a b : Bool) → In seat (signers a) → bit seat (signers (not b)) ≡ 0 → a ≡ b
  own-side seat false false i o = refl
  own-side seat false true i o = absurd (omega arith)
  own-side seat true false i o = absurd (omega arith)
  own-side seat true true i o = refl

  unforged : NoneForged S (boat S P) (Delivered S (boat S P))
  unforged i value g d never =
      let all = ⊎_elim (step-worthy d.to d.bytes) (hand-worthy d.to d.bytes) d.given in
      let w = all (record { seat = (role i).seat; value = value; signature = g }) d.stands in
      let side = own-side (role i).seat w.0 (role i).side w.2 (z.fits.once i) in
      absurd (never (subst (Submits S (boat S P i)) (sym (w.1 ∙ ap layout side)) (submits i)))

  -- ---- evidence made from the two certificates

  making-room : evidence_out_length n ≤ length out
  unfolding evidence_out_length out_length
  making-room = let r = z.out_room in omega arith

  fulls-differ : (certificate_in (full_by S P false)).value ≢ (certificate_in (full_by S P true)).value
  unfolding full_of certificate_in certificate_of
  fulls-differ = z.different

  is_full_lem : (b : Bool) → is_full (full_by S P b) ≡ true
  unfolding full_of is_full
  is_full_lem b = refl

  making-passes : (making checks n round keys (in_hand S P).a (in_hand S P).b out).refusal ≡ 0
  making-passes =
      let reads : (b : Bool) → full_by S P b ≡ read n (render (full_by S P b)) = λ b. sym (read-render n (full_by S P b) (full-sent b).formed) in
      (making_not_refused checks n round keys (in_hand S P).a (in_hand S P).b out).1
      (record {
        outside = record { some = z.fits.some; most = z.fits.most; in_time = z.early; table = z.table };
        out_room = making-room;
        first_full = subst (λ m. is_full m ≡ true) (reads false) (is_full_lem false);
        second_full = subst (λ m. is_full m ≡ true) (reads true) (is_full_lem true);
        first = subst (Taken checks n round) (reads false) (full-sent false).taken;
        second = subst (Taken checks n round) (reads true) (full-sent true).taken;
        conflict = subst₂ (λ a b. (certificate_in a).value ≢ (certificate_in b).value) (reads false) (reads true) fulls-differ;
      })

  accuses : Accuses S (in_hand S P).a (in_hand S P).b (making_of S (in_hand S P))
  accuses = made-accepted S (in_hand S P).a (in_hand S P).b out making-passes

  full-signers : (b : Bool) → (certificate_in (read n (render (full_by S P b)))).seats ≡ signers b
  unfolding full_of certificate_in certificate_of form_seats full_form
  full-signers b = rw (read-render n (full_by S P b) (full-sent b).formed, entry-seats n (certificate S P b)) (set-seats n (signers b) (z.fits.below b))

  -- the bytes made are one EVIDENCE
  made : (i : I) → MakesEvidence S (boat S P i) (making_of S (in_hand S P))
  unfolding unrefused render_all is_evidence
  made i =
      let h = in_hand S P in
      let bytes : making_of S h ≡ render (evidence_from S Make h.a h.b) = making-bytes S h ∙ rw making-passes in
      evidence-made S Any Make h.a h.b out making-passes (λ s d. tt) (λ s d. tt) (λ m. making_of S h ≡ render m → MakesEvidence S (boat S P i) (making_of S h))
      (λ outside ps y is.
      let m = Evidence round ValuesEach ps in
      record {
        hand = h;
        has = Memᴰ.head refl;
        message = m;
        kind = refl;
        bytes = is;
        stands = (m ∷ [], (each_one (WellFormed n) m (pairs-formed checks Any n round ps z.early y), is ∙ sym (append-nil (render m))), Memᴰ.head refl);
      })
      bytes

  -- ---- the whole

  pub split : Split S P
  split = record {
    family = family;
    confirm = confirmed;
    reached = reached;
    unforged = unforged;
    blame = (demand_3_any S (boat S P) family).accountability (leader false) (leader true) (layout false) (layout true) z.different (confirmed false) (confirmed true) (reached false) (reached true);
    unblamed = (demand_3_any S (boat S P) family).safety unforged;
    made = made;
    accuses = accuses;
    named = accuses.names ∙ ap₂ shared (full-signers false) (full-signers true);
  }
