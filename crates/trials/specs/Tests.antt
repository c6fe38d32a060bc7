-- Computable tests of lists of events and calls, each with its meaning in the words of `Round` and `Demand3`. Nothing here uses a proof of the
-- claims, so that all of it holds for an edited definition too.
-- Assumes nothing.
use Prim.Native.Nat.{ℕ, zero, suc, ◌+◌, ◌≤◌}
use Rattle.std.specs.Prelude.{◌≡◌, false, cond, ◌&&◌, ◌||◌, ◌⊎◌, ◌≢◌, ltb, length, take, drop}
use Rattle.std.proofs.Math.Path.{refl, sym, ap, subst}
use Rattle.std.proofs.Common.{◌∙◌, inl, inr, take_at, drop_at}
use Rattle.std.proofs.Math.Bool.{Bool, true, not, or-true, true≢false}
use Rattle.std.proofs.lemmas.Bool.{false≢true}
use mathlib.Core.List.Memᴰ
use mathlib.Core.List.{List, [], ◌∷◌, ◌++◌, append-nil, Memᴰ}
use Rattle.std.proofs.Math.Logic.{⊎_elim}
use Rattle.std.proofs.Math.Dec.{eqb, leb}
use borrow.Author.Tests.{eqb-true, eq-eqb, leb-true, le-leb, ltb-true, not-false}
use Rattle.octets.specs.Strings.{same}
use Rattle.octets.specs.StringsLaws.{same_refl, same_true}
use Rattle.quorum.specs.Quorum.{t0, k, In, has, size, seats}
use Rattle.quorum.specs.QuorumLaws.{has_true, mem-seats}
use Rattle.refusal.specs.RefusalLaws.{both_true, both_false}
use Rattle.protocol.specs.Layout.{value_length, signature_length, store_length, out_length}
use Rattle.protocol.specs.Message.{Entry, Pair, PackForm, ValuesOnce, ValuesEach, Message, Submit, Notice, Full, Evidence, Garbled, full_form, pair_held, pair_bytes, pair_made, evidence_form, ValuesFormed, Signed, render, render_all, read, signed, entry_seats, WellFormed}
use Rattle.protocol.specs.Entries.{Laid}
use Rattle.protocol.specs.MessageLaws.{read-render}
use Rattle.protocol.specs.Refusals.{every, is_for_step, is_full, is_evidence}
use Rattle.protocol.specs.Calls.{opening, evidence_check, write_note}
use Rattle.round.specs.Round.{Each, Are, StandsIn, Setting, Call, BySubmit, ByStep, ByThinEntry, IsStep, Called, out_of, result_of, written_in, Saved, Event, Makes, Keeps, Sends, ComesBack, OpensAgain, InHand, Boat, Moment, begins, after, list_of, Allowed, AllowedAll, IsHonest, Writes, Submits, Confirms, Reached, HaveReached, WritesEvidence, WritesFirst, written_over, making_of, MakesEvidence, Names}
use Rattle.round.specs.Demand1.{is_notice, Apart}
use Rattle.protocol.specs.declared.Record.{Record}
use Rattle.round.specs.Demand3.{NamesEnough, Blames}
use Rattle.round.specs.Culprits.{unit_of, SharedAreGuilty}
use Rattle.protocol.specs.ConditionsLaws.{every_each}
use Rattle.reading.specs.ListsLaws.{cond_elim, and_false-either, or_true-either, each_nil, each_cons}
use Rattle.reading.specs.ReadingLaws.{frame-length, are_unique}
use Rattle.reading.specs.Reading.{frame_length}
use Rattle.reading.specs.Messages.{messages, all_messages}
use Rattle.reading.specs.MessagesLaws.{all_member, member_all, written_is, list_are}

-- ---- a member of a list

unfoldable pub found {ℓ} : {A : Type ℓ} → (A → Bool) → List A → Bool
found test [] = false
found test (x ∷ xs) = test x || found test xs

pub found-one {ℓ} : {A : Type ℓ} (test : A → Bool) (xs : List A) → found test xs ≡ true → (x : A) × Memᴰ x xs × (test x ≡ true)
unfolding found
found-one test [] e = absurd (false≢true e)
found-one test (x ∷ xs) e =
    ⊎_elim (λ p. (x, Memᴰ.head refl, p)) (λ p. let r = found-one test xs p in (r.0, Memᴰ.tail r.1, r.2)) (or_true-either (test x) (found test xs) e)

found_none {ℓ} : {A : Type ℓ} (test : A → Bool) (xs : List A) → found test xs ≡ false → Each (λ x. test x ≡ false) xs
unfolding found
found_none test [] e x d = absurd (Memᴰ.not-nil d)
found_none test (y ∷ xs) e x d =
    let both = both_false (test y) (found test xs) e in
    ⊎_elim (λ q. subst (λ z. test z ≡ false) (sym q) both.0) (λ q. found_none test xs both.1 x q) (Memᴰ.cases_cons d)

pub every_false {ℓ} : {A : Type ℓ} (test : A → Bool) (xs : List A) → every test xs ≡ false → (x : A) × Memᴰ x xs × (test x ≡ false)
unfolding every
every_false test [] e = absurd (true≢false e)
every_false test (x ∷ xs) e =
    ⊎_elim (λ p. (x, Memᴰ.head refl, p)) (λ p. let r = every_false test xs p in (r.0, Memᴰ.tail r.1, r.2)) (and_false-either (test x) (every test xs) e)

pub found-seat : (seat : ℕ) (seats : List ℕ) → found (eqb seat) seats ≡ true → Memᴰ seat seats
found-seat seat seats e =
    let g = found-one (eqb seat) seats e in
    subst (λ s. Memᴰ s seats) (sym (eqb-true seat g.0 g.2)) g.1

pub found_no_seat : (seat : ℕ) (seats : List ℕ) → found (eqb seat) seats ≡ false → Memᴰ seat seats → ⊥
found_no_seat seat seats e d = true≢false (sym (eq-eqb seat seat refl) ∙ found_none (eqb seat) seats e seat d)

-- ---- messages

-- whether an entry's signature has its length
unfoldable pub entry_sized : Entry → Bool
entry_sized e = eqb (length e.signature) signature_length

unfoldable pub same_pair : Pair → Pair → Bool
same_pair p q =
    eqb p.seat q.seat && (same p.lower_value q.lower_value && (same p.higher_value q.higher_value && (same p.lower q.lower && same p.higher q.higher)))

same_pair_lem : (p q : Pair) → same_pair p q ≡ true → p ≡ q
unfolding same_pair
same_pair_lem p q e =
    let signatures = same p.lower q.lower && same p.higher q.higher in
    let a = both_true (eqb p.seat q.seat) (same p.lower_value q.lower_value && (same p.higher_value q.higher_value && signatures)) e in
    let b = both_true (same p.lower_value q.lower_value) (same p.higher_value q.higher_value && signatures) a.1 in
    let c = both_true (same p.higher_value q.higher_value) signatures b.1 in
    let d = both_true (same p.lower q.lower) (same p.higher q.higher) c.1 in
    let parts : ◌≡◌ {A = Pair} (record { seat = p.seat; lower_value = p.lower_value; higher_value = p.higher_value; lower = p.lower; higher = p.higher }) q =
    rw (eqb-true p.seat q.seat a.0, same_true p.lower_value q.lower_value b.0, same_true p.higher_value q.higher_value c.0, same_true p.lower q.lower d.0, same_true p.higher q.higher d.1) in
    parts

pub same_pair-says : (p q : Pair) → p ≡ q → same_pair p q ≡ true
unfolding same_pair
same_pair-says p q e =
    rw (e, eq-eqb q.seat q.seat refl, same_refl q.lower_value, same_refl q.higher_value, same_refl q.lower, same_refl q.higher)

-- whether a pair has as many bytes as its form says, and is the one made of its seat and its bytes
unfoldable pub pair_sized : PackForm → Pair → Bool
pair_sized form p = eqb (length (pair_bytes form p)) (pair_held form) && same_pair (pair_made form p.seat (pair_bytes form p)) p

-- whether the values before the count have their length
unfoldable pub values_sized : PackForm → Bool
values_sized (ValuesOnce values) = eqb (length values.lower) value_length && eqb (length values.higher) value_length
values_sized ValuesEach = true

unfoldable pub well_formed : ℕ → Message → Bool
well_formed n (Submit ρ seat value signature) = ltb ρ 65536 && (eqb (length value) value_length && eqb (length signature) signature_length)
well_formed n (Notice ρ seat value) = ltb ρ 65536 && eqb (length value) value_length
well_formed n (Full ρ sender value es) = ltb ρ 65536 && (eqb (length value) value_length && (eqb (length es) (k n) && every entry_sized es))
well_formed n (Evidence ρ form ps) = ltb ρ 65536 && (values_sized form && (leb 1 (length ps) && (leb (length ps) n && every (pair_sized form) ps)))
well_formed n Garbled = false

entries-laid : (es : List Entry) → every entry_sized es ≡ true → Laid full_form es
unfolding full_form entry_sized
entries-laid es h e d = (eqb-true (length e.signature) signature_length (every_each entry_sized es h e d), refl)

pairs-laid : (form : PackForm) (ps : List Pair) → every (pair_sized form) ps ≡ true → Laid (evidence_form form) ps
unfolding evidence_form pair_sized
pairs-laid form ps h p d =
    let made = pair_made form p.seat (pair_bytes form p) in
    let both = both_true (eqb (length (pair_bytes form p)) (pair_held form)) (same_pair made p) (every_each (pair_sized form) ps h p d) in
    (eqb-true (length (pair_bytes form p)) (pair_held form) both.0, same_pair_lem made p both.1)

values-formed : (form : PackForm) → values_sized form ≡ true → ValuesFormed form
unfolding values_sized
values-formed (ValuesOnce values) h =
    let both = both_true (eqb (length values.lower) value_length) (eqb (length values.higher) value_length) h in
    (eqb-true (length values.lower) value_length both.0, eqb-true (length values.higher) value_length both.1)
values-formed ValuesEach h = tt

well_formed-says : (n : ℕ) (m : Message) → well_formed n m ≡ true → WellFormed n m
unfolding well_formed
well_formed-says n (Submit ρ seat value signature) h =
    let a = both_true (ltb ρ 65536) (eqb (length value) value_length && eqb (length signature) signature_length) h in
    let b = both_true (eqb (length value) value_length) (eqb (length signature) signature_length) a.1 in
    (ltb-true ρ 65536 a.0, eqb-true (length value) value_length b.0, eqb-true (length signature) signature_length b.1)
well_formed-says n (Notice ρ seat value) h =
    let a = both_true (ltb ρ 65536) (eqb (length value) value_length) h in
    (ltb-true ρ 65536 a.0, eqb-true (length value) value_length a.1)
well_formed-says n (Full ρ sender value es) h =
    let a = both_true (ltb ρ 65536) (eqb (length value) value_length && (eqb (length es) (k n) && every entry_sized es)) h in
    let b = both_true (eqb (length value) value_length) (eqb (length es) (k n) && every entry_sized es) a.1 in
    let c = both_true (eqb (length es) (k n)) (every entry_sized es) b.1 in
    (ltb-true ρ 65536 a.0, eqb-true (length value) value_length b.0, eqb-true (length es) (k n) c.0, entries-laid es c.1)
well_formed-says n (Evidence ρ form ps) h =
    let counted = leb 1 (length ps) && (leb (length ps) n && every (pair_sized form) ps) in
    let a = both_true (ltb ρ 65536) (values_sized form && counted) h in
    let b = both_true (values_sized form) counted a.1 in
    let c = both_true (leb 1 (length ps)) (leb (length ps) n && every (pair_sized form) ps) b.1 in
    let d = both_true (leb (length ps) n) (every (pair_sized form) ps) c.1 in
    (ltb-true ρ 65536 a.0, values-formed form b.0, leb-true 1 (length ps) c.0, leb-true (length ps) n d.0, pairs-laid form ps d.1)
well_formed-says n Garbled h = absurd (false≢true h)

unfoldable pub is_message : Message → Bool
is_message m = is_for_step m || is_evidence m

message-formed : (n : ℕ) (m : Message) → WellFormed n m → is_message m ≡ true
unfolding is_message is_for_step is_evidence
message-formed n (Submit ρ seat value signature) w = refl
message-formed n (Notice ρ seat value) w = refl
message-formed n (Full ρ sender value es) w = refl
message-formed n (Evidence ρ form ps) w = refl
message-formed n Garbled w = absurd w

unfoldable pub is_notice_of : List ℕ → Message → Bool
is_notice_of layout (Submit ρ seat value signature) = false
is_notice_of layout (Notice ρ seat value) = same value layout
is_notice_of layout (Full ρ sender value es) = false
is_notice_of layout (Evidence ρ form ps) = false
is_notice_of layout Garbled = false

notice_of_lem : (layout : List ℕ) (m : Message) → is_notice_of layout m ≡ true → (ρ seat : ℕ) × (m ≡ Notice ρ seat layout)
unfolding is_notice_of
notice_of_lem layout (Submit ρ seat value signature) e = absurd (false≢true e)
notice_of_lem layout (Notice ρ seat value) e = (ρ, seat, ap (Notice ρ seat) (same_true value layout e))
notice_of_lem layout (Full ρ sender value es) e = absurd (false≢true e)
notice_of_lem layout (Evidence ρ form ps) e = absurd (false≢true e)
notice_of_lem layout Garbled e = absurd (false≢true e)

-- the first EVIDENCE among messages; Garbled where there is none
unfoldable pub first_pack : List Message → Message
first_pack [] = Garbled
first_pack (m ∷ ms) = cond (is_evidence m) m (first_pack ms)

first_pack_lem : (before later : List Message) (m : Message) → Each (λ x. is_evidence x ≡ false) before → is_evidence m ≡ true → first_pack (before ++ m ∷ later) ≡ m
unfolding first_pack
first_pack_lem [] later m none e = rw e
first_pack_lem (x ∷ before) later m none e = rw (none x (Memᴰ.head refl)) (first_pack_lem before later m (λ y d. none y (Memᴰ.tail d)) e)

pack_first : (ms : List Message) → is_evidence (first_pack ms) ≡ true
    → (before later : List Message) × (ms ≡ before ++ first_pack ms ∷ later) × Each (λ x. is_evidence x ≡ false) before
unfolding first_pack is_evidence
pack_first [] e = absurd (false≢true e)
pack_first (m ∷ ms) e =
    cond_elim (λ x. is_evidence x ≡ true → (before later : List Message) × (m ∷ ms ≡ before ++ x ∷ later) × Each (λ y. is_evidence y ≡ false) before)
    (is_evidence m) m (first_pack ms) (λ q h. ([], ms, refl, each_nil _))
    (λ q h. let rest = pack_first ms h in (m ∷ rest.0, rest.1, ap (◌∷◌ m) rest.2, each_cons _ m rest.0 q rest.3)) e

-- whether a message isn't EVIDENCE of the old form
unfoldable pub new_form : Message → Bool
new_form (Submit ρ seat value signature) = true
new_form (Notice ρ seat value) = true
new_form (Full ρ sender value es) = true
new_form (Evidence ρ (ValuesOnce values) ps) = false
new_form (Evidence ρ ValuesEach ps) = true
new_form Garbled = true

pub new_form_not : (m : Message) → new_form m ≡ false → (ρ : ℕ) × (form : PackForm) × (ps : List Pair) × (m ≡ Evidence ρ form ps) × (form ≢ ValuesEach)
unfolding new_form
new_form_not (Submit ρ seat value signature) e = absurd (true≢false e)
new_form_not (Notice ρ seat value) e = absurd (true≢false e)
new_form_not (Full ρ sender value es) e = absurd (true≢false e)
new_form_not (Evidence ρ (ValuesOnce values) ps) e = (ρ, ValuesOnce values, ps, refl, λ q. true≢false (sym (ap (λ form. new_form (Evidence ρ form ps)) q)))
new_form_not (Evidence ρ ValuesEach ps) e = absurd (true≢false e)
new_form_not Garbled e = absurd (true≢false e)

-- whether two messages have no seat in common
unfoldable pub apart : Message → Message → Bool
apart m x = every (λ seat. not (found (eqb seat) (entry_seats x))) (entry_seats m)

pub apart_not : (m x : Message) → apart m x ≡ false → Apart m x → ⊥
unfolding apart
apart_not m x e claim =
    let f = every_false (λ seat. not (found (eqb seat) (entry_seats x))) (entry_seats m) e in
    claim f.0 f.1 (found-seat f.0 (entry_seats x) (not-false (found (eqb f.0) (entry_seats x)) f.2))

-- whether the bytes may be messages one after another: the first ones, this many, can be read
unfoldable pub readable : ℕ → ℕ → List ℕ → Bool
readable n zero bytes = true
readable n (suc t) bytes =
    let end = frame_length n bytes in
    eqb (length bytes) 0 || (is_message (read n (take end bytes)) && readable n t (drop end bytes))

pub readable-says : (n t : ℕ) (ms : List Message) → Each (WellFormed n) ms → readable n t (render_all ms) ≡ true
unfolding readable render_all
readable-says n zero ms w = refl
readable-says n (suc t) [] w = refl
readable-says n (suc t) (m ∷ ms) w =
    let formed = w m (Memᴰ.head refl) in
    let end = frame-length n m (render_all ms) formed in
    let first = take_at (render m) (render_all ms) (frame_length n (render m ++ render_all ms)) (sym end) in
    let rest = drop_at (render m) (render_all ms) (frame_length n (render m ++ render_all ms)) (sym end) in
    rw (first, rest, read-render n m formed, message-formed n m formed, readable-says n t ms (λ x d. w x (Memᴰ.tail d)), or-true)

unfoldable pub is_evidence_on : ℕ → Message → Bool
is_evidence_on seat m = is_evidence m && found (eqb seat) (entry_seats m)

-- ---- calls

unfoldable pub is_step_of : List ℕ → Call → Bool
is_step_of bytes (BySubmit value signature out) = false
is_step_of bytes (ByStep b out) = same b bytes
is_step_of bytes (ByThinEntry b out) = same b bytes

unfoldable pub is_submit_of : List ℕ → Call → Bool
is_submit_of layout (BySubmit value signature out) = same value layout
is_submit_of layout (ByStep bytes out) = false
is_submit_of layout (ByThinEntry bytes out) = false

step_of : (bytes : List ℕ) (c : Call) → is_step_of bytes c ≡ true → IsStep c bytes (out_of c)
unfolding is_step_of
step_of bytes (BySubmit value signature out) e = absurd (false≢true e)
step_of bytes (ByStep b out) e = inl (ap (λ x. ByStep x out) (same_true b bytes e))
step_of bytes (ByThinEntry b out) e = inr (ap (λ x. ByThinEntry x out) (same_true b bytes e))

submit_of : (layout : List ℕ) (c : Call) → is_submit_of layout c ≡ true → (signature : List ℕ) × (out : List ℕ) × (c ≡ BySubmit layout signature out)
unfolding is_submit_of
submit_of layout (BySubmit value signature out) e = (signature, out, ap (λ v. BySubmit v signature out) (same_true value layout e))
submit_of layout (ByStep bytes out) e = absurd (false≢true e)
submit_of layout (ByThinEntry bytes out) e = absurd (false≢true e)

-- the message that a step is given; Garbled for a submit
unfoldable pub message_in : ℕ → Call → Message
message_in n (BySubmit value signature out) = Garbled
message_in n (ByStep bytes out) = read n bytes
message_in n (ByThinEntry bytes out) = read n bytes

pub given-message : (n : ℕ) (c : Call) (bytes out : List ℕ) → IsStep c bytes out → message_in n c ≡ read n bytes
unfolding message_in
given-message n c bytes out (inl e) = ap (message_in n) e
given-message n c bytes out (inr e) = ap (message_in n) e

message-given : (n : ℕ) (c : Call) → (message_in n c ≡ Garbled) ⊎ ((bytes : List ℕ) × (out : List ℕ) × IsStep c bytes out × (message_in n c ≡ read n bytes))
unfolding message_in
message-given n (BySubmit value signature out) = inl refl
message-given n (ByStep bytes out) = inr (bytes, out, inl refl, refl)
message-given n (ByThinEntry bytes out) = inr (bytes, out, inr refl, refl)

pub signed-given : (n : ℕ) (c : Call) (s : Signed) → Memᴰ s (signed (message_in n c)) → (bytes : List ℕ) × (out : List ℕ) × IsStep c bytes out × Memᴰ s (signed (read n bytes))
unfolding signed
signed-given n c s d =
    ⊎_elim (λ e. absurd (Memᴰ.not-nil (subst (λ m. Memᴰ s (signed m)) e d))) (λ g. (g.0, g.1, g.2, subst (λ m. Memᴰ s (signed m)) g.3 d)) (message-given n c)

unfoldable pub same_signed : Signed → Signed → Bool
same_signed s z = eqb s.seat z.seat && (same s.value z.value && same s.signature z.signature)

pub same_signed_lem : (s z : Signed) → same_signed s z ≡ true → s ≡ z
unfolding same_signed
same_signed_lem s z e =
    let a = both_true (eqb s.seat z.seat) (same s.value z.value && same s.signature z.signature) e in
    let b = both_true (same s.value z.value) (same s.signature z.signature) a.1 in
    ap (λ (x : ℕ). record { seat = x; value = s.value; signature = s.signature }) (eqb-true s.seat z.seat a.0)
    ∙ ap (λ (x : List ℕ). record { seat = z.seat; value = x; signature = s.signature }) (same_true s.value z.value b.0)
    ∙ ap (λ (x : List ℕ). record { seat = z.seat; value = z.value; signature = x }) (same_true s.signature z.signature b.1)

-- ---- events

-- the messages that are sent
unfoldable pub sent_in : List Event → List Message
sent_in [] = []
sent_in (Makes c ∷ es) = sent_in es
sent_in (Keeps out ∷ es) = sent_in es
sent_in (Sends m ∷ es) = m ∷ sent_in es
sent_in (ComesBack saved ∷ es) = sent_in es
sent_in (OpensAgain store ∷ es) = sent_in es

pub sent_in-says : (es : List Event) (m : Message) → Memᴰ m (sent_in es) → Memᴰ (Sends m) es
unfolding sent_in
sent_in-says [] m d = absurd (Memᴰ.not-nil d)
sent_in-says (Makes c ∷ es) m d = Memᴰ.tail (sent_in-says es m d)
sent_in-says (Keeps out ∷ es) m d = Memᴰ.tail (sent_in-says es m d)
sent_in-says (Sends x ∷ es) m d = ⊎_elim (λ q. Memᴰ.head (ap Sends q)) (λ q. Memᴰ.tail (sent_in-says es m q)) (Memᴰ.cases_cons d)
sent_in-says (ComesBack saved ∷ es) m d = Memᴰ.tail (sent_in-says es m d)
sent_in-says (OpensAgain store ∷ es) m d = Memᴰ.tail (sent_in-says es m d)

-- ---- an honest unit

-- whether two notes kept are the same, and their stores
unfoldable pub same_saved : Saved → Saved → Bool
same_saved s z = same s.note z.note && same s.store z.store

same_saved_lem : (s z : Saved) → same_saved s z ≡ true → s ≡ z
unfolding same_saved
same_saved_lem s z e =
    let both = both_true (same s.note z.note) (same s.store z.store) e in
    ap (λ (x : List ℕ). record { note = x; store = s.store }) (same_true s.note z.note both.0)
    ∙ ap (λ (x : List ℕ). record { note = z.note; store = x }) (same_true s.store z.store both.1)

-- whether one is the newest
unfoldable pub is_newest : Saved → List Saved → Bool
is_newest saved [] = false
is_newest saved (newest ∷ older) = same_saved newest saved

newest-says : (saved : Saved) (kept : List Saved) → is_newest saved kept ≡ true → (older : List Saved) × (kept ≡ saved ∷ older)
unfolding is_newest
newest-says saved [] e = absurd (false≢true e)
newest-says saved (newest ∷ older) e = (older, ap (λ (x : Saved). x ∷ older) (same_saved_lem newest saved e))

-- whether nothing is kept
unfoldable pub none_saved : List Saved → Bool
none_saved [] = true
none_saved (newest ∷ older) = false

none_says : (kept : List Saved) → none_saved kept ≡ true → kept ≡ []
unfolding none_saved
none_says [] e = refl
none_says (newest ∷ older) e = absurd (false≢true e)

module _ (S : Setting) where
  open S use {n, round, keys, checks}

  -- a message of calls whose messages are all well-formed
  calls_stand : (cs : List Called) → every (well_formed n) (all_messages S cs) ≡ true → (m : Message) → Memᴰ m (all_messages S cs)
      → (c : Called) × Memᴰ c cs × StandsIn n m (written_in S c)
  calls_stand cs f m d =
      let h = member_all S cs m d in
      let formed : Each (WellFormed n) (messages S h.0) = λ x e. well_formed-says n x (every_each (well_formed n) (all_messages S cs) f x (all_member S cs h.0 x h.1 e)) in
      (h.0, h.1, (messages S h.0, (formed, written_is S h.0), h.2))

  -- whether one of the calls writes the message
  unfoldable pub wrote : List Called → Message → Bool
  wrote cs m = well_formed n m && (every (well_formed n) (all_messages S cs) && found (λ x. same (render m) (render x)) (all_messages S cs))

  wrote_says : (cs : List Called) (m : Message) → wrote cs m ≡ true → (c : Called) × Memᴰ c cs × StandsIn n m (written_in S c)
  unfolding wrote
  wrote_says cs m e =
      let a = both_true (well_formed n m) (every (well_formed n) (all_messages S cs) && found (λ x. same (render m) (render x)) (all_messages S cs)) e in
      let b = both_true (every (well_formed n) (all_messages S cs)) (found (λ x. same (render m) (render x)) (all_messages S cs)) a.1 in
      let g = found-one (λ x. same (render m) (render x)) (all_messages S cs) b.1 in
      let x = g.0 in
      let formed = well_formed-says n x (every_each (well_formed n) (all_messages S cs) b.0 x g.1) in
      let is : m ≡ x = sym (read-render n m (well_formed-says n m a.0)) ∙ ap (read n) (same_true (render m) (render x) g.2) ∙ read-render n x formed in
      calls_stand cs b.0 m (subst (λ y. Memᴰ y (all_messages S cs)) (sym is) g.1)

  -- "before it sends anything": the calls whose messages may be sent
  abbrev sendable : Moment → List Called
  sendable m = m.noted

  -- whether an honest unit's host does this at a moment
  unfoldable pub allowed : Moment → Event → Bool
  allowed m (Makes c) = true
  allowed m (Keeps out) = eqb (write_note m.unit out).refusal 0
  allowed m (Sends message) = wrote (sendable m) message
  allowed m (ComesBack saved) = is_newest saved m.saved
  allowed m (OpensAgain store) = none_saved m.saved

  allowed-says : (m : Moment) (e : Event) → allowed m e ≡ true → Allowed S m e
  unfolding allowed
  allowed-says m (Makes c) e = tt
  allowed-says m (Keeps out) e = eqb-true (write_note m.unit out).refusal 0 e
  allowed-says m (Sends message) e = wrote_says (sendable m) message e
  allowed-says m (ComesBack saved) e = newest-says saved m.saved e
  allowed-says m (OpensAgain store) e = none_says m.saved e

  unfoldable pub allowed_all : ℕ → Moment → List Event → Bool
  allowed_all seat m [] = true
  allowed_all seat m (e ∷ es) = allowed m e && allowed_all seat (after S seat m e) es

  allowed_all-says : (seat : ℕ) (m : Moment) (es : List Event) → allowed_all seat m es ≡ true → AllowedAll S seat m es
  unfolding allowed_all AllowedAll
  allowed_all-says seat m [] h = tt
  allowed_all-says seat m (e ∷ es) h =
      let both = both_true (allowed m e) (allowed_all seat (after S seat m e) es) h in
      (allowed-says m e both.0, allowed_all-says seat (after S seat m e) es both.1)

  unfoldable pub is_honest : Boat → Bool
  is_honest u = eqb (opening n u.seat round keys).number 0 && allowed_all u.seat (begins S u) u.events

  pub is_honest-says : (u : Boat) → is_honest u ≡ true → IsHonest S u
  unfolding is_honest
  is_honest-says u e =
      let both = both_true (eqb (opening n u.seat round keys).number 0) (allowed_all u.seat (begins S u) u.events) e in
      record { opened = eqb-true (opening n u.seat round keys).number 0 both.0; allowed = allowed_all-says u.seat (begins S u) u.events both.1 }

  -- the messages that a unit's list writes
  unfoldable pub all : Boat → List Message
  all u = all_messages S (list_of S u)

  -- The tests take a unit's list, or its messages, so that a run computes them once.
  unfoldable pub formed : List Message → Bool
  formed ms = every (well_formed n) ms

  unfoldable pub submits : List Called → List ℕ → Bool
  submits cs layout = found (λ (c : Called). is_submit_of layout c.given && eqb (result_of S c).refusal 0) cs

  pub submits-says : (u : Boat) (layout : List ℕ) → submits (list_of S u) layout ≡ true → Submits S u layout
  unfolding submits
  submits-says u layout e =
      let f = found-one (λ (c : Called). is_submit_of layout c.given && eqb (result_of S c).refusal 0) (list_of S u) e in
      let c = f.0 in
      let both = both_true (is_submit_of layout c.given) (eqb (result_of S c).refusal 0) f.2 in
      let s = submit_of layout c.given both.0 in
      record { call = c; in_list = f.1; signature = s.0; out = s.1; carries = s.2; unrefused = eqb-true (result_of S c).refusal 0 both.1 }

  -- "with store and out of the stated lengths or more"
  abbrev store_asked : ℕ
  store_asked = store_length n

  abbrev out_asked : ℕ
  out_asked = out_length n

  unfoldable pub reached : List Called → List ℕ → Bool
  reached cs bytes =
      found (λ (c : Called). is_step_of bytes c.given && (leb store_asked (length c.store) && leb out_asked (length (out_of c.given)))) cs

  reached-says : (u : Boat) (bytes : List ℕ) → reached (list_of S u) bytes ≡ true → Reached S u bytes
  unfolding reached
  reached-says u bytes e =
      let f = found-one (λ (c : Called). is_step_of bytes c.given && (leb store_asked (length c.store) && leb out_asked (length (out_of c.given)))) (list_of S u) e in
      let c = f.0 in
      let a = both_true (is_step_of bytes c.given) (leb store_asked (length c.store) && leb out_asked (length (out_of c.given))) f.2 in
      let b = both_true (leb store_asked (length c.store)) (leb out_asked (length (out_of c.given))) a.1 in
      record {
        step = record { call = c; in_list = f.1; out = out_of c.given; is_step = step_of bytes c.given a.0 };
        store_room = leb-true store_asked (length c.store) b.0;
        out_room = leb-true out_asked (length (out_of c.given)) b.1;
      }

  unfoldable pub confirms : List Message → List ℕ → Bool
  confirms ms layout = found (is_notice_of layout) ms

  -- "the notice and full certificate of each"
  unfoldable pub must_reach : Message → Bool
  must_reach m = is_notice m || is_full m

  unfoldable pub have_reached : List Message → List Called → Bool
  have_reached ms cs = every (λ (m : Message). not (must_reach m) || reached cs (render m)) ms

  -- "at least t0 + 1 seats"
  abbrev seats_owed : ℕ
  seats_owed = t0 n + 1

  -- whether a message is EVIDENCE that is accepted and names enough seats
  unfoldable pub names_enough : Message → Bool
  names_enough m =
      let answer = evidence_check checks n round keys (render m) in
      is_evidence m && (eqb answer.number 0 && leb seats_owed (size answer.mask))

  -- whether there is a first pack that does, and whether the first one does where there is one
  unfoldable pub blames : List Message → Bool
  blames ms = names_enough (first_pack ms)

  unfoldable pub first_pays : List Message → Bool
  first_pays ms = not (is_evidence (first_pack ms)) || names_enough (first_pack ms)

  unfoldable pub accuses : List Message → ℕ → Bool
  accuses ms seat = found (is_evidence_on seat) ms

  -- whether bytes are an EVIDENCE that names a seat
  unfoldable pub made_on : ℕ → List ℕ → Bool
  made_on seat bytes = let m = read n bytes in well_formed n m && (same bytes (render m) && is_evidence_on seat m)

  -- bytes that a unit makes or joins from what it has in hand
  pub made_on-says : (u : Boat) (h : InHand) (seat : ℕ) → Memᴰ h u.in_hand → made_on seat (making_of S h) ≡ true → MakesEvidence S u (making_of S h) × Names S (making_of S h) seat
  unfolding made_on is_evidence_on render_all
  made_on-says u h seat d e =
      let m = read n (making_of S h) in
      let a = both_true (well_formed n m) (same (making_of S h) (render m) && (is_evidence m && found (eqb seat) (entry_seats m))) e in
      let b = both_true (same (making_of S h) (render m)) (is_evidence m && found (eqb seat) (entry_seats m)) a.1 in
      let c = both_true (is_evidence m) (found (eqb seat) (entry_seats m)) b.1 in
      let bytes = same_true (making_of S h) (render m) b.0 in (
        record {
          hand = h;
          has = d;
          message = m;
          kind = c.0;
          bytes = bytes;
          stands = (m ∷ [], (each_cons (WellFormed n) m [] (well_formed-says n m a.0) (each_nil (WellFormed n)), bytes ∙ sym (append-nil (render m))), Memᴰ.head refl);
        },
        found-seat seat (entry_seats m) c.1,
      )

  -- ---- more culprits (document 02, item 3)

  -- whether the seats that a certificate shares with the first one held are guilty, where the two conflict
  unfoldable pub shared_guilty : Record → List ℕ → List ℕ → Bool
  shared_guilty r layout named = same layout r.first.value || every (λ seat. not (has seat r.first.seats) || has seat r.guilty) named

  shared-guilty : (r : Record) (layout named : List ℕ) → shared_guilty r layout named ≡ false
      → ((seat : ℕ) → layout ≢ r.first.value → Memᴰ seat named → In seat r.first.seats → In seat r.guilty) → ⊥
  unfolding shared_guilty
  shared-guilty r layout named e claim =
      let guilty : ℕ → Bool = λ seat. not (has seat r.first.seats) || has seat r.guilty in
      let both = both_false (same layout r.first.value) (every guilty named) e in
      let f = every_false guilty named both.1 in
      let seat = f.0 in
      let not-guilty = both_false (not (has seat r.first.seats)) (has seat r.guilty) f.2 in
      let differ : layout ≢ r.first.value = λ q. true≢false (sym (same_refl layout) ∙ ap (same layout) q ∙ both.0) in
      let held = (has_true seat r.first.seats).0 (not-false (has seat r.first.seats) not-guilty.0) in
      true≢false (sym ((has_true seat r.guilty).1 (claim seat differ f.1 held)) ∙ not-guilty.1)

  -- the same for a certificate in a message
  unfoldable pub heard_guilty : Record → Message → Bool
  heard_guilty r (Submit ρ seat value signature) = true
  heard_guilty r (Notice ρ seat value) = true
  heard_guilty r (Full ρ sender value es) = shared_guilty r value (entry_seats (Full ρ sender value es))
  heard_guilty r (Evidence ρ form ps) = true
  heard_guilty r Garbled = true

  -- for the certificate that a call was given and didn't refuse, and the own one
  abbrev taken : Called → Bool
  taken c = eqb (result_of S c).refusal 0

  unfoldable pub given_guilty : Record → Called → Bool
  given_guilty r c = not (taken c) || heard_guilty r (message_in n c.given)

  unfoldable pub own_guilty : Record → Bool
  own_guilty r = not r.confirmed || shared_guilty r r.own.value (seats n r.own.collected)

  module _ (u : Boat) (claim : SharedAreGuilty S u) where
    abbrev unit : Record
    unit = unit_of S u

    heard-guilty : (c : Called) (m : Message) → Memᴰ c (list_of S u) → taken c ≡ true → message_in n c.given ≡ m → heard_guilty unit m ≡ false → ⊥
    unfolding heard_guilty is_full
    heard-guilty c (Submit ρ seat value signature) d t g e = true≢false e
    heard-guilty c (Notice ρ seat value) d t g e = true≢false e
    heard-guilty c (Full ρ sender value es) d t g e =
        ⊎_elim (λ none. true≢false (ap is_full (sym g ∙ none)))
        (λ given.
        let reads : read n given.0 ≡ Full ρ sender value es = sym given.3 ∙ g in
        shared-guilty unit value (entry_seats (Full ρ sender value es)) e
        (λ seat differ stands held. claim value seat differ
        (inl (record {
          bytes = given.0;
          given = record { call = c; in_list = d; out = given.1; is_step = given.2 };
          unrefused = eqb-true (result_of S c).refusal 0 t;
          ρ = ρ;
          sender = sender;
          entries = es;
          is_full = reads;
          stands = subst (λ m. Memᴰ seat (entry_seats m)) (sym reads) stands;
        }))
        held))
        (message-given n c.given)
    heard-guilty c (Evidence ρ form ps) d t g e = true≢false e
    heard-guilty c Garbled d t g e = true≢false e

    pub given_guilty_not : (c : Called) → Memᴰ c (list_of S u) → given_guilty unit c ≡ false → ⊥
    unfolding given_guilty
    given_guilty_not c d e =
        let both = both_false (not (taken c)) (heard_guilty unit (message_in n c.given)) e in
        heard-guilty c (message_in n c.given) d (not-false (taken c) both.0) refl both.1

    pub own_guilty_not : own_guilty unit ≡ false → ⊥
    unfolding own_guilty
    own_guilty_not e =
        let own = unit.own in
        let both = both_false (not unit.confirmed) (shared_guilty unit own.value (seats n own.collected)) e in
        shared-guilty unit own.value (seats n own.collected) both.1
        (λ seat differ stands held.
        claim own.value seat differ (inr (record { confirmed = not-false unit.confirmed both.0; own = refl; stands = ((mem-seats n seat own.collected).0 stands).1 })) held)

  -- a unit whose messages are all well-formed: its list writes these messages
  module _ (u : Boat) (f : formed (all u) ≡ true) where
    all_formed : Each (WellFormed n) (all u)
    unfolding formed
    all_formed m d = well_formed-says n m (every_each (well_formed n) (all u) f m d)

    pub member_writes : (m : Message) → Memᴰ m (all u) → Writes S u m
    unfolding all formed
    member_writes m d =
        let h = calls_stand (list_of S u) f m d in
        record { call = h.0; in_list = h.1; stands = h.2 }

    writes_member : (m : Message) → Writes S u m → Memᴰ m (all u)
    unfolding all
    writes_member m w =
        let c = w.call in
        let formed : Each (WellFormed n) (messages S c) = λ x e. all_formed x (all_member S (list_of S u) c x w.in_list e) in
        all_member S (list_of S u) c m w.in_list
        (subst (λ ms. Memᴰ m ms) (are_unique n (written_in S c) w.stands.0 (messages S c) w.stands.1 (formed, written_is S c)) w.stands.2)

    -- the whole list writes these messages
    pub all_are : Are n (written_over S (list_of S u)) (all u)
    unfolding all
    all_are = list_are S n (list_of S u) (λ c d. (λ m e. all_formed m (all_member S (list_of S u) c m d e), written_is S c))

    pub confirms-says : (layout : List ℕ) → confirms (all u) layout ≡ true → Confirms S u layout
    unfolding confirms
    confirms-says layout e =
        let g = found-one (is_notice_of layout) (all u) e in
        let s = notice_of_lem layout g.0 g.2 in
        (s.0, s.1, member_writes (Notice s.0 s.1 layout) (subst (λ m. Memᴰ m (all u)) s.2 g.1))

    pub have_reached-says : (other : Boat) → have_reached (all u) (list_of S other) ≡ true → HaveReached S u other
    unfolding have_reached must_reach is_notice is_full
    have_reached-says other e =
        let each = every_each (λ (m : Message). not (must_reach m) || reached (list_of S other) (render m)) (all u) e in
        record {
          notice = λ ρ seat layout w. reached-says other (render (Notice ρ seat layout)) (each (Notice ρ seat layout) (writes_member (Notice ρ seat layout) w));
          full = λ ρ sender layout es w. reached-says other (render (Full ρ sender layout es)) (each (Full ρ sender layout es) (writes_member (Full ρ sender layout es) w));
        }

    enough-says : (m : Message) (evidence : List ℕ) → is_evidence m ≡ true → evidence ≡ render m → NamesEnough S evidence → names_enough m ≡ true
    unfolding names_enough
    enough-says m evidence kind bytes names =
        let answer = evidence_check checks n round keys (render m) in
        let number : answer.number ≡ 0 = subst (λ x. (evidence_check checks n round keys x).number ≡ 0) bytes names.accepted in
        let mask : answer.mask ≡ names.seats = subst (λ x. (evidence_check checks n round keys x).mask ≡ names.seats) bytes names.answered in
        let enough : leb seats_owed (size answer.mask) ≡ true = le-leb seats_owed (size answer.mask) (subst (λ s. seats_owed ≤ size s) (sym mask) names.enough) in
        rw (kind, eq-eqb answer.number 0 number, enough)

    -- a unit that fails the test has written no first pack that is accepted and names enough seats
    pub blames_not : blames (all u) ≡ false → Blames S u → ⊥
    unfolding blames
    blames_not e b =
        let w = b.first in
        let pack = w.written in
        let m = pack.message in
        let list : all u ≡ w.before ++ m ∷ w.later = are_unique n (written_over S (list_of S u)) (all u) (w.before ++ m ∷ w.later) all_are w.are in
        let first : first_pack (all u) ≡ m = ap first_pack list ∙ first_pack_lem w.before w.later m w.none pack.kind in
        true≢false (sym (enough-says m b.evidence pack.kind pack.bytes b.names) ∙ sym (ap names_enough first) ∙ e)

    -- a unit that fails the other test has written a first pack that isn't accepted or names too few
    pub first_pays_not : first_pays (all u) ≡ false → (evidence : List ℕ) × WritesFirst S u evidence × (NamesEnough S evidence → ⊥)
    unfolding first_pays
    first_pays_not e =
        let m = first_pack (all u) in
        let both = both_false (not (is_evidence m)) (names_enough m) e in
        let kind = not-false (is_evidence m) both.0 in
        let s = pack_first (all u) kind in (
          render m,
          record {
            written = record { message = m; kind = kind; bytes = refl; writes = member_writes m (subst (Memᴰ m) (sym s.2) (Memᴰ.append_right s.0 (Memᴰ.head refl))) };
            before = s.0;
            later = s.1;
            are = subst (Are n (written_over S (list_of S u))) s.2 all_are;
            none = s.3;
          },
          λ names. true≢false (sym (enough-says m (render m) kind refl names) ∙ both.1),
        )

    pub accuses-says : (seat : ℕ) → accuses (all u) seat ≡ true → (evidence : List ℕ) × WritesEvidence S u evidence × Names S evidence seat
    unfolding accuses is_evidence_on
    accuses-says seat e =
        let g = found-one (is_evidence_on seat) (all u) e in
        let m = g.0 in
        let both = both_true (is_evidence m) (found (eqb seat) (entry_seats m)) g.2 in (
          render m,
          record { message = m; kind = both.0; bytes = refl; writes = member_writes m g.1 },
          subst (λ x. Memᴰ seat (entry_seats x)) (sym (read-render n m (all_formed m g.1))) (found-seat seat (entry_seats m) both.1),
        )
