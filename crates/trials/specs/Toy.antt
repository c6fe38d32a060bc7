-- A toy signature check for the runs, and the definitions of calls, unfolded.
-- Assumes nothing.
use Rattle.std.specs.Prelude.{ℕ, zero, suc, ◌-◌, Bool, true, ◌&&◌, eqb, replicate}
use mathlib.Core.List.{List, [], ◌∷◌, ◌++◌, flat_map}
use Rattle.std.specs.Int.Count.{ones}
use Rattle.octets.specs.Octets.{part, patch, be}
use Rattle.quorum.specs.Quorum.{t0, k, bit, has, union, shared, less, with, outside, seats}
use Rattle.refusal.specs.Refusal.{first_of, unrefused}
use Rattle.protocol.specs.Layout.{signature_length, submit_length, notice_length, full_entry_length, full_entry_at, full_length, evidence_entry_length, evidence_entry_at, evidence_length, banks, length_of_banks, banks_before, slot_length_in, slot_length, store_length, slot_at, out_length, evidence_out_length, joined_out_length, note_length}
use Rattle.protocol.specs.Values.{unset, is_lower}
use Rattle.octets.specs.Strings.{same}
use Rattle.protocol.specs.Entries.{each_below, place_of, render_entry, render_entries, entry_commands, read_entry, read_entries, form_seats}
use Rattle.protocol.specs.Message.{Entry, Pair, Message, Submit, Full, full_form, evidence_form, render, render_all, byte_at, read_round, read_value, read_signature, pack_in, fits_submit, fits_notice, fits_full, fits_evidence, read_submit, read_notice, read_full, read_evidence, read, round_of, entry_seats, seats_of, signed_entry, signed_pair, signed}
use Rattle.protocol.specs.Certificate.{slot, fill, fill_each, fill_kept, own_certificate, first_certificate, set_of, signature_of, certificate_of, certificate_in, entries_of, full_of, pairs_of, ordered_evidence, evidence_of, conflict_of}
use Rattle.protocol.specs.Joining.{pairs_in, pair_among, joined_pair, joined_pairs, joined_of}
use Rattle.protocol.specs.Record.{wrong_size, wrong_seat, wrong_round, fresh, zeros, none_heard, one_heard, holds, out_of_range, wrong_heard, names_stranger, wrong_collected, wrong_first, lacks_first, wrong_guilty, wrong_sent, wrong_kept, wrong_unset, impossible}
use Rattle.protocol.specs.Note.{two_heard, flag_if, flags_of, is_set, heard_by, render_note, note_flags, note_round, note_record, both_heard, unknown_flag, wrong_note}
use Rattle.protocol.specs.Refusals.{every, key_allowed, keys_allowed, wrong_keys, short_store, short_out, said, is_for_step, is_full, is_evidence, is_new_evidence, wrong_lengths, other_round, stranger, rising, disorder, bad_signature, lower_first, not_lower_first, equal_values, message_conditions, outside_conditions, record_conditions, opening_conditions, submit_conditions, step_conditions, evidence_conditions, certificate_conditions, two_conditions, making_conditions, lower_conditions, pack_conditions, joined_conditions, joining_conditions, write_note_conditions, read_note_conditions}
use Rattle.protocol.specs.Step.{write, collect, set_own_value, submit_own, is_wanted, collect_if_wanted, keep, keep_if_first, hear_submit, is_open_to, collect_kept_seat, collect_kept_below, empty_kept, collect_kept, notices_with, hear, other_heard, owes_full, send_full, reply, hold, found, blame, blames, hold_or_blame, hear_certificate, is_complete, confirm, hear_own, confirm_if_complete, submitted, stepped}
use Rattle.protocol.specs.Calls.{out_after, opened_by, opening, result_by, submit, step, answer, making_by, making, made, joining, checked_by, evidence_check, lower_of, lower_certificate, noting_by, write_note, read_note}

-- a name that unfolds every definition of a call
unfoldable pub unfolded : Bool
unfolding ones part patch be t0 k bit has union shared less with outside seats first_of unrefused signature_length submit_length notice_length full_entry_length full_entry_at full_length evidence_entry_length evidence_entry_at evidence_length banks length_of_banks banks_before slot_length_in slot_length store_length slot_at out_length evidence_out_length joined_out_length note_length unset same is_lower each_below place_of render_entry render_entries entry_commands read_entry read_entries form_seats full_form evidence_form render render_all read_round read_value read_signature pack_in fits_submit fits_notice fits_full fits_evidence read_submit read_notice read_full read_evidence read round_of entry_seats seats_of flat_map signed_entry signed_pair signed slot fill fill_each fill_kept own_certificate first_certificate set_of signature_of certificate_of certificate_in entries_of full_of pairs_of ordered_evidence evidence_of conflict_of pairs_in pair_among joined_pair joined_pairs joined_of wrong_size wrong_seat wrong_round fresh zeros none_heard one_heard holds out_of_range wrong_heard names_stranger wrong_collected wrong_first lacks_first wrong_guilty wrong_sent wrong_kept wrong_unset impossible two_heard flag_if flags_of is_set heard_by render_note note_flags note_round note_record both_heard unknown_flag wrong_note every key_allowed keys_allowed wrong_keys short_store short_out said is_for_step is_full is_evidence is_new_evidence wrong_lengths other_round stranger rising disorder bad_signature lower_first not_lower_first equal_values message_conditions outside_conditions record_conditions opening_conditions submit_conditions step_conditions evidence_conditions certificate_conditions two_conditions making_conditions lower_conditions pack_conditions joined_conditions joining_conditions write_note_conditions read_note_conditions write collect set_own_value submit_own is_wanted collect_if_wanted keep keep_if_first hear_submit is_open_to collect_kept_seat collect_kept_below empty_kept collect_kept notices_with hear other_heard owes_full send_full reply hold found blame blames hold_or_blame hear_certificate is_complete confirm hear_own confirm_if_complete submitted stepped out_after opened_by opening result_by submit step answer making_by making made joining checked_by evidence_check lower_of lower_certificate noting_by write_note read_note
unfolded = true

-- toy signature check: a signature's first byte is its seat, its second the first byte of its value
abbrev pub toy : ℕ → List ℕ → List ℕ → Bool
toy seat value signature = eqb (byte_at signature 0) seat && eqb (byte_at signature 1) (byte_at value 0)

abbrev pub layout : ℕ → List ℕ
layout b = replicate 32 b

abbrev pub sign : ℕ → ℕ → List ℕ
sign seat b = seat ∷ b ∷ replicate (signature_length - 2) 0

abbrev pub keys : ℕ → List ℕ
keys zero = []
keys (suc n) = keys n ++ 0 ∷ 0 ∷ 0 ∷ 6 ∷ 0 ∷ 0 ∷ 0 ∷ 4 ∷ replicate 48 0

-- a SUBMIT of a seat for the layout of a byte, and a FULL of that layout by three seats
abbrev pub submit_by : ℕ → ℕ → Message
submit_by seat b = Submit 5 seat (layout b) (sign seat b)

abbrev pub entry_by : ℕ → ℕ → Entry
entry_by b seat = record { seat = seat; signature = sign seat b }

abbrev pub full_by : ℕ → ℕ → ℕ → ℕ → Message
full_by b s t u = Full 5 s (layout b) (entry_by b s ∷ entry_by b t ∷ entry_by b u ∷ [])

-- a seat's signatures over the layouts of two bytes
abbrev pub pair_by : ℕ → ℕ → ℕ → Pair
pair_by low high seat = record { seat = seat; lower_value = layout low; higher_value = layout high; lower = sign seat low; higher = sign seat high }
