-- The worked keys hold of the definitions, by computation.
use mathlib.Core.Path.{refl}
use Rattle.paper.specs.Bytes.{u16_at, u32_at, u16, u32, mark_at}
use Rattle.paper.specs.Tests.{any_below, all_below, any_of, all_of, Every, first_from, table_from, gather}
use Rattle.paper.specs.Trailer.{edition, base, field, new_byte, rules_of, start_of, mark_ok, total_ok, count_ok, lengths_ok, rules_ok, offset_ok, offsets_ok}
use Rattle.paper.specs.Records.{letter_ok, row_fields, row_ok, part_fields, part_ok, assert_fields, assert_ok, record_ok, table_ok, part_len, term_len, assert_fits}
use Rattle.paper.specs.Refusals.{content_refusal, table_refusal, refusal}
use Rattle.paper.specs.Rows.{stretch, row_of, row}
use Rattle.paper.specs.Terms.{part_of, places_of, piece, term, full_length, cut_inside}
use Rattle.paper.specs.Rules.{no_rule}
use Rattle.paper.specs.Editions.{in_edition, move_refusal}
use Rattle.paper.specs.Sheet.{claim_of, letter, parts_of, inside, span_at, row_at, part_at, assertion_at, text_of, grammar_of, table_of, sheet_of}
use Rattle.paper.specs.Open.{term_on}
use Rattle.paper.specs.Decide as decide
use Rattle.paper.specs.Decide.{rounds, closure, null_row, null_rule, nullable, reach_row, reach_rule, carried, reaches, fits, some_in, split, own_row, level, accepts}
use Rattle.paper.specs.Opens.{allows, pattern, meet, meet_from, can_hold, is_unknown, can_fail, can, possible, opens_on, opens}
use Rattle.paper.specs.Walk.{run, rising, tree, walk}
use Rattle.paper.specs.Cuts.{splits, own_opts, options, option_bytes, all_bytes, head_bytes, entry, group, groups, list_trailer, cut_list}
use Rattle.paper.specs.Gate.{trailer_of, group_at}
use Rattle.paper.specs.Answers.{words, walk_of, under, solver_refusal, solver_says}
use Rattle.paper.specs.SheetBytes.{record6, record12, edition_bytes, sheet_bytes}
use Rattle.paper.specs.Keys.{all_of_v, v_in_row, rows_b, sheet_b, sheet_k5, sheet_k7, sheet_cut, sheet_k8, sheet_k9, sheet_k10, sheet_k11, sheet_k12, sheet_within, sheet_term, sheet_long, Right, keys}

-- K1 to K12, the limits, and the keys of the changes
pub keys_right : Every Right keys
unfolding keys record6 record12 edition_bytes sheet_bytes all_of_v v_in_row rows_b sheet_b sheet_k5 sheet_k7 sheet_cut sheet_k8 sheet_k9 sheet_k10 sheet_k11 sheet_k12 sheet_within sheet_term sheet_long
    u16_at u32_at u16 u32 mark_at any_below all_below any_of all_of first_from table_from gather
    edition base field new_byte rules_of start_of mark_ok total_ok count_ok lengths_ok rules_ok offset_ok offsets_ok
    letter_ok row_fields row_ok part_fields part_ok assert_fields assert_ok record_ok table_ok part_len term_len assert_fits content_refusal table_refusal refusal
    stretch row_of row part_of places_of piece term full_length cut_inside claim_of letter parts_of inside span_at row_at part_at assertion_at text_of grammar_of table_of sheet_of term_on
    rounds closure null_row null_rule nullable reach_row reach_rule carried reaches fits some_in split own_row level decide.up_to accepts
    allows pattern meet meet_from can_hold is_unknown can_fail can possible opens_on opens run rising tree walk
    splits own_opts options option_bytes all_bytes head_bytes entry group groups list_trailer cut_list trailer_of group_at words walk_of under solver_refusal solver_says no_rule in_edition move_refusal
keys_right = (refl, (refl, (refl, (refl, (refl, (refl, (refl, (refl, (refl, (refl, (refl, ((refl, refl), (refl, (refl, (refl, (refl, (refl, (refl, (refl, (refl, (refl, (refl, (refl, (refl, (refl, (refl, (refl, (refl, (refl, (refl, (refl, (refl, (refl, (refl, ((refl, refl), ((refl, refl), (refl, (refl, (refl, (refl, tt))))))))))))))))))))))))))))))))))))))))
