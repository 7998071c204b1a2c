-- The table of plates: computed once.
use Rattle.std.proofs.Common.{◌≡◌, refl, true, []}
use Rattle.counting.specs.Counts.{count}
use Rattle.counting.specs.Below.{all_below, some_below, lowest_below, list_below, tabulate, table, join_below}
use Rattle.orbits.specs.Tables.{traced, is_permutation, permutes_from, trace_from, walk_from, unnumbered_below}
use Rattle.digraph.specs.Digraph.{flat}
use Rattle.digraph.specs.Relaxed.{joins, within_of, raised, relaxed, rounds, climbs, levels_of}
use Rattle.digraph.specs.Relaxed as digraph
use Rattle.text.specs.Reading.{digit_of, number_of, starts_with, before, line_end_at, after_number, numbers_from, closed, line_at, last_closed, last_line_at}
use Rattle.text.specs.Shapes.{with_one, with_two, with_four, with_some}
use Rattle.text.specs.Written.{decimal, separated, line}
use Rattle.answers.specs.Answers.{refusal_number}
use Rattle.answers.specs.Refusals.{first, answering}
use Rattle.clauses.specs.Darts.{opposite, touches_of, dart_of}
use Rattle.sheet.specs.Darts.{vertex}
use Rattle.sheet.specs.Fresh.{fresh_sheet}
use Rattle.sheet.specs.Check.{sound, within_limits, joined, in_rings, unused_zero, rooted, acyclic, row_levels, poles, incoming, outgoing, planar, face_table, column_levels, face_from, face_to, edge_table, judge_by}
use Rattle.sheet.specs.Inner.{structured}
use Rattle.load.specs.Rings.{occurrences, all_in, is_rotation, link_from}
use Rattle.orientation.specs.Ears.{is_placed, first_order, raise, insert_at, entry, own_parents, is_reached, enters, relax, sweep, exits, exit, explored, parents_from, put_along, put_ear, with_ear, with_ears, order_of, is_reversed, chosen_tail, chosen_head, oriented}
use Rattle.orientation.specs.Ears as orientation
use Rattle.load.specs.Load.{empty_sheet, with_edge, with_nexts, edge_key, directed, judge_of, judged, ring_lines, edge_lines, with_count, load_lines, load_from}
use Rattle.edit.specs.Lines.{edit_of, line_length}
use Rattle.edit.specs.Reaching.{marked, marked_times, leads_to}
use Rattle.edit.specs.Changes.{renamed, replace_dart, insert_dart, remove_dart, put_in, run_edge, last_edge_to, last_vertex_to, take_out_edge, take_out_vertex, incoming_edge, outgoing_edge}
use Rattle.edit.specs.Calls.{put_in_answer, corner_face, run_answer, out_degree, in_degree, take_out_edge_answer, take_out_vertex_answer, apply, sheet_after}
use Rattle.drawing.specs.Draw.{edge_column, right_column, columns_at, least, greatest, first_column, last_column, vertex_segment, edge_segment, drawing_of}
use Rattle.drawing.specs.Write.{vertex_line, edge_line, drawing_text}
use Rattle.program.specs.Program.{refused_line, edit_output, edits_output, input_form, loaded_output, plate_output}
use Rattle.examples.specs.Described.{rings_from, edges_from, lines_described, described}
use Rattle.examples.specs.Plates.{lines, plates, same, same_sheet, as_remarked, all_printed}
use Rattle.examples.specs.Plates.Remark.{none}
use Rattle.examples.specs.Printed.{PlatesPrinted}
use Rattle.examples.proofs.Lists.{each_printed}

printed : all_printed plates ≡ true
unfolding count all_below some_below lowest_below list_below tabulate table join_below traced is_permutation permutes_from trace_from walk_from unnumbered_below flat joins within_of raised relaxed rounds climbs digraph.answer levels_of digit_of number_of starts_with before line_end_at after_number numbers_from closed line_at last_closed last_line_at with_one with_two with_four with_some decimal separated line refusal_number first answering opposite vertex touches_of dart_of fresh_sheet sound within_limits joined in_rings unused_zero rooted acyclic row_levels poles incoming outgoing planar face_table column_levels face_from face_to edge_table occurrences all_in is_rotation link_from empty_sheet with_edge with_nexts edge_key directed is_placed first_order raise orientation.raised insert_at entry own_parents is_reached enters orientation.relaxed relax sweep exits exit explored parents_from put_along put_ear with_ear with_ears order_of is_reversed chosen_tail chosen_head oriented judge_by judge_of judged ring_lines edge_lines with_count load_lines load_from edit_of line_length marked marked_times leads_to renamed replace_dart insert_dart remove_dart put_in run_edge last_edge_to last_vertex_to take_out_edge take_out_vertex incoming_edge outgoing_edge put_in_answer corner_face run_answer out_degree in_degree take_out_edge_answer take_out_vertex_answer apply sheet_after edge_column right_column columns_at least greatest first_column last_column vertex_segment edge_segment drawing_of vertex_line edge_line drawing_text refused_line edit_output edits_output input_form loaded_output plate_output rings_from edges_from lines_described described structured lines plates same same_sheet as_remarked all_printed
printed = refl

pub plates_printed : PlatesPrinted
plates_printed i h = each_printed plates (record { sheet = none; input = []; output = [] }) printed i h
