-- Document 01's report of P1, letter for letter, that of P1's file with one byte more, and that of P1 with its node locked: by
-- computation.
use mathlib.Core.Path.{◌≡◌, refl}
use mathlib.Core.List.{List, [], ◌∷◌, ◌++◌, flat_map}
use Prim.Native.Nat.{ℕ}
use Rattle.graph.specs.Finite.{tab, sum, count, if_less, if_equal, first, first_of, difference, decimal_in, decimal}
use Rattle.graph.specs.Graph.{turn, is_xor, is_edge}
use Rattle.graph.specs.Turned.{turned_table, turned_by}
use Rattle.graph.specs.Count.{adds, word_adds, node_adds, output_adds, C, named, output_named, node_readers, readers}
use Rattle.graph.specs.Admission.{room_number, tables_number, word_number, output_number, literal_number, lock_number, locks_number, content_number, admission_number, stray_number, strays_number}
use Rattle.graph.specs.Answer.{guarded, guarded_locks}
use Rattle.choice.specs.Choice.{from, choices, unless_less, least, best}
use Rattle.moves.specs.Rows.{rows, first_row, arity, flag, kind_moves, lock_at, moves_at}
use Rattle.moves.specs.Apply.{at, put, seen, own, turns, output_turns, apply}
use Rattle.moves.specs.Tree.{is_root, last, place, reader, root_in, root_of, members, tree}
use Rattle.moves.specs.Call.{moved, moved_c, best_at, rewrite, is_node, node_fault, word_fault, root_fault, scratch_fault, node_number, node_call, named_by, pair_number, pair_rewrite, pair_call, tree_number, tree_call, among, own_adds, other_adds, split}
use Rattle.rounds.specs.Round.{start, after, each, tree_at, node_at, pair_at, pairs_at, round}
use Rattle.rounds.specs.Settle.{settle_in, settle, settle_number, settle_call}
use Rattle.file_checks.specs.File.{be2, be4, payload_of, due_number, node_size, third, head_number, lock_field_number, end_number, lock_count, file_number, locks_from, lock_indices}
use Rattle.file_checks.specs.File as file
use Rattle.tagged_file.specs.Load.{graph_read, locks_read, load_call}
use Rattle.report.specs.Report.{sizes_line, counts_line, node_line, output_line, node_line_at, output_line_at, settled_text, text_of, then_settle, settled_file, inputs_text, nodes_text, outputs_text, before_text, after_text, rounds_text, node_text, maj_text, xor_text, space_text, out_text, refused_text, numbered, line1, line2, line3, line4}
use Rattle.report.specs.Promises.{p1, P1Report}
use Rattle.graph.specs.Literals.{bit_of, held, strays, evened, cleared, filled}

-- P1's file with node 4 locked
abbrev p1_locked : List ℕ
p1_locked =
    1 ∷ 0 ∷ 12 ∷ 0 ∷ 0 ∷ 0 ∷ 3 ∷ 0 ∷ 0 ∷ 0 ∷ 1 ∷ 0 ∷ 0 ∷ 0 ∷ 1
    ∷ 2 ∷ 0 ∷ 12 ∷ 0 ∷ 0 ∷ 0 ∷ 3 ∷ 0 ∷ 0 ∷ 0 ∷ 5 ∷ 0 ∷ 0 ∷ 0 ∷ 7
    ∷ 4 ∷ 0 ∷ 4 ∷ 0 ∷ 0 ∷ 0 ∷ 9
    ∷ 6 ∷ 0 ∷ 4 ∷ 0 ∷ 0 ∷ 0 ∷ 4
    ∷ 5 ∷ 0 ∷ 0 ∷ []

-- "inputs 3 nodes 1 outputs 1" and a newline
abbrev text1 : List ℕ
text1 = 105 ∷ 110 ∷ 112 ∷ 117 ∷ 116 ∷ 115 ∷ 32 ∷ 51 ∷ 32 ∷ 110 ∷ 111 ∷ 100 ∷ 101 ∷ 115 ∷ 32 ∷ 49 ∷ 32 ∷ 111 ∷ 117 ∷ 116 ∷ 112 ∷ 117 ∷ 116 ∷ 115 ∷ 32 ∷ 49 ∷ 10 ∷ []

-- "before 4 after 4 rounds 1", "node 4 maj 3 5 7" and "out 9", a newline after each
abbrev text5 : List ℕ
text5 = 98 ∷ 101 ∷ 102 ∷ 111 ∷ 114 ∷ 101 ∷ 32 ∷ 52 ∷ 32 ∷ 97 ∷ 102 ∷ 116 ∷ 101 ∷ 114 ∷ 32 ∷ 52 ∷ 32 ∷ 114 ∷ 111 ∷ 117 ∷ 110 ∷ 100 ∷ 115 ∷ 32 ∷ 49 ∷ 10 ∷ []

abbrev text6 : List ℕ
text6 = 110 ∷ 111 ∷ 100 ∷ 101 ∷ 32 ∷ 52 ∷ 32 ∷ 109 ∷ 97 ∷ 106 ∷ 32 ∷ 51 ∷ 32 ∷ 53 ∷ 32 ∷ 55 ∷ 10 ∷ []

abbrev text7 : List ℕ
text7 = 111 ∷ 117 ∷ 116 ∷ 32 ∷ 57 ∷ 10 ∷ []

-- "refused 6" and a newline
abbrev refused6 : List ℕ
refused6 = 114 ∷ 101 ∷ 102 ∷ 117 ∷ 115 ∷ 101 ∷ 100 ∷ 32 ∷ 54 ∷ 10 ∷ []

pub p1_report : P1Report
unfolding flat_map tab sum count if_less if_equal first first_of turn is_xor is_edge adds word_adds node_adds output_adds C named output_named node_readers readers tables_number room_number word_number output_number literal_number lock_number locks_number content_number admission_number guarded guarded_locks decimal_in decimal from choices unless_less least best rows first_row arity flag kind_moves lock_at moves_at at put seen own turns output_turns turned_table turned_by apply is_root last place reader root_in root_of members tree moved moved_c best_at rewrite is_node node_fault word_fault root_fault scratch_fault node_number node_call named_by pair_number pair_rewrite pair_call tree_number tree_call difference among own_adds other_adds split start after each tree_at node_at pair_at pairs_at round settle_in settle settle_number settle_call be2 be4 payload_of due_number node_size third head_number lock_field_number end_number lock_count file_number locks_from lock_indices file.node_field_number file.output_field_number graph_read locks_read load_call inputs_text nodes_text outputs_text before_text after_text rounds_text node_text maj_text xor_text space_text out_text refused_text numbered line1 line2 line3 line4 sizes_line counts_line node_line output_line node_line_at output_line_at settled_text text_of then_settle settled_file held strays bit_of strays_number stray_number cleared evened filled
p1_report = refl

pub p1_longer : text_of (settled_file (p1 ++ (0 ∷ [])) (0 ∷ 0 ∷ 0 ∷ []) (0 ∷ []) (1 ∷ []) 8) ≡ refused6
unfolding flat_map tab sum count if_less if_equal first first_of turn is_xor is_edge adds word_adds node_adds output_adds C named output_named node_readers readers tables_number room_number word_number output_number literal_number lock_number locks_number content_number admission_number guarded guarded_locks decimal_in decimal from choices unless_less least best rows first_row arity flag kind_moves lock_at moves_at at put seen own turns output_turns turned_table turned_by apply is_root last place reader root_in root_of members tree moved moved_c best_at rewrite is_node node_fault word_fault root_fault scratch_fault node_number node_call named_by pair_number pair_rewrite pair_call tree_number tree_call difference among own_adds other_adds split start after each tree_at node_at pair_at pairs_at round settle_in settle settle_number settle_call be2 be4 payload_of due_number node_size third head_number lock_field_number end_number lock_count file_number locks_from lock_indices file.node_field_number file.output_field_number graph_read locks_read load_call inputs_text nodes_text outputs_text before_text after_text rounds_text node_text maj_text xor_text space_text out_text refused_text numbered line1 line2 line3 line4 sizes_line counts_line node_line output_line node_line_at output_line_at settled_text text_of then_settle settled_file held strays bit_of strays_number stray_number cleared evened filled
p1_longer = refl

pub p1_locked_lem : text_of (settled_file p1_locked (0 ∷ 0 ∷ 0 ∷ []) (0 ∷ []) (0 ∷ []) 8) ≡ text1 ++ (text5 ++ (text6 ++ text7))
unfolding flat_map tab sum count if_less if_equal first first_of turn is_xor is_edge adds word_adds node_adds output_adds C named output_named node_readers readers tables_number room_number word_number output_number literal_number lock_number locks_number content_number admission_number guarded guarded_locks decimal_in decimal from choices unless_less least best rows first_row arity flag kind_moves lock_at moves_at at put seen own turns output_turns turned_table turned_by apply is_root last place reader root_in root_of members tree moved moved_c best_at rewrite is_node node_fault word_fault root_fault scratch_fault node_number node_call named_by pair_number pair_rewrite pair_call tree_number tree_call difference among own_adds other_adds split start after each tree_at node_at pair_at pairs_at round settle_in settle settle_number settle_call be2 be4 payload_of due_number node_size third head_number lock_field_number end_number lock_count file_number locks_from lock_indices file.node_field_number file.output_field_number graph_read locks_read load_call inputs_text nodes_text outputs_text before_text after_text rounds_text node_text maj_text xor_text space_text out_text refused_text numbered line1 line2 line3 line4 sizes_line counts_line node_line output_line node_line_at output_line_at settled_text text_of then_settle settled_file held strays bit_of strays_number stray_number cleared evened filled
p1_locked_lem = refl
