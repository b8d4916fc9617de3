-- One majority is found again: its import by computation, then the worked finder of crate hidden, then a node call by computation.
use mathlib.Core.Path.{◌≡◌, refl, ap, ◌∙◌}
use mathlib.Core.List.{List, [], ◌∷◌, flat_map}
use Prim.Native.Nat.{ℕ}
use Rattle.graph.specs.Finite.{tab, sum, count, if_less, if_equal, first, first_of}
use Rattle.graph.specs.Graph.{turn, is_xor, is_edge}
use Rattle.graph.specs.Turned.{turned_table, turned_by}
use Rattle.graph.specs.Count.{adds, word_adds, node_adds, output_adds, C, named, output_named, node_readers, readers}
use Rattle.graph.specs.Admission.{room_number, tables_number, word_number, output_number, literal_number, lock_number, locks_number, content_number, admission_number, stray_number, strays_number}
use Rattle.graph.specs.Answer.{guarded}
use Rattle.choice.specs.Choice.{from, choices, unless_less, least, best}
use Rattle.moves.specs.Rows.{rows, first_row, arity, flag, kind_moves, lock_at, moves_at}
use Rattle.moves.specs.Apply.{at, put, seen, own, turns, output_turns, apply}
use Rattle.moves.specs.Tree.{is_root, last, place, reader, root_in, root_of, members, tree}
use Rattle.moves.specs.Call.{moved, moved_c, best_at, rewrite, is_node, node_fault, word_fault, root_fault, scratch_fault, node_number, node_call, named_by, pair_number, pair_rewrite, pair_call, tree_number, tree_call}
use Rattle.graph.specs.Finite.{difference}
use Rattle.moves.specs.Call.{among, own_adds, other_adds, split}
use Rattle.graph.specs.Literals.{bit_of, held, strays}
use Rattle.graph.specs.Finite.{decimal_in, decimal}
use Rattle.graph.specs.Graph.{Graph, graph_of}
use Rattle.graph.specs.Literals.{literal_of, evened, cleared, filled}
use Rattle.graph.specs.Answer.{LockedOutcome, guarded_locks}
use Rattle.tagged_file.specs.Load.{free_locks}
use Rattle.aiger.specs.Lines.{if_digit, digits, worth, number, ended_number, next, line_number}
use Rattle.aiger.specs.Import.{aag_number, header_number, input_line_number, output_line_number, gate_line_number, input_lines_number, output_lines_number, gate_lines_number, body_number, import_number, gate_word, graph_imported, import_call}
use Rattle.aiger.specs.Export.{gates_of, gates_before, exported, xor_gates, majority_gates, node_gates, gates, ended, ones, threes, header, inputs, outputs, export_text}
use Rattle.hidden.proofs.Worked.{worked}
use Rattle.promises.specs.Demand.{Locked, with_locks, node_at, finding, step, left}
use Rattle.promises.specs.Found.{FoundAgain}

abbrev zeros : ℕ → List ℕ
zeros n = tab n (λ j. 0)

abbrev majority : Graph
majority = graph_of 3 1 1 (2 ∷ 4 ∷ 6 ∷ []) (8 ∷ [])

abbrev four : Locked
four = with_locks (graph_of 3 4 1 (0 ∷ 5 ∷ 7 ∷ 0 ∷ 2 ∷ 9 ∷ 0 ∷ 4 ∷ 6 ∷ 0 ∷ 11 ∷ 13 ∷ []) (15 ∷ [])) (0 ∷ 0 ∷ 0 ∷ 0 ∷ [])

imported_is : left (import_call (export_text majority) (zeros 12) (zeros 1) (zeros 4)) ≡ four
unfolding import_call free_locks guarded_locks import_number header_number aag_number room_number input_lines_number output_lines_number gate_lines_number body_number input_line_number output_line_number gate_line_number line_number ended_number next number worth digits if_digit if_less if_equal first first_of graph_imported gate_word filled cleared evened literal_of held count sum tab export_text header inputs outputs ones threes ended gates node_gates majority_gates xor_gates exported gates_before gates_of is_xor turn decimal decimal_in
imported_is = refl

abbrev made : Locked
made = with_locks (graph_of 3 1 1 (3 ∷ 5 ∷ 7 ∷ 0 ∷ 0 ∷ 0 ∷ 0 ∷ 0 ∷ 0 ∷ 0 ∷ 0 ∷ 0 ∷ []) (9 ∷ [])) (0 ∷ 0 ∷ 0 ∷ 0 ∷ [])

node_turned : (step made (node_at 4)).graph ≡ graph_of 3 1 1 (2 ∷ 4 ∷ 6 ∷ 0 ∷ 0 ∷ 0 ∷ 0 ∷ 0 ∷ 0 ∷ 0 ∷ 0 ∷ 0 ∷ []) (8 ∷ [])
unfolding flat_map tab sum count if_less if_equal first first_of turn is_xor is_edge adds word_adds node_adds output_adds C named output_named node_readers readers tables_number room_number word_number output_number literal_number lock_number locks_number content_number admission_number guarded from choices unless_less least best rows first_row arity flag kind_moves lock_at moves_at at put seen own turns output_turns turned_table turned_by apply is_root last place reader root_in root_of members tree moved moved_c best_at rewrite is_node node_fault word_fault root_fault scratch_fault node_number node_call named_by pair_number pair_rewrite pair_call tree_number tree_call difference among own_adds other_adds split held strays bit_of strays_number stray_number
node_turned = refl

pub found_again : FoundAgain
unfolding tab
found_again =
    let f = ap (λ (d : Locked). step d (finding (zeros 32))) imported_is ∙ worked.imported_found in
    record { found = f; turned = ap (λ (o : LockedOutcome). (step (left o) (node_at 4)).graph) f ∙ node_turned }
