-- Worked values of the definitions: a majority and an XOR as text, and back. By computing.
use mathlib.Core.Path.{◌≡◌, refl}
use mathlib.Core.List.{List, [], ◌∷◌}
use Prim.Native.Nat.{ℕ}
use Rattle.graph.specs.Finite.{if_less, if_equal, first, first_of, sum, tab, count, decimal_in, decimal}
use Rattle.graph.specs.Literals.{literal_of, held, evened, cleared, filled}
use Rattle.graph.specs.Graph.{graph_of, mark, is_xor, turn}
use Rattle.aiger.specs.Lines.{if_digit, digits, worth, number, ended_number, next, line_number}
use Rattle.graph.specs.Admission.{room_number}
use Rattle.graph.specs.Answer.{guarded_locks}
use Rattle.tagged_file.specs.Load.{free_locks}
use Rattle.aiger.specs.Import.{aag_number, header_number, input_line_number, output_line_number, gate_line_number, input_lines_number, output_lines_number, gate_lines_number, body_number, import_number, gate_word, graph_imported, import_call}
use Rattle.aiger.specs.Export.{gates_of, gates_before, exported, xor_gates, majority_gates, node_gates, gates, ended, ones, threes, header, inputs, outputs, export_text}

-- "aag 7 3 0 1 4|2|4|6|15|8 5 7|10 2 9|12 4 6|14 11 13|"
abbrev majority_text : List ℕ
majority_text =
    97 ∷ 97 ∷ 103 ∷ 32 ∷ 55 ∷ 32 ∷ 51 ∷ 32 ∷ 48 ∷ 32 ∷ 49 ∷ 32 ∷ 52 ∷ 10
    ∷ 50 ∷ 10 ∷ 52 ∷ 10 ∷ 54 ∷ 10
    ∷ 49 ∷ 53 ∷ 10
    ∷ 56 ∷ 32 ∷ 53 ∷ 32 ∷ 55 ∷ 10
    ∷ 49 ∷ 48 ∷ 32 ∷ 50 ∷ 32 ∷ 57 ∷ 10
    ∷ 49 ∷ 50 ∷ 32 ∷ 52 ∷ 32 ∷ 54 ∷ 10
    ∷ 49 ∷ 52 ∷ 32 ∷ 49 ∷ 49 ∷ 32 ∷ 49 ∷ 51 ∷ 10
    ∷ []

-- "aag 5 2 0 1 3|2|4|11|6 2 5|8 3 4|10 7 9|"
abbrev xor_text : List ℕ
xor_text =
    97 ∷ 97 ∷ 103 ∷ 32 ∷ 53 ∷ 32 ∷ 50 ∷ 32 ∷ 48 ∷ 32 ∷ 49 ∷ 32 ∷ 51 ∷ 10
    ∷ 50 ∷ 10 ∷ 52 ∷ 10
    ∷ 49 ∷ 49 ∷ 10
    ∷ 54 ∷ 32 ∷ 50 ∷ 32 ∷ 53 ∷ 10
    ∷ 56 ∷ 32 ∷ 51 ∷ 32 ∷ 52 ∷ 10
    ∷ 49 ∷ 48 ∷ 32 ∷ 55 ∷ 32 ∷ 57 ∷ 10
    ∷ []

pub majority_text_lem : export_text (graph_of 3 1 1 (2 ∷ 4 ∷ 6 ∷ []) (8 ∷ [])) ≡ majority_text
unfolding export_text header inputs outputs ones threes ended gates node_gates majority_gates xor_gates exported gates_before gates_of is_xor turn decimal decimal_in if_less sum tab
majority_text_lem = refl

pub xor_text_lem : export_text (graph_of 2 1 1 (2 ∷ 4 ∷ mark ∷ []) (6 ∷ [])) ≡ xor_text
unfolding export_text header inputs outputs ones threes ended gates node_gates majority_gates xor_gates exported gates_before gates_of is_xor turn decimal decimal_in if_less sum tab
xor_text_lem = refl

-- the second word of the node table's tail keeps its index and loses its bit
pub majority_graph : graph_imported majority_text (1 ∷ 1 ∷ 1 ∷ 1 ∷ 1 ∷ 1 ∷ 1 ∷ 1 ∷ 1 ∷ 1 ∷ 1 ∷ 1 ∷ 70 ∷ 71 ∷ []) (1 ∷ 72 ∷ [])
    ≡ graph_of 3 4 1 (0 ∷ 5 ∷ 7 ∷ 0 ∷ 2 ∷ 9 ∷ 0 ∷ 4 ∷ 6 ∷ 0 ∷ 11 ∷ 13 ∷ 70 ∷ 70 ∷ []) (15 ∷ 72 ∷ [])
unfolding graph_imported gate_word next number worth digits if_digit if_less if_equal tab filled cleared evened literal_of
majority_graph = refl

pub majority_numbers : (import_number majority_text 12 1 4 ∷ import_number majority_text 11 1 4 ∷ import_number majority_text 12 0 4 ∷ import_number majority_text 12 1 3 ∷ []) ≡ (0 ∷ 4 ∷ 4 ∷ 4 ∷ [])
unfolding import_number header_number aag_number room_number input_lines_number output_lines_number gate_lines_number body_number input_line_number output_line_number gate_line_number line_number ended_number next number worth digits if_digit if_less if_equal first first_of
majority_numbers = refl

-- every node is free, and a later byte is kept
pub majority_locks : (import_call majority_text (1 ∷ 1 ∷ 1 ∷ 1 ∷ 1 ∷ 1 ∷ 1 ∷ 1 ∷ 1 ∷ 1 ∷ 1 ∷ 1 ∷ []) (1 ∷ []) (1 ∷ 2 ∷ 1 ∷ 1 ∷ 9 ∷ [])).locks ≡ 0 ∷ 0 ∷ 0 ∷ 0 ∷ 9 ∷ []
unfolding import_call free_locks guarded_locks import_number header_number aag_number room_number input_lines_number output_lines_number gate_lines_number body_number input_line_number output_line_number gate_line_number line_number ended_number next number worth digits if_digit if_less if_equal first first_of tab held count sum filled cleared evened literal_of
majority_locks = refl

-- faults, with room for one gate, its lock and one output
abbrev fault : List ℕ → ℕ
fault s = import_number s 3 1 1

-- a leading zero: "aag 07 3 0 1 4|"
pub leading_zero : fault (97 ∷ 97 ∷ 103 ∷ 32 ∷ 48 ∷ 55 ∷ 32 ∷ 51 ∷ 32 ∷ 48 ∷ 32 ∷ 49 ∷ 32 ∷ 52 ∷ 10 ∷ []) ≡ 10
unfolding import_number header_number aag_number room_number input_lines_number output_lines_number gate_lines_number body_number input_line_number output_line_number gate_line_number line_number ended_number next number worth digits if_digit if_less if_equal first first_of
leading_zero = refl

-- a sixth number: "aag 3 3 0 0 0 0|"
pub sixth : fault (97 ∷ 97 ∷ 103 ∷ 32 ∷ 51 ∷ 32 ∷ 51 ∷ 32 ∷ 48 ∷ 32 ∷ 48 ∷ 32 ∷ 48 ∷ 32 ∷ 48 ∷ 10 ∷ []) ≡ 10
unfolding import_number header_number aag_number room_number input_lines_number output_lines_number gate_lines_number body_number input_line_number output_line_number gate_line_number line_number ended_number next number worth digits if_digit if_less if_equal first first_of
sixth = refl

-- the last newline is missing: "aag 1 1 0 0 0|2"
pub no_newline : fault (97 ∷ 97 ∷ 103 ∷ 32 ∷ 49 ∷ 32 ∷ 49 ∷ 32 ∷ 48 ∷ 32 ∷ 48 ∷ 32 ∷ 48 ∷ 10 ∷ 50 ∷ []) ≡ 10
unfolding import_number header_number aag_number room_number input_lines_number output_lines_number gate_lines_number body_number input_line_number output_line_number gate_line_number line_number ended_number next number worth digits if_digit if_less if_equal first first_of
no_newline = refl

-- 11 comes before 12: "aag 9 1 1 0 0|"
pub latches : fault (97 ∷ 97 ∷ 103 ∷ 32 ∷ 57 ∷ 32 ∷ 49 ∷ 32 ∷ 49 ∷ 32 ∷ 48 ∷ 32 ∷ 48 ∷ 10 ∷ []) ≡ 11
unfolding import_number header_number aag_number room_number input_lines_number output_lines_number gate_lines_number body_number input_line_number output_line_number gate_line_number line_number ended_number next number worth digits if_digit if_less if_equal first first_of
latches = refl

-- 12 before 3: "aag 9 5000 0 0 0|"
pub maximum : fault (97 ∷ 97 ∷ 103 ∷ 32 ∷ 57 ∷ 32 ∷ 53 ∷ 48 ∷ 48 ∷ 48 ∷ 32 ∷ 48 ∷ 32 ∷ 48 ∷ 32 ∷ 48 ∷ 10 ∷ []) ≡ 12
unfolding import_number header_number aag_number room_number input_lines_number output_lines_number gate_lines_number body_number input_line_number output_line_number gate_line_number line_number ended_number next number worth digits if_digit if_less if_equal first first_of
maximum = refl

-- 3 before a missing line: "aag 5000 5000 0 0 0|"
pub many : fault (97 ∷ 97 ∷ 103 ∷ 32 ∷ 53 ∷ 48 ∷ 48 ∷ 48 ∷ 32 ∷ 53 ∷ 48 ∷ 48 ∷ 48 ∷ 32 ∷ 48 ∷ 32 ∷ 48 ∷ 32 ∷ 48 ∷ 10 ∷ []) ≡ 3
unfolding import_number header_number aag_number room_number input_lines_number output_lines_number gate_lines_number body_number input_line_number output_line_number gate_line_number line_number ended_number next number worth digits if_digit if_less if_equal first first_of
many = refl

-- an input that is not 2: "aag 1 1 0 0 0|4|"
pub wrong_input : fault (97 ∷ 97 ∷ 103 ∷ 32 ∷ 49 ∷ 32 ∷ 49 ∷ 32 ∷ 48 ∷ 32 ∷ 48 ∷ 32 ∷ 48 ∷ 10 ∷ 52 ∷ 10 ∷ []) ≡ 12
unfolding import_number header_number aag_number room_number input_lines_number output_lines_number gate_lines_number body_number input_line_number output_line_number gate_line_number line_number ended_number next number worth digits if_digit if_less if_equal first first_of
wrong_input = refl

-- gates go on after the inputs: "aag 2 1 0 0 1|2|2 0 1|"
pub restart : fault (97 ∷ 97 ∷ 103 ∷ 32 ∷ 50 ∷ 32 ∷ 49 ∷ 32 ∷ 48 ∷ 32 ∷ 48 ∷ 32 ∷ 49 ∷ 10 ∷ 50 ∷ 10 ∷ 50 ∷ 32 ∷ 48 ∷ 32 ∷ 49 ∷ 10 ∷ []) ≡ 12
unfolding import_number header_number aag_number room_number input_lines_number output_lines_number gate_lines_number body_number input_line_number output_line_number gate_line_number line_number ended_number next number worth digits if_digit if_less if_equal first first_of
restart = refl

-- a gate that names itself: "aag 2 1 0 0 1|2|4 2 4|"
pub own_index : fault (97 ∷ 97 ∷ 103 ∷ 32 ∷ 50 ∷ 32 ∷ 49 ∷ 32 ∷ 48 ∷ 32 ∷ 48 ∷ 32 ∷ 49 ∷ 10 ∷ 50 ∷ 10 ∷ 52 ∷ 32 ∷ 50 ∷ 32 ∷ 52 ∷ 10 ∷ []) ≡ 5
unfolding import_number header_number aag_number room_number input_lines_number output_lines_number gate_lines_number body_number input_line_number output_line_number gate_line_number line_number ended_number next number worth digits if_digit if_less if_equal first first_of
own_index = refl

-- an output above the last index: "aag 1 1 0 1 0|2|4|"
pub high_output : fault (97 ∷ 97 ∷ 103 ∷ 32 ∷ 49 ∷ 32 ∷ 49 ∷ 32 ∷ 48 ∷ 32 ∷ 49 ∷ 32 ∷ 48 ∷ 10 ∷ 50 ∷ 10 ∷ 52 ∷ 10 ∷ []) ≡ 5
unfolding import_number header_number aag_number room_number input_lines_number output_lines_number gate_lines_number body_number input_line_number output_line_number gate_line_number line_number ended_number next number worth digits if_digit if_less if_equal first first_of
high_output = refl

-- text after the last gate is not read: "aag 2 1 0 1 1|2|5|4 2 3|c|"
pub extra : fault (97 ∷ 97 ∷ 103 ∷ 32 ∷ 50 ∷ 32 ∷ 49 ∷ 32 ∷ 48 ∷ 32 ∷ 49 ∷ 32 ∷ 49 ∷ 10 ∷ 50 ∷ 10 ∷ 53 ∷ 10 ∷ 52 ∷ 32 ∷ 50 ∷ 32 ∷ 51 ∷ 10 ∷ 99 ∷ 10 ∷ []) ≡ 0
unfolding import_number header_number aag_number room_number input_lines_number output_lines_number gate_lines_number body_number input_line_number output_line_number gate_line_number line_number ended_number next number worth digits if_digit if_less if_equal first first_of
extra = refl

-- no inputs, gates or outputs: "aag 0 0 0 0 0|"
pub empty : fault (97 ∷ 97 ∷ 103 ∷ 32 ∷ 48 ∷ 32 ∷ 48 ∷ 32 ∷ 48 ∷ 32 ∷ 48 ∷ 32 ∷ 48 ∷ 10 ∷ []) ≡ 0
unfolding import_number header_number aag_number room_number input_lines_number output_lines_number gate_lines_number body_number input_line_number output_line_number gate_line_number line_number ended_number next number worth digits if_digit if_less if_equal first first_of
empty = refl

pub largest : ended_number 10 (52 ∷ 50 ∷ 57 ∷ 52 ∷ 57 ∷ 54 ∷ 55 ∷ 50 ∷ 57 ∷ 53 ∷ 10 ∷ []) ≡ 0
unfolding ended_number number worth digits if_digit if_less if_equal
largest = refl

pub too_large : ended_number 10 (52 ∷ 50 ∷ 57 ∷ 52 ∷ 57 ∷ 54 ∷ 55 ∷ 50 ∷ 57 ∷ 54 ∷ 10 ∷ []) ≡ 10
unfolding ended_number number worth digits if_digit if_less if_equal
too_large = refl
