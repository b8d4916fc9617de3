-- What inner functions say of widths, of parts of the text and of scratch, and no promise to a caller.
use Rattle.std.specs.Prelude.{◌≡◌, List, [], ℕ, suc, ◌+◌, ◌*◌, ◌<◌, get_or}
use Rattle.graph.specs.Finite.{if_less}
use Rattle.graph.specs.Graph.{Graph, index, node, output}
use Rattle.aiger.specs.Export.{gates_before, exported, node_gates, ended, threes}
use Rattle.aiger_export.specs.declared.steps.Steps.{Steps}

-- the bytes of a literal with index k and of the byte after it, where these are the steps
unfoldable pub wide_by : Steps → ℕ → ℕ
wide_by s k = 2 + if_less k s.two 0 1 + if_less k s.three 0 1 + if_less k s.four 0 1 + if_less k s.five 0 1 + if_less k s.six 0 1

-- the steps of the text's own indices: half of 10, 100, .., 100000
abbrev pub halves : Steps
halves = record { two = 5; three = 50; four = 500; five = 5000; six = 50000 }

-- the bytes of the ANDs of an XOR and of a majority, the first with index b, where their words are that wide
unfoldable pub xor_wide : ℕ → ℕ → ℕ → ℕ
xor_wide b x y = 2 * wide_by halves b + 2 * wide_by halves (b + 1) + wide_by halves (b + 2) + 2 * x + 2 * y

unfoldable pub majority_wide : ℕ → ℕ → ℕ → ℕ → ℕ
majority_wide b x y z =
    2 * wide_by halves b + 2 * wide_by halves (b + 1) + 2 * wide_by halves (b + 2) + wide_by halves (b + 3) + x + 2 * y + 2 * z

-- from index c on, and not before, the literals of g have in the export an index of at least h
abbrev pub Step : Graph → ℕ → ℕ → Type 0
Step g h c = (x : ℕ) → index x < node g g.N → ◌≡◌ {A = ℕ} (if_less (index x) c 0 1) (if_less (index (exported g x)) h 0 1)

-- steps that give the width in the export of every literal of g
abbrev pub Fit : Graph → Steps → Type 0
Fit g s = (x : ℕ) → index x < node g g.N → wide_by s (index x) ≡ wide_by halves (index (exported g x))

-- the even literal of node v in the export, and scratch that has it for every node
unfoldable pub node_literal : Graph → ℕ → ℕ
node_literal g v = 2 * (g.I + gates_before g (suc v))

abbrev pub Filled : Graph → List ℕ → Type 0
Filled g s = (v : ℕ) → v < g.N → get_or s v 0 ≡ node_literal g v

-- a line of three numbers, those of input k and of output j, and the lines of node v
unfoldable pub three_line : ℕ → ℕ → ℕ → List ℕ
three_line x y z = ended x 32 (ended y 32 (ended z 10 []))

unfoldable pub input_line : ℕ → List ℕ
input_line k = ended (2 * (1 + k)) 10 []

unfoldable pub output_line : Graph → ℕ → List ℕ
output_line g j = ended (exported g (output g j)) 10 []

unfoldable pub node_lines : Graph → ℕ → List ℕ
node_lines g v = threes (node_gates g v)
