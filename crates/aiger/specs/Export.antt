-- The ASCII AIGER text of a graph, and what exporting answers and leaves in the buffer.
use Rattle.std.specs.Prelude.{◌+◌, ◌-◌, ◌*◌, ◌%◌, ◌∷◌, ◌++◌}
use Rattle.graph.specs.All.{ℕ, zero, suc, cond, List, [], length, if_less, first, sum, tab, Graph, index, turn, word, output, is_xor, admission_number, decimal}
use Rattle.tagged_file.specs.All.{WriteOutcome, write_by}

-- how many ANDs a node takes, and all nodes below v
unfoldable pub gates_of : Graph → ℕ → ℕ
gates_of g v = cond (is_xor g v) 3 4

unfoldable pub gates_before : Graph → ℕ → ℕ
gates_before g v = sum v (gates_of g)

-- the literal x in the export: node v is its last AND, which has the index I + gates_before g (v + 1), complemented
unfoldable pub exported : Graph → ℕ → ℕ
exported g x = if_less g.I (index x) (2 * (g.I + gates_before g (index x - g.I)) + (x + 1) % 2) x

-- the opposite of a literal
abbrev opposite : ℕ → ℕ
opposite x = turn 1 x

-- the AND with index b of two literals: its own literal and these; more ANDs after it
abbrev pub gate : ℕ → ℕ → ℕ → List ℕ → List ℕ
gate b x y more = (2 * b) ∷ x ∷ y ∷ more

-- the ANDs of an XOR and of a majority of these literals, the first with index b
unfoldable pub xor_gates : ℕ → ℕ → ℕ → List ℕ
xor_gates b x y =
    gate b x (opposite y)
    (gate (b + 1) (opposite x) y
    (gate (b + 2) (2 * b + 1) (2 * (b + 1) + 1) []))

unfoldable pub majority_gates : ℕ → ℕ → ℕ → ℕ → List ℕ
majority_gates b x y z =
    gate b (opposite y) (opposite z)
    (gate (b + 1) x (2 * b + 1)
    (gate (b + 2) y z
    (gate (b + 3) (2 * (b + 1) + 1) (2 * (b + 2) + 1) [])))

-- those of node v
unfoldable pub node_gates : Graph → ℕ → List ℕ
node_gates g v =
    let b : ℕ = g.I + 1 + gates_before g v in
    let l : ℕ → ℕ = λ k. exported g (word g (3 * v + k)) in
    cond (is_xor g v) (xor_gates b (l 0) (l 1)) (majority_gates b (l 0) (l 1) (l 2))

-- those of the first v nodes
unfoldable pub gates : Graph → ℕ → List ℕ
gates g zero = []
gates g (suc v) = gates g v ++ node_gates g v

-- a number with a byte after it, and text after that
unfoldable pub ended : ℕ → ℕ → List ℕ → List ℕ
ended n end rest = decimal n ++ (end ∷ rest)

-- numbers, one to a line and three to a line, and text after them
unfoldable pub ones : List ℕ → List ℕ → List ℕ
ones [] rest = rest
ones (x ∷ l) rest = ended x 10 (ones l rest)

unfoldable pub threes : List ℕ → List ℕ
threes [] = []
threes (x ∷ []) = []
threes (x ∷ y ∷ []) = []
threes (x ∷ y ∷ z ∷ l) = ended x 32 (ended y 32 (ended z 10 (threes l)))

-- "aag M I L O A"
unfoldable pub header : ℕ → ℕ → ℕ → List ℕ → List ℕ
header i n o rest = 97 ∷ 97 ∷ 103 ∷ 32 ∷ ended (i + n) 32 (ended i 32 (ended 0 32 (ended o 32 (ended n 10 rest))))

-- the literals of the inputs and of the outputs
unfoldable pub inputs : Graph → List ℕ
inputs g = tab g.I (λ k. 2 * (1 + k))

unfoldable pub outputs : Graph → List ℕ
outputs g = tab g.O (λ j. exported g (output g j))

unfoldable pub export_text : Graph → List ℕ
export_text g = header g.I (gates_before g g.N) g.O (ones (inputs g) (ones (outputs g) (threes (gates g g.N))))

-- 3, 4, 5 and 13, then 8 and 9 where scratch or the buffer has too little room
unfoldable pub export_number : Graph → List ℕ → ℕ → ℕ → ℕ
export_number g ls scratch room = first (admission_number g ls) (if_less scratch g.N 8 (if_less room (length (export_text g)) 9 0))

-- exporting g with the locks ls, which the text does not say, into the buffer b: its front is the text, the rest is left; refused,
-- all of it is left
unfoldable pub export_call : Graph → List ℕ → List ℕ → List ℕ → WriteOutcome
export_call g ls scratch b = write_by (export_number g ls (length scratch) (length b)) (export_text g) b
