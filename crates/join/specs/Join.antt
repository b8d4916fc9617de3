-- Two graphs joined (document 02's M-113): output k of the first drives input k of the second. The joined graph has the first's inputs,
-- the nodes of the first and then of the second, each with its lock, and the second's outputs.
use Rattle.std.specs.Prelude.{◌+◌, ◌-◌, ◌*◌, ◌∷◌, ◌++◌}
use Rattle.graph.specs.All.{ℕ, cond, List, [], length, take, drop, tab, if_less, if_equal, first, Graph, graph_of, mark, index, complement, turn, word, output, is_edge, held, filled, room_number, admission_number, accepted, LockedOutcome, locked_outcome, guarded_locks}
use Rattle.tagged_file.specs.All.{blank}

-- The literal x of the second graph h, met by the first graph g: from the constant it stays; from input k it is the literal of g's output
-- k, turned where x is complemented, so that two complements cancel and one is left; from a node its index is shifted.
unfoldable pub met : Graph → Graph → ℕ → ℕ
met g h x =
    if_equal (index x) 0 x
    (if_less h.I (index x)
    (x + 2 * (g.I + g.N) - 2 * h.I)
    (turn (complement x) (output g (index x - 1))))

-- word j of the second's node table, met: a mark stays
unfoldable pub met_word : Graph → Graph → ℕ → ℕ
met_word g h j = cond (is_edge h j) (met g h (word h j)) mark

-- the joined graph in the lent tables ns and os: the first's words and the second's met, and the second's outputs met
unfoldable pub joined_graph : Graph → Graph → List ℕ → List ℕ → Graph
joined_graph g h ns os =
    graph_of g.I (g.N + h.N) h.O
    (filled (tab (3 * g.N) (word g) ++ tab (3 * h.N) (met_word g h)) ns)
    (filled (tab h.O (λ j. met g h (output h j))) os)

-- its locks in the lent bytes rs: those of the first's n nodes and of the second's m, later bytes are left
unfoldable pub joined_locks : ℕ → ℕ → List ℕ → List ℕ → List ℕ → List ℕ
joined_locks n m ls ks rs = take n ls ++ take m ks ++ drop (n + m) rs

-- What refuses a join: the first graph's own number, then the second's; 19 where the first has another number of outputs than the second
-- has inputs; then 3 and 4 of the joined one
unfoldable pub join_number : Graph → List ℕ → Graph → List ℕ → ℕ → ℕ → ℕ → ℕ
join_number g ls h ks node_room output_room lock_room =
    first (admission_number g ls)
    (first (admission_number h ks)
    (first (if_equal g.O h.I 0 19)
    (room_number g.I (g.N + h.N) h.O node_room output_room lock_room)))

-- the call: what loading answers, and what it leaves in the lent slices
unfoldable pub join_call : Graph → List ℕ → Graph → List ℕ → List ℕ → List ℕ → List ℕ → LockedOutcome
join_call g ls h ks ns os rs =
    guarded_locks (join_number g ls h ks (held ns) (held os) (length rs)) (blank ns os) rs
    (locked_outcome (accepted (g.I ∷ (g.N + h.N) ∷ h.O ∷ [])) (joined_graph g h ns os) (joined_locks g.N h.N ls ks rs))
