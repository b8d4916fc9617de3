-- Two graphs compared, which is M-111 the other way round: the moves that lead from the first to the second, or the first place where they
-- differ otherwise.
use Rattle.std.specs.Prelude.{◌+◌, ◌-◌, ◌*◌, ◌∷◌, Option, Some, None, Result}
use Rattle.graph.specs.All.{ℕ, zero, suc, Bool, cond, List, [], map, eqb, length, get_or, tab, if_less, if_equal, first, Graph, word, output, wire, output_wire, tables_number, content_number, Answer, accepted, refused}
use Rattle.graph.specs.{Answer.answer_by, declared.Refusal.Refusal}
use Rattle.choice.specs.All.{best}
use Rattle.moves.specs.All.{kind_moves, moved}
use Rattle.order.specs.All.{every_node}
use Rattle.compare.specs.declared.Comparison.{Comparison}
use Rattle.compare.specs.declared.Comparison.TheVariants as comparison
use Rattle.compare.specs.declared.Size.{Size}
use Rattle.compare.specs.declared.Size.TheVariants as size

-- how many of 0, 1, .. pass a test before the first that does not; n, where the first n do
unfoldable pub passing : ℕ → (ℕ → Bool) → ℕ
passing zero t = 0
passing (suc n) t = let more = passing n (λ j. t (suc j)) in cond (t 0) (suc more) 0

-- all words of a graph in a row, the node table's and then the output table's; and what they name
abbrev pub places : Graph → ℕ
places g = 3 * g.N + g.O

unfoldable pub word_in : Graph → ℕ → ℕ
word_in g p = if_less p (3 * g.N) (word g p) (output g (p - 3 * g.N))

unfoldable pub wire_in : Graph → ℕ → ℕ
wire_in g p = if_less p (3 * g.N) (wire g p) (output_wire g (p - 3 * g.N))

-- how many of them, from the front on, name the same in g and h; and are the same, once the moves ms are made at all nodes of g
unfoldable pub wired_to : Graph → Graph → ℕ
wired_to g h = passing (places g) (λ p. eqb (wire_in g p) (wire_in h p))

unfoldable pub led_to : Graph → Graph → List ℕ → ℕ
led_to g h ms = passing (places g) (λ p. eqb (word_in (moved g (every_node g) ms) p) (word_in h p))

-- of all lists of moves, one for each node, the first that leads farthest: the moves that lead from g to h, if there are any
unfoldable pub leading : Graph → Graph → List ℕ
leading g h = best (λ ms. places g - led_to g h ms) (map (kind_moves g) (every_node g))

-- what is answered, and the bytes of moves as the call leaves them
pub record Compared : Type 0 where
  pub answer : Answer
  pub moves : List ℕ

abbrev pub compared : Answer → List ℕ → Compared
compared a bs = record { answer = a; moves = bs }

-- I, N and O by number, and 3 for none of them
abbrev pub size_number : Option Size → ℕ
size_number (Some size.Inputs) = 0
size_number (Some size.Nodes) = 1
size_number (Some size.Outputs) = 2
size_number None = 3

-- the two numbers that tell a difference: 0 and 0 for by moves alone; else 1 to 5 for what is the first difference, and where it is
abbrev pub difference_told : Comparison → List ℕ
difference_told comparison.Moves = 0 ∷ 0 ∷ []
difference_told (comparison.Size s) = 1 ∷ size_number (Some s) ∷ []
difference_told (comparison.NodeIndex p) = 2 ∷ p ∷ []
difference_told (comparison.OutputIndex p) = 3 ∷ p ∷ []
difference_told (comparison.NodeBit p) = 4 ∷ p ∷ []
difference_told (comparison.OutputBit p) = 5 ∷ p ∷ []

abbrev pub comparison_answer : Result Comparison Refusal → Answer
comparison_answer = answer_by (λ k. accepted (difference_told k))

-- place p of the row, told by k for the node table and by k + 1 for the output table, with its place there
unfoldable pub place_told : Graph → ℕ → ℕ → Answer
place_told g k p = if_less p (3 * g.N) (accepted (k ∷ p ∷ [])) (accepted (suc k ∷ (p - 3 * g.N) ∷ []))

-- which of I, N and O is the first that differs: 0, 1 or 2; 3 where none does
unfoldable pub size_apart : Graph → Graph → ℕ
size_apart g h = if_equal g.I h.I (if_equal g.N h.N (if_equal g.O h.O 3 2) 1) 0

-- of two graphs of the same sizes: 2 or 3 is a place that names another index, 4 or 5 one that no moves explain together with all
-- before it, and 0 that the moves, a byte a node, lead from g to h
unfoldable pub words_compared : Graph → Graph → List ℕ → Compared
words_compared g h bs =
    let w = wired_to g h in
    let ms = leading g h in
    let k = led_to g h ms in
    if_less w (places g) (compared (place_told g 2 w) bs)
    (if_less k (places g) (compared (place_told g 4 k) bs)
    (compared (accepted (0 ∷ 0 ∷ [])) (tab (length bs) (λ j. if_less j g.N (get_or ms j 0) (get_or bs j 0)))))

-- of any two: 1 is a size that differs
unfoldable pub graphs_compared : Graph → Graph → List ℕ → Compared
graphs_compared g h bs = let s = size_apart g h in if_less s 3 (compared (accepted (1 ∷ s ∷ [])) bs) (words_compared g h bs)

-- what refuses the call, with the locks ls and ks and b bytes for moves: 3 and 4 of the first graph, 4 for fewer bytes than nodes, 3 and 4
-- of the second
unfoldable pub rooms_number : Graph → List ℕ → Graph → List ℕ → ℕ → ℕ
rooms_number g ls h ks b = first (tables_number g ls) (first (if_less b g.N 4 0) (tables_number h ks))

-- then 5 and 13 of the first, and of the second
unfoldable pub contents_number : Graph → List ℕ → Graph → List ℕ → ℕ
contents_number g ls h ks = first (content_number g ls) (content_number h ks)

unfoldable pub compare_number : Graph → List ℕ → Graph → List ℕ → ℕ → ℕ
compare_number g ls h ks b = first (rooms_number g ls h ks b) (contents_number g ls h ks)

-- the call; locks are tested and no more: a locked node's move is told as any other
unfoldable pub compare_call : Graph → List ℕ → Graph → List ℕ → List ℕ → Compared
compare_call g ls h ks bs =
    let k = compare_number g ls h ks (length bs) in
    if_equal k 0 (graphs_compared g h bs) (compared (refused k) bs)
