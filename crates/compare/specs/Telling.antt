-- Moves told by the words of the nodes, by rising index: what inner functions and proofs say, and no promise to a caller.
use Rattle.std.specs.Prelude.{Option, Some, None, Bool, true, cond, List, [], ◌∷◌, ℕ, zero, suc, ◌+◌, ◌*◌, ◌%◌, eqb, length, get_or}
use Rattle.graph.specs.Answer.{accepted}
use Rattle.graph.specs.Finite.{tab, if_less, if_equal}
use Rattle.graph.specs.Graph.{Graph, node, word, output, index, is_xor, is_edge}
use Rattle.graph.specs.Literals.{bit_at, graph_in}
use Rattle.moves.specs.Apply.{Choice, none, at, own, seen}
use Rattle.many.specs.Making.{named}
use Rattle.order.specs.Inner.{tells}
use Rattle.graph.specs.declared.Lent.{Lent}
use Rattle.compare.specs.Compare.{passing, Compared, compared}

-- the second graph in the sizes of the first
abbrev pub beside : Lent → Lent → Graph
beside g h = graph_in g.inputs g.nodes g.outputs h.node_table.indices.now h.node_table.bits.now h.output_table.indices.now h.output_table.bits.now

-- whether the bit at place j of a table l and that among other bits differ, by twos
unfoldable pub apart : List ℕ → List ℕ → ℕ → ℕ
apart l ds j = get_or l j 0 + bit_at ds j

-- how often, by twos, the word at place j is to be turned by its own node's move, so that these are the same; the bits sn say whose readers are turned
unfoldable pub own_turn : List ℕ → List ℕ → List ℕ → ℕ → ℕ
own_turn sn l ds j = (apart l ds j + named sn l j) % 2

-- the same where a word is to be turned w j times in all, and the choice m turns readers
unfoldable pub wanted : Graph → (ℕ → ℕ) → Choice → ℕ → ℕ
wanted g w m j = (w j + seen g m (index (word g j))) % 2

unfoldable pub wanted_out : Graph → (ℕ → ℕ) → Choice → ℕ → ℕ
wanted_out g x m j = (x j + seen g m (index (output g j))) % 2

-- the moves that words 1 and 2 of the first nodes tell so
unfoldable pub told_to : Graph → (ℕ → ℕ) → ℕ → Choice
told_to g w zero = none
told_to g w (suc v) = let m = told_to g w v in at m (node g v) (tells (is_xor g v) (wanted g w m (3 * v)) (wanted g w m (3 * v + 1)))

abbrev pub told : Graph → (ℕ → ℕ) → Choice
told g w = told_to g w g.N

-- whether a choice turns the word at place j as it is to be turned, and an output
unfoldable pub fits : Graph → (ℕ → ℕ) → Choice → ℕ → Bool
fits g w m j = cond (is_edge g j) (eqb (own g m j) (wanted g w m j)) true

unfoldable pub out_fits : Graph → (ℕ → ℕ) → Choice → ℕ → Bool
out_fits g x m j = eqb (wanted_out g x m j) 0

-- the first word of a node of a kind that cannot be turned so, by how often each is to be: word 2 or 3, counted from 0
unfoldable pub unfit : Bool → ℕ → ℕ → ℕ → Option ℕ
unfit x a b c = cond x None (if_equal a b (if_equal a c None (Some 2)) (Some 1))

-- what is told of two graphs of one wiring, whose words are to be turned w j times and their outputs x j times
unfoldable pub explained : Graph → (ℕ → ℕ) → (ℕ → ℕ) → List ℕ → Compared
explained g w x bs =
    let k = passing (3 * g.N) (fits g w (told g w)) in
    let j = passing g.O (out_fits g x (told g w)) in
    if_less k (3 * g.N) (compared (accepted (4 ∷ k ∷ [])) bs)
    (if_less j g.O (compared (accepted (5 ∷ j ∷ [])) bs)
    (compared (accepted (0 ∷ 0 ∷ [])) (tab (length bs) (λ v. if_less v g.N (told g w (node g v)) (get_or bs v 0)))))
