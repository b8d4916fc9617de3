-- What the edges outside of some nodes that name one of them add: what inner functions count, and no promise to a caller.
use Rattle.std.specs.Prelude.{◌≡◌, ℕ, ◌+◌, ◌-◌, ◌*◌, ◌/◌, ◌%◌, ◌≤◌, cond, List, [], slice_index}
use Rattle.graph.specs.Finite.{sum, if_equal, difference}
use Rattle.graph.specs.Graph.{Graph, node, word, output}
use Rattle.graph.specs.Count.{node_adds, output_adds, named}
use Rattle.graph.specs.Answer.{Answer, gained}
use Rattle.moves.specs.Rows.{flag}
use Rattle.moves.specs.Call.{among}
use Rattle.moves.specs.declared.decide.NodeNumbers.{NodeNumbers}
use Rattle.moves.specs.declared.gains.Odds.{Odds}

unfoldable pub outside_word : Graph → List ℕ → ℕ → ℕ
outside_word g us j = cond (among us (node g (j / 3))) 0 (cond (among us (word g j / 2)) (node_adds g j) 0)

unfoldable pub outside_output : Graph → List ℕ → ℕ → ℕ
outside_output g us j = cond (among us (output g j / 2)) (output_adds g j) 0

unfoldable pub odd_outside : Graph → List ℕ → ℕ
odd_outside g us = sum (3 * g.N) (outside_word g us) + sum g.O (outside_output g us)

-- how many words of node v that name index u are complemented, all of them turned t times
unfoldable pub odd_read : Graph → ℕ → ℕ → ℕ → ℕ
odd_read g u t j = cond (named g u j) ((word g j + t) % 2) 0

unfoldable pub odd_between : Graph → ℕ → ℕ → ℕ → ℕ
odd_between g u t v = odd_read g u t (3 * v + 0) + odd_read g u t (3 * v + 1) + odd_read g u t (3 * v + 2)

-- the same from the numbers of nodes: how many readers of a node are complemented, all of them turned f times (0 or 1)
unfoldable pub odd_by : NodeNumbers → ℕ → ℕ
odd_by n f = if_equal f 0 n.odd (n.readers - n.odd)

-- how many of the node's words that name another are complemented, turned f times; w has 1 for those words
unfoldable pub between_by : NodeNumbers → List ℕ → ℕ → ℕ
between_by n w f =
    if_equal (slice_index w 0) 0 0 (slice_index n.costs f) + if_equal (slice_index w 1) 0 0 (slice_index n.costs (2 + f)) + if_equal (slice_index w 2) 0 0 (slice_index n.costs (4 + f))

-- the odd readers of the node p turned f times, of the node n turned e times, and of n's words w that name p turned t times. Words
-- between both are no edges outside: they are taken off one side of a difference by adding them to the other
unfoldable pub pair_odd : NodeNumbers → NodeNumbers → List ℕ → ℕ → ℕ → ℕ → ℕ
pair_odd p n w f e t = odd_by p f + odd_by n e + between_by n w t

-- the odd edges outside before and after move k of a node
pub record NodeOdds (n : NodeNumbers) (k : ℕ) (o : Odds) : Type 0 where
  pub before : o.before ≡ odd_by n 0
  pub after : o.after ≡ odd_by n (flag n.xor k 3)
  pub few : o.before ≤ 608195
  pub few_after : o.after ≤ 608195

-- and, up to one number, before and after moves a and k of a pair
pub record PairOdds (p n : NodeNumbers) (w : List ℕ) (a k : ℕ) (o : Odds) : Type 0 where
  pub before : o.before ≡ pair_odd p n w 0 0 (flag p.xor a 3)
  pub after : o.after ≡ pair_odd p n w (flag p.xor a 3) (flag n.xor k 3) 0
  pub few : o.before ≤ 608195
  pub few_after : o.after ≤ 608195

-- the answer to a call that takes C from b to a, or both up to one number, and the odd edges outside from o to l
abbrev pub saved_by : ℕ → ℕ → ℕ → ℕ → Answer
saved_by b a o l = gained [] (difference (b + l) (a + o)) (difference o l)
