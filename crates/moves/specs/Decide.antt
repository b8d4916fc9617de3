-- Deciding from a few numbers of a node: what the inner functions compute, and no promise to a caller.
use Rattle.std.specs.Prelude.{◌≡◌, ℕ, ◌+◌, ◌-◌, ◌*◌, ◌/◌, ◌%◌, ◌<◌, ◌≤◌, Bool, cond, ◌⊎◌, List, [], ◌∷◌, slice_index}
use Rattle.graph.specs.Finite.{if_equal, sum}
use Rattle.graph.specs.Graph.{Graph, node, word, turn, is_edge, is_xor}
use Rattle.graph.specs.Count.{adds, node_readers, readers}
use Rattle.moves.specs.Cost.{shown}
use Rattle.moves.specs.Rows.{arity, flag, moves_at}
use Rattle.choice.specs.Inner.{FirstBelow}
use Rattle.moves.specs.declared.decide.NodeNumbers.{NodeNumbers}
use Rattle.moves.specs.declared.decide.Pair.{Pair}

-- what the move m of a node of kind x leaves: z has at place 2 k what word k + 1 adds as it stands, and at 2 k + 1 what it
-- adds turned; its readers add s, or t once all are turned
unfoldable pub cost_by : Bool → List ℕ → ℕ → ℕ → ℕ → ℕ
cost_by x z s t m = slice_index z (flag x m 0) + slice_index z (2 + flag x m 1) + slice_index z (4 + flag x m 2) + if_equal (flag x m 3) 0 s t

-- the same for a node with r readers, d of them complemented
unfoldable pub cost_with : Bool → List ℕ → ℕ → ℕ → ℕ → ℕ
cost_with x z r d m = cost_by x z d (r - d) m

-- m is the first number below n at which f is least, and c what it is there
pub record LeastBelow (f : ℕ → ℕ) (n m c : ℕ) : Type 0 where
  pub found : FirstBelow f n m
  pub cost : c ≡ f m

-- what is weighed, as it can be: each word adds at most 1
pub record Weighed (z : List ℕ) (s t : ℕ) : Type 0 where
  pub bits : (i : ℕ) → slice_index z i ≤ 1
  pub still : s ≤ 1000000
  pub turned : t ≤ 1000000

-- the numbers of a node, as they can be
pub record Numbers (z : List ℕ) (r d : ℕ) : Type 0 where
  pub bits : (i : ℕ) → slice_index z i ≤ 1
  pub some : d ≤ r
  pub few : r ≤ 304096

-- a node of kind x can have n moves: one where it is locked
abbrev pub MovesOf : Bool → ℕ → Type 0
MovesOf x n = (n ≡ 1) ⊎ (n ≡ arity x)

-- what word i + 1 of node v adds, turned t times
unfoldable pub word_after : Graph → ℕ → ℕ → ℕ → ℕ
word_after g v i t = cond (is_edge g (3 * v + i)) (adds (turn t (word g (3 * v + i)))) 0

-- what words with the bits x, y and z add, each as it stands and turned; where t says that the third is the mark, it adds nothing
abbrev pub bits_add : ℕ → ℕ → ℕ → Bool → List ℕ
bits_add x y z t = x ∷ (1 - x) ∷ y ∷ (1 - y) ∷ cond t 0 z ∷ cond t 0 (1 - z) ∷ []

-- the same of node v
unfoldable pub own_costs : Graph → ℕ → List ℕ
own_costs g v = word_after g v 0 0 ∷ word_after g v 0 1 ∷ word_after g v 1 0 ∷ word_after g v 1 1 ∷ word_after g v 2 0 ∷ word_after g v 2 1 ∷ []

-- of the first n words of a table, c name index u, and d of these are complemented
pub record Tallied (l : List ℕ) (n u c d : ℕ) : Type 0 where
  pub names : c ≡ sum n (λ j. if_equal (slice_index l j / 2) u 1 0)
  pub odd : d ≡ sum n (λ j. if_equal (slice_index l j / 2) u (slice_index l j % 2) 0)

-- index u has a readers, n of them in the node table, and d of all are complemented
pub record Read (g : Graph) (u a n d : ℕ) : Type 0 where
  pub all : a ≡ readers g u
  pub in_nodes : n ≡ node_readers g u
  pub odd : d ≡ shown g u 0

-- the words' costs once they have been turned a, b and c times (0 or 1)
unfoldable pub swapped : List ℕ → ℕ → ℕ → ℕ → List ℕ
swapped z a b c = slice_index z a ∷ slice_index z (1 - a) ∷ slice_index z (2 + b) ∷ slice_index z (3 - b) ∷ slice_index z (4 + c) ∷ slice_index z (5 - c) ∷ []

-- the words' costs once a move has been made at the node that some of them name: w has 1 for those words, and f tells
-- whether that move turns its readers
unfoldable pub given : List ℕ → List ℕ → ℕ → List ℕ
given z w f = swapped z (if_equal f 0 0 (slice_index w 0)) (if_equal f 0 0 (slice_index w 1)) (if_equal f 0 0 (slice_index w 2))

-- what the three words add, each turned once more
unfoldable pub others : List ℕ → ℕ
others z = slice_index z 1 + slice_index z 3 + slice_index z 5

-- the same for the struct of a node's numbers
abbrev pub cost_of : NodeNumbers → ℕ → ℕ
cost_of n m = cost_with n.xor n.costs n.readers n.odd m

pub record Counted (n : NodeNumbers) : Type 0 where
  pub numbers : Numbers n.costs n.readers n.odd
  pub has : MovesOf n.xor n.moves

-- the same of a pair's: which words name the one node is told by 0 and 1
pub record CountedPair (p : Pair) : Type 0 where
  pub named : Counted p.named
  pub node : Counted p.node
  pub which : (i : ℕ) → slice_index p.which i ≤ 1

-- the move k of a node once move a has been made at the node p that its words w name
unfoldable pub cost_given : NodeNumbers → NodeNumbers → List ℕ → ℕ → ℕ → ℕ
cost_given p n w a k = cost_with n.xor (given n.costs w (flag p.xor a 3)) n.readers n.odd k

-- move a at the node p and k at the node whose words w name it, up to a number that no move changes. What the node's words
-- add once a is made stands in both costs and is taken off once, by adding what they add turned: both together never change
unfoldable pub pair_cost : NodeNumbers → NodeNumbers → List ℕ → ℕ → ℕ → ℕ
pair_cost p n w a k = cost_of p a + cost_given p n w a k + others (given n.costs w (flag p.xor a 3))

-- k is the first least move of the node n once the readers of the node that its words w name have been turned f times, and c
-- what it leaves, with what its words add turned once more
pub record Answered (n : NodeNumbers) (w : List ℕ) (f k c : ℕ) : Type 0 where
  pub found : FirstBelow (cost_with n.xor (given n.costs w f) n.readers n.odd) n.moves k
  pub cost : c ≡ cost_with n.xor (given n.costs w f) n.readers n.odd k + others (given n.costs w f)
  pub low : c ≤ 304102

-- (a, k) is the first pair below (m, n), by a and then by k, at which f is least
pub record FirstPair (f : ℕ → ℕ → ℕ) (m n a k : ℕ) : Type 0 where
  pub below : a < m
  pub fits : k < n
  pub low : (b l : ℕ) → b < m → l < n → f a k ≤ f b l
  pub first : (b l : ℕ) → b < a → l < n → f a k < f b l
  pub second : (l : ℕ) → l < k → f a k < f a l

-- the numbers of node v, with the locks ls
unfoldable pub numbers_of : Graph → List ℕ → ℕ → NodeNumbers
numbers_of g ls v = record { xor = is_xor g v; moves = moves_at g ls (node g v); costs = own_costs g v; readers = readers g (node g v); odd = shown g (node g v) 0 }

-- which words of node v name index u
unfoldable pub naming : Graph → ℕ → ℕ → List ℕ
naming g v u = if_equal (word g (3 * v + 0) / 2) u 1 0 ∷ if_equal (word g (3 * v + 1) / 2) u 1 0 ∷ if_equal (word g (3 * v + 2) / 2) u 1 0 ∷ []
