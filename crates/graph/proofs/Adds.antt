-- What a word adds to C is at most 1, and C at most the number of words; the words of one node. Assumes nothing.
use Rattle.std.proofs.Common.{◌≡◌, ℕ, ◌+◌, ◌*◌, ◌%◌, ◌≤◌, ◌&&◌, eqb, ap, arith, eq-eqb, ne_eqb}
use Rattle.graph.specs.Finite.{sum}
use Rattle.graph.specs.Graph.{Graph, mark, word}
use Rattle.graph.specs.Count.{C, adds, node_adds, output_adds, word_adds}
use Rattle.graph.proofs.Cases.{cond_le}
use Rattle.graph.proofs.Finite.{sum_le, sum_three}

pub adds_le : (x : ℕ) → adds x ≤ 1
unfolding adds
adds_le x = omega arith

pub word_adds_le : (j x : ℕ) → word_adds j x ≤ 1
unfolding word_adds
word_adds_le j x = cond_le (eqb (j % 3) 2 && eqb x mark) 0 (adds x) 1 (omega arith) (adds_le x)

pub node_adds_le : (g : Graph) (j : ℕ) → node_adds g j ≤ 1
unfolding node_adds
node_adds_le g j = word_adds_le _ _

pub output_adds_le : (g : Graph) (j : ℕ) → output_adds g j ≤ 1
unfolding output_adds
output_adds_le g j = adds_le _

pub C_le : (g : Graph) → C g ≤ 3 * g.N + g.O
unfolding C
C_le g = omega (arith, sum_le (node_adds g) (node_adds_le g) (3 * g.N), sum_le (output_adds g) (output_adds_le g) g.O)

module _ (g : Graph) (v : ℕ) where
  word_first : node_adds g (3 * v) ≡ adds (word g (3 * v))
  unfolding node_adds word_adds
  word_first = rw (ne_eqb (3 * v % 3) 2 (λ e. omega arith))

  word_second : node_adds g (3 * v + 1) ≡ adds (word g (3 * v + 1))
  unfolding node_adds word_adds
  word_second = rw (ne_eqb ((3 * v + 1) % 3) 2 (λ e. omega arith))

  word_third : node_adds g (3 * v + 2) ≡ word_adds 2 (word g (3 * v + 2))
  unfolding node_adds word_adds
  word_third = rw (eq-eqb ((3 * v + 2) % 3) 2 (omega arith))

  -- the sum over the words passed, with those of one more node
  pub node_next : (c x y z r : ℕ) → c ≡ sum (3 * v) (node_adds g) → x ≡ word g (3 * v) → y ≡ word g (3 * v + 1) → z ≡ word g (3 * v + 2)
      → r ≡ adds x + adds y + word_adds 2 z → c + r ≡ sum (3 * (v + 1)) (node_adds g)
  node_next c x y z r e p q s t =
      rw (sum_three v (node_adds g), word_first, word_second, word_third) (omega (arith, e, t, ap adds p, ap adds q, ap (word_adds 2) s))
