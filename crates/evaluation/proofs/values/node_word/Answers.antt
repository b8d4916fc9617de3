-- `node_word` meets its contract. From the laws on words by index.
use Rattle.std.proofs.Common.{List, ◌≡◌, ℕ, ◌+◌, ◌*◌, ◌/◌, ◌%◌, ◌^◌, ◌≤◌, sym, ◌∙◌, arith}
use borrow.Author.Tests.{eqb-false}
use lib.ListN.{get_or}
use Rattle.graph.specs.Graph.{is_xor}
use Rattle.graph.specs.Inner.{three_bits}
use Rattle.graph.specs.Literals.{bit_of}
use Rattle.graph.specs.Tables.{lent_table}
use Rattle.graph.proofs.Words.{three_apart}
use Rattle.evaluation.specs.Inner.{nodes_of}
use Rattle.evaluation.proofs.Index.{node_joined, readable_named}
use Rattle.evaluation.proofs.values.node_word.Goals as goal

-- the bit of each of its words
bit-of : (l : List ℕ) (v r : ℕ) → r ≡ three_bits l v → (k : ℕ) → k ≤ 2 → r / 2 ^ k % 2 ≡ bit_of (get_or l (3 * v + k) 0)
bit-of l v r e k h = rw e (three_apart l v k h)

pub overflow_mul-at : goal.overflow_mul-at
overflow_mul-at g c = omega (arith, c.requires.few)

pub three_at-three-requires : goal.three_at-three-requires
three_at-three-requires g c = readable_named _ _ c.args.v c.requires

pub is_mark_at-xor-requires : goal.is_mark_at-xor-requires
is_mark_at-xor-requires g c = (c.requires.there, λ n. (c.requires.third n).0)

pub literal_word-x-requires : goal.literal_word-x-requires
literal_word-x-requires g c =
    let a = c.args in
    let e : 3 * a.v + 0 ≡ 3 * a.v = omega arith in
    let q = rw e at (bit-of (lent_table a.node_table.now) a.v c.three_at-three.result c.three_at-three.ensures 0 (omega arith)) in
    (omega (arith, c.requires.there), c.requires.first, omega (arith, q), omega arith)

pub literal_word-y-requires : goal.literal_word-y-requires
literal_word-y-requires g c =
    let a = c.args in
    (omega (arith, c.requires.there), c.requires.second, bit-of (lent_table a.node_table.now) a.v c.three_at-three.result c.three_at-three.ensures 1 (omega arith), omega arith)

pub third_word-z-requires : goal.third_word-z-requires
third_word-z-requires g c =
    let a = c.args in
    (c.requires.there, c.requires.first, λ e. c.requires.third (eqb-false _ _ (sym c.is_mark_at-xor.ensures ∙ e)), bit-of (lent_table a.node_table.now) a.v c.three_at-three.result c.three_at-three.ensures 2 (omega arith), omega arith)

pub returns : goal.returns
unfolding is_xor
returns g c i n j h =
    let a = c.args in
    node_joined (nodes_of i n (lent_table a.node_table.now)) a.v (g.W.Words.words a.words.now)
    c.literal_word-x.result c.literal_word-y.result c.joined_word.result c.literal_word-x.ensures c.literal_word-y.ensures
    c.is_mark_at-xor.result c.third_word-z.result c.is_mark_at-xor.ensures c.third_word-z.ensures j h (c.joined_word.ensures j h)
