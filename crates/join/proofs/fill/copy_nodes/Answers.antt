-- `fill::copy_nodes` meets its contract. The invariant: behind full words that are copied, the words up to the next place are put. From the laws of
-- filled tables.
use mathlib.Core.Path.{◌≡◌, refl, ap, ◌∙◌}
use mathlib.Core.List.{List}
use Prim.Native.Nat.{ℕ, ◌*◌, ◌/◌}
use native.Mathlib.Omega.{arith}
use lib.ListN.{get_or}
use Rattle.graph.specs.Literals.{literals}
use Rattle.graph.proofs.Gathered.{begun_none}
use Rattle.graph.proofs.Literals.{held_le}
use Rattle.graph.proofs.Words.{word_below}
use Rattle.join.proofs.Filling.{room_kept, place_next}
use Rattle.join.proofs.fill.copy_nodes.Goals as goal
use Rattle.graph.specs.Tables.{lent_table}

pub copy_words-requires : goal.copy_words-requires
copy_words-requires c =
    (omega (arith, c.requires.fact.0), omega (arith, c.requires.fact.1), omega (arith, c.requires.nodes_bound))

pub loop-j-init : goal.loop-j-init
loop-j-init c =
    let a = c.args in
    (omega arith, (λ l h e. ap (literals _) (begun_none _ 0 (64 * (3 * a.nodes / 64)) (omega arith)) ∙ e), refl, refl)

pub word_at-x-requires : goal.word_at-x-requires
word_at-x-requires c =
    let l = c.loop-j in
    (omega (arith, c.requires.fact.1), word_below _ (c.requires.fact.2 l.j (omega arith)))

pub put_word-got-requires : goal.put_word-got-requires
put_word-got-requires c =
    let l = c.loop-j in
    let k = c.copy_words.auto in
    let a = c.args in
    let room = room_kept a.joined_node_table.now a.joined_node_bits.now l.joined_node_table l.joined_node_bits (3 * a.nodes) (l.invariant.2 ∙ k.to_table) (l.invariant.3 ∙ k.to_bits) c.requires.nodes_bound in
    (omega (arith, room), rw c.word_at-x.ensures (c.requires.fact.2 l.j (omega arith)))

pub loop-j-preserved : goal.loop-j-preserved
loop-j-preserved c =
    let p = c.put_word-got in
    let l = c.loop-j in
    let a = c.args in (
      omega arith,
      (λ m h e. place_next (λ k. get_or (lent_table a.node_table.now) k 0) m _ _ l.j _ (omega arith) (l.invariant.1 m h e) c.word_at-x.ensures p.ensures),
      p.auto.table ∙ l.invariant.2,
      p.auto.bits ∙ l.invariant.3,
    )

pub shape_of-joined_node_table : goal.shape_of-joined_node_table
shape_of-joined_node_table c = c.loop-j.invariant.2 ∙ c.copy_words.auto.to_table

pub shape_of-joined_node_bits : goal.shape_of-joined_node_bits
shape_of-joined_node_bits c = c.loop-j.invariant.3 ∙ c.copy_words.auto.to_bits

pub returns : goal.returns
returns c =
    let l = c.loop-j in
    let a = c.args in
    let m : List ℕ = literals a.joined_node_table.now a.joined_node_bits.now in
    let e : l.j ≡ 3 * a.nodes = omega arith in
    rw e at (l.invariant.1 m (omega (arith, c.requires.nodes_bound, held_le m)) c.copy_words.ensures)
