-- `third_word` meets its contract: a majority's third index, turned as its bit says. From what the leaves tell of a literal with a low index, and the laws on
-- words by index.
use Rattle.std.proofs.Common.{Bool, cond, ◌+◌, sym, ap, ◌∙◌, arith, subst}
use lib.ListN.{get_or}
use Rattle.graph.specs.Tables.{lent_table}
use Rattle.graph.proofs.Literals.{held_index, names_index}
use Rattle.graph.proofs.Words.{edge_bit_lem}
use Rattle.evaluation.proofs.Index.{either_can, literal_is}
use Rattle.evaluation.proofs.values.third_word.Goals as goal

pub overflow_add-last : goal.overflow_add-last
overflow_add-last g c = let a = c.args in omega (arith, held_index a.table.now.indices.now a.table.now.bits.now (a.at + 2) c.requires.0)

pub word-requires : goal.word-requires
word-requires g c =
    let a = c.args in
    let can = g.W.Words.can_read a.words.now in
    subst can (sym c.either_index.ensures)
    (either_can can a.xor _ _
    (subst can (sym (names_index c.index_at-first.ensures c.requires.1.0)) c.requires.1.1)
    (λ k. subst can (sym (names_index c.index_at-third.ensures (c.requires.2 k).0)) (c.requires.2 k).1))

pub returns : goal.returns
returns g c k =
    let a = c.args in
    let low = (c.requires.2 k).0 in
    let v = c.either_index.ensures ∙ ap (λ (b : Bool). cond b c.index_at-first.result c.index_at-third.result) k in
    literal_is (g.W.Words.words a.words.now) (get_or (lent_table a.table.now) (a.at + 2) 0) c.either_index.result a.b c.word.result c.turned.result
    (v ∙ names_index c.index_at-third.ensures low) (c.requires.3 ∙ edge_bit_lem _ low) c.word.ensures c.turned.ensures
