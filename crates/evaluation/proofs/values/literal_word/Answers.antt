-- `literal_word` meets its contract: the word of the index, turned as the bit says. From what the leaves tell of a literal with a low index, and the laws on
-- words by index.
use Rattle.std.proofs.Common.{◌∙◌, sym, subst}
use lib.ListN.{get_or}
use Rattle.graph.specs.Tables.{lent_table}
use Rattle.graph.proofs.Literals.{names_index}
use Rattle.graph.proofs.Words.{edge_bit_lem}
use Rattle.evaluation.proofs.Index.{literal_is}
use Rattle.evaluation.proofs.values.literal_word.Goals as goal

pub word-requires : goal.word-requires
word-requires g c =
    subst (g.W.Words.can_read c.args.words.now) (sym (names_index c.index_at.ensures c.requires.1.0)) c.requires.1.1

pub returns : goal.returns
returns g c =
    let a = c.args in
    literal_is (g.W.Words.words a.words.now) (get_or (lent_table a.table.now) a.j 0) c.index_at.result a.b c.word.result c.turned.result
    (names_index c.index_at.ensures c.requires.1.0) (c.requires.2 ∙ edge_bit_lem _ c.requires.1.0) c.word.ensures c.turned.ensures
