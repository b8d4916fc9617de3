-- `fill_node` meets its contract: the words that are read are put. From what a node field has.
use Rattle.tagged_file.proofs.fill.fill_node.Goals as goal

pub put_three-requires : goal.put_three-requires
put_three-requires c =
    let p = c.requires in
    (p.1, rw c.four.ensures p.0.one, rw c.four-2.ensures p.0.two, rw c.third_word.ensures p.0.last)

pub returns : goal.returns
returns c = rw (c.four.ensures, c.four-2.ensures, c.third_word.ensures) at c.put_three.ensures
