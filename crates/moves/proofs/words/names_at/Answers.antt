-- `names_at` meets its contract. From what the index table tells.
use Rattle.std.proofs.Common.{◌≡◌, ◌≢◌, ⊎_elim, ◌∙◌, eq-eqb, ne_eqb}
use Rattle.graph.proofs.Cases.{eq_or_ne}
use Rattle.graph.proofs.Literals.{names_yes, names_no}
use Rattle.graph.proofs.Tests.{equal, unequal}
use Rattle.moves.proofs.words.names_at.Goals as goal

pub returns : goal.returns
returns c =
    let x = c.index_at.result in
    let u = c.args.u in
    ⊎_elim
    (λ (q : x ≡ u). equal _ _ 1 0 (names_yes c.index_at.ensures u c.requires.1 q) (c.from.ensures ∙ rw (eq-eqb x u q)))
    (λ (d : x ≢ u). unequal _ _ 1 0 (names_no c.index_at.ensures u c.requires.1 d) (c.from.ensures ∙ rw (ne_eqb x u d)))
    (eq_or_ne x u)
