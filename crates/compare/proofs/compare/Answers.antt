-- `compare` meets its contract. From the laws on faults and sizes.
use Rattle.std.proofs.Common.{◌≡◌, ℕ, ◌≤◌, ◌<◌, List, sym, ap, ◌∙◌, arith, Some}
use lib.ListN.{length}
use Rattle.graph.specs.Admission.{Admitted}
use Rattle.graph.specs.Graph.{Graph}
use Rattle.graph.specs.Literals.{graph_in}
use Rattle.graph.specs.Tables.{lent_graph}
use Rattle.compare.specs.Compare.{size_number, size_apart, words_compared, compare_number}
use Rattle.compare.specs.Telling.{beside}
use Rattle.compare.specs.declared.Size.{Size}
use Rattle.compare.specs.declared.Size.TheVariants.{Inputs, Nodes, Outputs}
use Rattle.compare.proofs.Calling.{accepted_both, refused_call, accepted_call, sizes_same, size_told, sizes_told}
use Rattle.compare.proofs.compare.Goals as goal
use Rattle.compare.proofs.compare.Goals.{After-size_apart}

size-few : (s : Size) → size_number (Some s) < 3
size-few Inputs = omega arith
size-few Nodes = omega arith
size-few Outputs = omega arith

same-sized : (i n o i' n' o' : ℕ) (us bs vs ds : List ℕ) → i ≡ i' → n ≡ n' → o ≡ o' → graph_in i' n' o' us bs vs ds ≡ graph_in i n o us bs vs ds
same-sized i n o i' n' o' us bs vs ds p q r = rw (p, q, r)

-- accepted, and what the sizes say

module _ (z : After-size_apart) where
  abbrev first : Graph
  first = lent_graph z.args.first.now

  abbrev second : Graph
  second = lent_graph z.args.second.now

  none : compare_number first z.args.first.now.locks.now second z.args.second.now.locks.now (length z.args.moves.now) ≡ 0
  none = sym z.in_ok-check_compare.ensures

  both : Admitted first × Admitted second × (z.args.first.now.nodes ≤ length z.args.moves.now)
  both = accepted_both first z.args.first.now.locks.now second z.args.second.now.locks.now (length z.args.moves.now) none

  module _ (l : 3 ≤ size_apart first second) where
    as-sized : second ≡ beside z.args.first.now z.args.second.now
    as-sized =
        let e = sizes_same first second l in
        let b = z.args.second.now in
        same-sized _ _ _ _ _ _ b.node_table.indices.now b.node_table.bits.now b.output_table.indices.now b.output_table.bits.now e.0 e.1 e.2

pub returns-in_err-check_compare : goal.returns-in_err-check_compare
returns-in_err-check_compare c =
    refused_call _ c.args.first.now.locks.now _ c.args.second.now.locks.now c.args.moves.now _ _ c.from_residual.ensures.1 c.in_err-check_compare.ensures

pub returns-in-Some : goal.returns-in-Some
returns-in-Some c =
    let z = (goal.at.returns-in-Some c).After-size_apart in
    size_told (first z) (second z) c.args.moves.now (size_number (Some c.in-Some.size)) (ap size_number (sym c.in-Some.is) ∙ c.size_apart.ensures) (size-few c.in-Some.size)
    ∙ accepted_call (first z) c.args.first.now.locks.now (second z) c.args.second.now.locks.now c.args.moves.now (none z)

pub compare_words-requires : goal.compare_words-requires
compare_words-requires c =
    let z = (goal.at.compare_words-requires c).After-size_apart in
    let b = both z in
    (b.0, rw (as-sized z (omega (arith, c.in_default.ensures))) at b.1, b.2)

pub returns : goal.returns
returns c =
    let z = (goal.at.returns c).After-size_apart in
    let l : 3 ≤ size_apart (first z) (second z) = omega (arith, c.in_default.ensures) in
    c.compare_words.ensures
    ∙ ap (λ (h : Graph). words_compared (first z) h c.args.moves.now) (sym (as-sized z l))
    ∙ sizes_told (first z) (second z) c.args.moves.now l
    ∙ accepted_call (first z) c.args.first.now.locks.now (second z) c.args.second.now.locks.now c.args.moves.now (none z)
