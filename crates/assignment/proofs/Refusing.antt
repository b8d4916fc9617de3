-- The first fault of a search: what it says where there is none. From the laws on tests and admission.
use mathlib.Core.Path.{◌≡◌}
use mathlib.Core.List.{List}
use Prim.Native.Nat.{ℕ, ◌≤◌}
use lib.ListN.{length, get_or}
use Rattle.graph.specs.Graph.{Graph}
use Rattle.graph.specs.Admission.{tables_number, content_number}
use Rattle.graph.proofs.Admit.{admitted_by}
use Rattle.graph.proofs.Tests.{both, off, each_none}
use Rattle.evaluation.specs.Evaluation.{scratch_number}
use Rattle.assignment.specs.Assignment.{wish_number, pattern_number, assignment_number}
use Rattle.assignment.specs.Inner.{Searchable}

module _ (g : Graph) (ls wanted : List ℕ) (s : ℕ) where
  pub searchable : assignment_number g ls wanted s ≡ 0 → Searchable g wanted × (g.N ≤ s)
  unfolding assignment_number scratch_number content_number pattern_number wish_number
  searchable e =
      let t = both (tables_number g ls) _ e in
      let w = both _ _ t.1 in
      let x = both (content_number g ls) _ w.1 in
      let i = both _ _ x.1 in
      let p = both (pattern_number g.O wanted) _ i.1 in (
        record {
          admitted = admitted_by g ls t.0 (both _ _ x.0).0;
          few = (off 16 g.I 16 0 i.0).0;
          long = (off (length wanted) g.O 3 0 w.0).0;
          small = λ o h. (off 2 (get_or wanted o 0) 17 0 (each_none g.O (wish_number wanted) p.0 o h)).0;
        },
        (off s g.N 7 0 p.1).0,
      )
