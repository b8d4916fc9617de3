-- What importing ASCII AIGER promises beside its definition (M-100).
use Rattle.std.specs.Prelude.{◌<◌, ◌≡◌, ◌++◌, ◌⊎◌}
use Rattle.graph.specs.All.{ℕ, List, Graph, Assignment, output_value, Admitted, LockedOutcome}
use Rattle.aiger.specs.{Import.import_call, Export.export_text}

-- the outcome o of importing the export of g: it is refused by 3 or 4 only, and otherwise both graphs have as many inputs and outputs, and
-- agree at every output under every assignment
pub record BackAgain (g : Graph) (o : LockedOutcome) : Type 0 where
  pub import_refused : (o.answer.number ≡ 0) ⊎ ((o.answer.number ≡ 3) ⊎ (o.answer.number ≡ 4))
  pub same_inputs : o.answer.number ≡ 0 → o.graph.I ≡ g.I
  pub same_outputs : o.answer.number ≡ 0 → o.graph.O ≡ g.O
  pub same_values : o.answer.number ≡ 0 → (a : Assignment) (j : ℕ) → j < g.O → output_value o.graph a j ≡ output_value g a j

-- text after the last gate line of an accepted text is not read
abbrev pub ImportTrailing : (s t ns os ls : List ℕ) → Type 0
ImportTrailing s t ns os ls = (import_call s ns os ls).answer.number ≡ 0 → import_call (s ++ t) ns os ls ≡ import_call s ns os ls

pub record Promises : Type 0 where
  pub back_again : (g : Graph) → Admitted g → (ns os ls : List ℕ) → BackAgain g (import_call (export_text g) ns os ls)
  pub import_trailing : (s t ns os ls : List ℕ) → ImportTrailing s t ns os ls
