-- The whole of exporting: which numbers refuse it, what holds where none does, and the answers. From the laws on tests and on
-- what is written.
use Prim.Native.Nat.{ℕ, ◌≤◌}
use mathlib.Core.Path.{◌≡◌}
use mathlib.Core.List.{List, [], ◌∷◌}
use lib.ListN.{length}
use lib.Seq.{sets}
use Rattle.graph.specs.Admission.{Admitted}
use Rattle.std.proofs.Common.{Result}
use Rattle.std.specs.Result.{IsErrAnd}
use Rattle.graph.specs.Answer.{accepted, number_of}
use Rattle.graph.specs.declared.Refusal.{Refusal}
use Rattle.graph.specs.Graph.{Graph}
use Rattle.graph.proofs.Admit.{admitted}
use Rattle.graph.proofs.Tests.{both, off}
use Rattle.tagged_file.specs.Write.{written_answer, write_outcome}
use Rattle.tagged_file.proofs.WholeWrite.{by_refused, by_accepted}
use Rattle.aiger.specs.Export.{export_text, export_number, export_call}

module _ (g : Graph) (ls : List ℕ) (words room : ℕ) where
  pub export_passed : export_number g ls words room ≡ 0 → Admitted g × (g.N ≤ words) × (length (export_text g) ≤ room)
  unfolding export_number
  export_passed e =
      let b = both _ _ e in
      let s = off _ _ _ _ b.1 in
      (admitted g ls b.0, s.0, (off _ _ _ _ s.1).0)

module _ (g : Graph) (ls scratch b : List ℕ) where
  pub export_refused : (r : Result ℕ Refusal) (x : Refusal) → IsErrAnd r (λ y. y ≡ x) → number_of x ≡ export_number g ls (length scratch) (length b)
      → write_outcome (written_answer r) b ≡ export_call g ls scratch b
  unfolding export_call
  export_refused r x e n = by_refused r x _ (export_text g) b e n

  pub export_accepted : export_number g ls (length scratch) (length b) ≡ 0 → (n : ℕ) (b' : List ℕ) → n ≡ length (export_text g) → b' ≡ sets b 0 (export_text g)
      → write_outcome (accepted (n ∷ [])) b' ≡ export_call g ls scratch b
  unfolding export_call
  export_accepted z n b' en eb = by_accepted _ n (export_text g) b b' z en eb (export_passed g ls _ _ z).2
