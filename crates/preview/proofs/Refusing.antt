-- What a preview answers that is refused, what is known of one that is not, and what it then answers. From the laws on tests.
use mathlib.Core.Path.{◌≡◌, refl, ap, ◌∙◌}
use mathlib.Core.List.{List}
use Rattle.std.proofs.Common.{Result}
use Rattle.std.specs.Result.{IsErrAnd}
use Prim.Native.Nat.{ℕ, ◌*◌, ◌≤◌}
use lib.ListN.{length}
use Rattle.graph.specs.Graph.{Graph}
use Rattle.graph.specs.Admission.{Admitted}
use Rattle.graph.specs.Answer.{Answer, number_of}
use Rattle.graph.specs.declared.Refusal.{Refusal}
use Rattle.graph.proofs.Answers.{number_some, ends_call, accepted_is}
use Rattle.graph.proofs.Tests.{equal, unequal, off, both}
use Rattle.moves.specs.Tree.{tree}
use Rattle.moves.specs.Compose.{IsRoot}
use Rattle.moves.specs.Call.{saving_answer, rewrite}
use Rattle.moves.specs.declared.Saving.{Saving}
use Rattle.tree_call.proofs.Refused.{accepted_by}
use Rattle.preview.specs.Preview.{moves_told, preview_number, preview_answer, preview_bytes}

module _ (g : Graph) (ls : List ℕ) (b s r : ℕ) where
  -- what an accepted preview may rest on
  pub accepted_preview : preview_number g ls b s r ≡ 0 → (Admitted g) × (IsRoot g r) × (8 * g.N ≤ s) × (g.N ≤ b) × (g.N ≤ length ls)
  unfolding preview_number
  accepted_preview e =
      let t = both _ _ (both _ _ e).1 in
      let a = accepted_by g ls s r t.1 in
      (a.0, a.1, a.2, (off b g.N 3 0 t.0).0, a.3)

rewritten : (g : Graph) (ls us : List ℕ) → (rewrite g ls us).answer.number ≡ 0
unfolding rewrite
rewritten g ls us = refl

-- the preview, refused and not
pub refused_preview : (g : Graph) (ls bs : List ℕ) (s q : ℕ) (r : Result Saving Refusal) (x : Refusal) → IsErrAnd r (λ y. y ≡ x) → number_of x ≡ preview_number g ls (length bs) s q
    → (saving_answer r ≡ preview_answer g ls (length bs) s q) × (bs ≡ preview_bytes g ls bs s q)
unfolding preview_answer preview_bytes
refused_preview g ls bs s q r x e n = (
  ends_call _ r x _ _ e n,
  unequal (preview_number g ls (length bs) s q) 0 (moves_told g ls q bs) bs (λ z. number_some x (n ∙ z)) refl,
)

pub told_preview : (g : Graph) (ls bs bs' : List ℕ) (s r : ℕ) (x : Answer) → preview_number g ls (length bs) s r ≡ 0 → x ≡ (rewrite g ls (tree g r)).answer → bs' ≡ moves_told g ls r bs
    → (x ≡ preview_answer g ls (length bs) s r) × (bs' ≡ preview_bytes g ls bs s r) × (x.number ≡ 0)
unfolding preview_answer preview_bytes
told_preview g ls bs bs' s r x e p q = (
  p ∙ accepted_is (preview_number g ls (length bs) s r) (rewrite g ls (tree g r)).answer e,
  equal (preview_number g ls (length bs) s r) 0 (moves_told g ls r bs) bs e q,
  ap (λ (a : Answer). a.number) p ∙ rewritten g ls (tree g r),
)
