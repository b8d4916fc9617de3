-- `words::input_words` meets its contract: word by word. From its callee's contract.
use mathlib.Core.Path.{◌≡◌, refl, ap₂}
use mathlib.Core.List.{List, ◌∷◌}
use Prim.Native.Nat.{ℕ}
use Rattle.graph.specs.Finite.{tab, if_less}
use Rattle.assignment.specs.Inner.{input_word}
use Rattle.assignment.proofs.words.input_words.Goals as goal

next : {x y : ℕ} {l m : List ℕ} → x ≡ y → l ≡ m → x ∷ l ≡ y ∷ m
next p q = ap₂ (λ (x : ℕ) (l : List ℕ). x ∷ l) p q

pub returns : goal.returns
unfolding tab input_word if_less
returns c =
    next refl (next refl (next refl (next refl (next refl (next refl (next c.all.ensures (next c.all-2.ensures (next c.all-3.ensures (next c.all-4.ensures (next c.all-5.ensures (next c.all-6.ensures (next c.all-7.ensures (next c.all-8.ensures (next c.all-9.ensures (next c.all-10.ensures refl)))))))))))))))
