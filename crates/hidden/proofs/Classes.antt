-- The table of classes keeps its rule. By one computed test over all 256.
use mathlib.Core.Path.{◌≡◌, refl}
use mathlib.Core.Bool.{Bool}
use mathlib.Core.List.{flat_map}
use Prim.Native.Nat.{ℕ, ◌<◌}
use lib.Dec.{T, eqb, eqb→eq}
use lib.ListN.{get_or}
use Rattle.graph.specs.Finite.{sum, count}
use Rattle.choice.specs.Choice.{from, least, unless_less}
use Rattle.graph.specs.Literals.{bit}
use Rattle.evaluation.specs.Word.{gather}
use Rattle.moves.proofs.Flags.{all, all_at}
use Rattle.graph.specs.Value.{majority}
use Rattle.hidden.specs.Majority.{majority_class, majority_byte}
use Rattle.hidden.specs.Promises.{ClassTable}
use Rattle.hidden.proofs.Eight.{majority_only}
use Rattle.hidden.specs.Class.{orders, placed, variant, variants, class_of, classes}

right : ℕ → Bool
right f = eqb (get_or classes f 0) (class_of f)

all_right : T (all 256 right)
unfolding right classes class_of variants variant placed orders least unless_less from flat_map gather bit sum
all_right = tt

class_is : (f : ℕ) → f < 256 → get_or classes f 0 ≡ class_of f
unfolding right
class_is f h = eqb→eq _ _ (all_at 256 right all_right f h)

fourteen : count 256 (λ f. eqb (get_or classes f 0) f) ≡ 14
unfolding count sum classes
fourteen = refl

majority_class_lem : class_of (majority_byte 0) ≡ majority_class
unfolding majority_byte majority class_of variants variant placed orders least unless_less from flat_map gather bit sum
majority_class_lem = refl

pub class_table : ClassTable
class_table = record { class_is = class_is; fourteen = fourteen; majority_class_lem = majority_class_lem; majority_only = majority_only }
