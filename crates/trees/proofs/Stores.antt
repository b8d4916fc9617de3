-- One word stored: it is there, and nothing else differs. From the laws on `set`.
use mathlib.Core.List.{List}
use Prim.Native.Nat.{ℕ, ◌+◌, ◌*◌, ◌<◌}
use lib.Seq.{get_or-set_same, get_or-set_other}
use lib.ListN.{length, set, length-set}
use Rattle.trees.specs.Filling.{Stored}

pub set_stored : (sc : List ℕ) (v f x : ℕ) → 8 * v + f < length sc → Stored v f x sc (set sc (8 * v + f) x)
set_stored sc v f x h =
    record {
      new = get_or-set_same sc (8 * v + f) x 0 h;
      old = λ j d. get_or-set_other sc (8 * v + f) j x 0 d;
      same = length-set sc (8 * v + f) x;
    }
