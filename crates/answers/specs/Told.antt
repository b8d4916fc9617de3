-- What an answer leaves at a place that its caller lends.
use Rattle.std.specs.Prelude.{◌∷◌}
use Rattle.graph.specs.All.{ℕ, List, [], get_or, ℤ, Answer}

-- numbers at that place afterwards: the values answered, or what was there where none are, as by a refused call
abbrev pub told_by : {A : Type 0} → List A → List A → List A
told_by [] before = before
told_by (v ∷ vs) before = v ∷ vs

abbrev pub told : Answer → List ℕ → List ℕ
told a before = told_by a.values before

-- the same of signed numbers
abbrev pub told_signed : Answer → List ℤ → List ℤ
told_signed a before = told_by a.signed before

-- the same of one number
abbrev pub told_one : Answer → ℕ → ℕ
told_one a before = get_or a.values 0 before

-- and of one signed number
abbrev pub told_gain : Answer → ℤ → ℤ
told_gain a before = get_or a.signed 0 before
