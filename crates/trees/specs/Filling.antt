-- What the sweeps at the start leave in scratch. While readers are counted, field 4 has those in the node table and field 5 the
-- place of the last of them; fields 6 and 7 have the same of the output table. What inner functions ask of each other, and
-- no promise to a caller.
use Rattle.std.specs.Prelude.{◌≡◌, List, ◌≢◌, ℕ, ◌+◌, ◌*◌, ◌/◌, ◌%◌, ◌≤◌, ◌<◌, eqb, length, get_or}
use Rattle.graph.specs.Finite.{if_equal, sum}
use Rattle.graph.specs.Graph.{mark}
use Rattle.graph.specs.Inner.{three_bits}
use Rattle.moves.specs.Tree.{last}
use Rattle.state.specs.State.{field}

-- x stored in field f of node v
pub record Stored (v f x : ℕ) (sc sc' : List ℕ) : Type 0 where
  pub new : field sc' v f ≡ x
  pub old : (j : ℕ) → j ≢ 8 * v + f → get_or sc' j 0 ≡ get_or sc j 0
  pub same : length sc' ≡ length sc

-- the fields of n nodes are 0
abbrev pub Cleared : ℕ → List ℕ → Type 0
Cleared n sc = (k : ℕ) → k < 8 * n → get_or sc k 0 ≡ 0

-- scratch is long enough for n nodes, f is a field to count in, and counts are at most m
pub record Counting (i n f : ℕ) (sc : List ℕ) (m : ℕ) : Type 0 where
  pub few_inputs : i ≤ 4096
  pub few_nodes : n ≤ 100000
  pub long : 8 * n ≤ length sc
  pub above : 2 ≤ f
  pub fits : f ≤ 6
  pub low : (v : ℕ) → v < n → field sc v f ≤ m
  pub odd_low : (v : ℕ) → v < n → field sc v 1 ≤ m

-- only the fields f, f + 1 and 1 differ
abbrev pub KeptBut : ℕ → List ℕ → List ℕ → Type 0
KeptBut f sc sc' = (j : ℕ) → j % 8 ≢ f → j % 8 ≢ f + 1 → j % 8 ≢ 1 → get_or sc' j 0 ≡ get_or sc j 0

-- the literal x at place p noted
pub record Noted (i n f x p : ℕ) (sc sc' : List ℕ) : Type 0 where
  pub counted : (v : ℕ) → v < n → field sc' v f ≡ field sc v f + if_equal (x / 2) (i + 1 + v) 1 0
  pub odd : (v : ℕ) → v < n → field sc' v 1 ≡ field sc v 1 + if_equal (x / 2) (i + 1 + v) (x % 2) 0
  pub placed : (v : ℕ) → v < n → field sc' v (f + 1) ≡ if_equal (x / 2) (i + 1 + v) p (field sc v (f + 1))
  pub kept : KeptBut f sc sc'

-- before a table is noted
pub record Noting (i n f : ℕ) (sc : List ℕ) : Type 0 where
  pub counting : Counting i n f sc 300000
  pub none : (v : ℕ) → v < n → field sc v f ≡ 0
  pub no_place : (v : ℕ) → v < n → field sc v (f + 1) ≡ 0

-- the first m words of the table l noted
pub record Notes (i n f : ℕ) (l : List ℕ) (sc sc' : List ℕ) (m : ℕ) : Type 0 where
  pub counted : (v : ℕ) → v < n → field sc' v f ≡ sum m (λ j. if_equal (get_or l j 0 / 2) (i + 1 + v) 1 0)
  pub odd : (v : ℕ) → v < n → field sc' v 1 ≡ field sc v 1 + sum m (λ j. if_equal (get_or l j 0 / 2) (i + 1 + v) (get_or l j 0 % 2) 0)
  pub placed : (v : ℕ) → v < n → field sc' v (f + 1) ≡ last m (λ j. eqb (get_or l j 0 / 2) (i + 1 + v))
  pub kept : KeptBut f sc sc'

-- the place p, if one reader is in the node table and none is an output
unfoldable pub only_place : ℕ → ℕ → ℕ → ℕ
only_place a b p = if_equal a 1 (if_equal b 0 p mark) mark

-- the complement bits of node v's words in the table l, with nothing pending
unfoldable pub flags_of : List ℕ → ℕ → ℕ
flags_of l v = 2 * three_bits l v

-- fields 0 and 3 of node v from what was counted, and field 2 from the table l; nothing else differs
pub record Gathered (l : List ℕ) (v : ℕ) (sc sc' : List ℕ) : Type 0 where
  pub all : field sc' v 0 ≡ field sc v 4 + field sc v 6
  pub only : field sc' v 3 ≡ only_place (field sc v 4) (field sc v 6) (field sc v 5)
  pub flags : field sc' v 2 ≡ flags_of l v
  pub kept : (j : ℕ) → j ≢ 8 * v + 0 → j ≢ 8 * v + 2 → j ≢ 8 * v + 3 → get_or sc' j 0 ≡ get_or sc j 0

-- of the first m of n nodes
pub record GatheredTo (l : List ℕ) (n : ℕ) (sc sc' : List ℕ) (m : ℕ) : Type 0 where
  pub all : (v : ℕ) → v < m → field sc' v 0 ≡ field sc v 4 + field sc v 6
  pub only : (v : ℕ) → v < m → field sc' v 3 ≡ only_place (field sc v 4) (field sc v 6) (field sc v 5)
  pub flags : (v : ℕ) → v < m → field sc' v 2 ≡ flags_of l v
  pub kept : (j : ℕ) → j % 8 ≢ 0 → j % 8 ≢ 2 → j % 8 ≢ 3 → get_or sc' j 0 ≡ get_or sc j 0
