-- `turn_words` meets its contract: the node's three places are one step of the sweep. From the laws of the sweep.
use mathlib.Core.Path.{◌≡◌, refl}
use mathlib.Core.Bool.{Bool, true, false, cond}
use mathlib.Core.List.{List}
use native.Mathlib.Omega.{arith}
use Prim.Native.Nat.{ℕ, ◌+◌, ◌*◌, ◌<◌}
use lib.ListN.{get_or}
use Rattle.graph.specs.Graph.{index}
use Rattle.graph.specs.Literals.{held, literals}
use Rattle.many.proofs.Sweeping.{first_asks, second_asks, third_there, third_asks, words_turned}
use Rattle.many.proofs.making.turn_words.Goals as goal
use Rattle.many.proofs.making.turn_words.Goals.{Start}

module _ (s : Start) where
  abbrev table : List ℕ
  table = literals s.args.node_table.now s.args.node_bits.now

  first : (3 * s.args.v < held table) × (index (get_or table (3 * s.args.v) 0) < 104128)
  first = first_asks s.args.inputs s.args.nodes table s.args.v s.requires.0 s.requires.1

  second : (3 * s.args.v + 1 < held table) × (index (get_or table (3 * s.args.v + 1) 0) < 104128)
  second = second_asks s.args.inputs s.args.nodes table s.args.v s.requires.0 s.requires.1

  third : s.args.xor ≡ false → index (get_or table (3 * s.args.v + 2) 0) < 104128
  third = third_asks s.args.inputs s.args.nodes table s.args.v s.requires.0 s.requires.1 s.args.xor s.requires.2

  there : 3 * s.args.v + 2 < held table
  there = third_there s.args.inputs s.args.nodes table s.args.v s.requires.0 s.requires.1

-- an XOR's third word is not turned

third-low : (k : Bool) (i t z : ℕ) → (k ≡ false → i < 104128) → z ≡ cond k 0 t → 0 < z → i < 2147483647
third-low true i t z h e p = absurd (omega (arith, e))
third-low false i t z h e p = omega (arith, h refl)

pub overflow_mul-at : goal.overflow_mul-at
overflow_mul-at c = omega (arith, c.requires.0.few_nodes, c.requires.1)

pub turns_at-x-requires : goal.turns_at-x-requires
turns_at-x-requires c = (omega arith, (first (goal.at.turns_at-x-requires c).Start).0, (first (goal.at.turns_at-x-requires c).Start).1, c.requires.3)

pub overflow_add-at : goal.overflow_add-at
overflow_add-at c = omega (arith, c.requires.0.few_nodes, c.requires.1)

pub turns_at-y-requires : goal.turns_at-y-requires
turns_at-y-requires c = (omega arith, (second (goal.at.turns_at-y-requires c).Start).0, (second (goal.at.turns_at-y-requires c).Start).1, c.requires.3)

pub third_turns-z-requires : goal.third_turns-z-requires
third_turns-z-requires c = (omega arith, there (goal.at.third_turns-z-requires c).Start, (first (goal.at.third_turns-z-requires c).Start).1, third (goal.at.third_turns-z-requires c).Start, c.requires.3)

pub turn_three-requires : goal.turn_three-requires
turn_three-requires c = (
  record { few = c.turns_at-x.ensures.1; there = (first (goal.at.turn_three-requires c).Start).0; low = λ p. omega (arith, (first (goal.at.turn_three-requires c).Start).1) },
  record { few = c.turns_at-y.ensures.1; there = (second (goal.at.turn_three-requires c).Start).0; low = λ p. omega (arith, (second (goal.at.turn_three-requires c).Start).1) },
  record { few = c.third_turns-z.ensures.1; there = there (goal.at.turn_three-requires c).Start; low = third-low c.args.xor _ _ _ (third (goal.at.turn_three-requires c).Start) c.third_turns-z.ensures.0 },
)

pub returns : goal.returns
returns c =
    let a = c.args in
    λ d ns adm b w e.
    words_turned a.inputs a.nodes d ns adm a.seen.now a.v b c.requires.1 (table (goal.at.returns c).Start) e a.xor c.requires.2 a.row w c.turns_at-x.result c.turns_at-y.result c.third_turns-z.result (literals a.node_table.now c.turn_three.new.bits)
    c.turns_at-x.ensures.0 c.turns_at-y.ensures.0 c.third_turns-z.ensures.0 c.turn_three.ensures
