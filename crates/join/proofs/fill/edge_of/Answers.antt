-- `fill::edge_of` meets its contract. From what a place holds and the bits of a node.
use mathlib.Core.Path.{◌≡◌, sym, ◌∙◌}
use mathlib.Core.List.{List}
use Prim.Native.Nat.{ℕ, ◌+◌, ◌*◌, ◌/◌, ◌%◌, ◌^◌, ◌≤◌, ◌<◌}
use native.Mathlib.Omega.{arith}
use lib.ListN.{get_or}
use Rattle.graph.specs.Graph.{index}
use Rattle.graph.specs.Inner.{Readable, three_bits}
use Rattle.graph.specs.Literals.{bit_at, index_at, literals}
use Rattle.graph.proofs.Literals.{bit_at_le, bit_at_lem, edge_parts, held_at, held_bit, held_literals}
use Rattle.graph.proofs.Words.{three_apart}
use Rattle.join.proofs.fill.edge_of.Goals as goal
use Rattle.join.proofs.fill.edge_of.Goals.{Start}
use Rattle.graph.specs.Tables.{lent_table}

-- word k, by its index and its bit of the three

module _ (us bs : List ℕ) (v k u t : ℕ) (r : Readable (literals us bs) v) (h : k ≤ 2) (low : index (get_or (literals us bs) (3 * v + k) 0) < 2147483647) (e : u ≡ index_at us (3 * v + k)) (q : t ≡ three_bits (literals us bs) v) where
  bit_is : t / 2 ^ k % 2 ≡ bit_at bs (3 * v + k)
  bit_is = rw q (three_apart (literals us bs) v k h ∙ bit_at_lem us bs (3 * v + k) (held_bit us bs (3 * v + k) (omega (arith, r.there))))

  edge-is : (u < 2147483647) × (2 * u + t / 2 ^ k % 2 ≡ get_or (literals us bs) (3 * v + k) 0)
  edge-is =
      let held = held_at us bs (3 * v + k) (omega (arith, r.there)) in
      let p = edge_parts (index_at us (3 * v + k)) (bit_at bs (3 * v + k)) (bit_at_le bs (3 * v + k)) (rw held at low) in
      (omega (arith, p.0, e), rw (e, bit_is) (sym (held ∙ p.1)))

edge : (s : Start) (u : ℕ) → u ≡ index_at s.args.table.now.indices.now (3 * s.args.v + s.args.k) → (u < 2147483647) × (2 * u + s.args.three / 2 ^ s.args.k % 2 ≡ get_or (lent_table s.args.table.now) (3 * s.args.v + s.args.k) 0)
edge s u e = let a = s.args in edge-is a.table.now.indices.now a.table.now.bits.now a.v a.k u a.three s.requires.0 s.requires.1 s.requires.2 e s.requires.3

pub raw_at-requires : goal.raw_at-requires
raw_at-requires c = omega (arith, c.requires.0.there, c.requires.1, held_literals c.args.table.now.indices.now c.args.table.now.bits.now)

pub overflow_mul-result : goal.overflow_mul-result
overflow_mul-result c = omega (arith, (edge (goal.at.overflow_mul-result c).Start c.raw_at.result c.raw_at.ensures).0)

pub overflow_add-result : goal.overflow_add-result
overflow_add-result c = omega (arith, (edge (goal.at.overflow_add-result c).Start c.raw_at.result c.raw_at.ensures).0)

pub returns : goal.returns
returns c = (edge (goal.at.returns c).Start c.raw_at.result c.raw_at.ensures).1
