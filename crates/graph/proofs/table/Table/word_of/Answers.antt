-- `word_of` meets its contract. From what a place holds and the bits of a node.
use Rattle.std.proofs.Common.{◌≡◌, ℕ, ◌+◌, ◌*◌, ◌/◌, ◌%◌, ◌^◌, ◌<◌, ◌≤◌, List, get_or, sym, ◌∙◌, arith}
use Rattle.graph.specs.Inner.{Readable, three_bits}
use Rattle.graph.specs.Literals.{bit_at, index_at, literal_of, literals}
use Rattle.graph.proofs.Literals.{bit_at_le, bit_at_lem, held_at, held_bit, held_literals}
use Rattle.graph.proofs.Words.{readable_below, three_apart}
use Rattle.graph.proofs.table.Table.word_of.Goals as goal

-- word k, by its index and its bit of the three

module _ (us bs : List ℕ) (v k u t : ℕ) (r : Readable (literals us bs) v) (h : k ≤ 2) (e : u ≡ index_at us (3 * v + k)) (q : t ≡ three_bits (literals us bs) v) where
  bit_is : t / 2 ^ k % 2 ≡ bit_at bs (3 * v + k)
  bit_is = rw q (three_apart (literals us bs) v k h ∙ bit_at_lem us bs (3 * v + k) (held_bit us bs (3 * v + k) (omega (arith, r.there))))

  word-is : literal_of u (t / 2 ^ k % 2) ≡ get_or (literals us bs) (3 * v + k) 0
  word-is = rw (e, bit_is) (sym (held_at us bs (3 * v + k) (omega (arith, r.there))))

  asked : (t / 2 ^ k % 2 ≤ 1) × (literal_of u (t / 2 ^ k % 2) < 4294967296)
  asked = (omega (arith, bit_is, bit_at_le bs (3 * v + k)), rw word-is (readable_below (literals us bs) v r k h))

pub raw_at-requires : goal.raw_at-requires
raw_at-requires c = omega (arith, c.requires.0.there, c.requires.1, held_literals c.args.self.now.indices.now c.args.self.now.bits.now)

pub joined-requires : goal.joined-requires
joined-requires c = let a = c.args in asked a.self.now.indices.now a.self.now.bits.now a.v a.k _ _ c.requires.0 c.requires.1 c.raw_at.ensures c.requires.2

pub returns : goal.returns
returns c =
    let a = c.args in
    c.joined.ensures ∙ word-is a.self.now.indices.now a.self.now.bits.now a.v a.k _ _ c.requires.0 c.requires.1 c.raw_at.ensures c.requires.2
