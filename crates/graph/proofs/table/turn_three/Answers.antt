-- `turn_three` meets its contract: three words turned one after the other, or their bits in one word that is stored once. From the laws of
-- words turned.
use Rattle.std.proofs.Common.{ℕ, ◌+◌, ◌/◌, ◌<◌, List, length, arith}
use Rattle.graph.specs.Literals.{literals}
use Rattle.graph.specs.Inner.{Turnable}
use Rattle.graph.proofs.Literals.{held_index, held_literals}
use Rattle.graph.proofs.Places.{still_turnable, three_turned, three_stored}
use Rattle.graph.proofs.table.turn_three.Goals as goal
use Rattle.graph.proofs.table.turn_three.Goals.{After-turn_word, Start}

word-there : (s : Start) → s.args.j / 64 < length s.args.bits.now
word-there s = let a = s.args in omega (arith, held_literals a.table.now a.bits.now, s.requires.0.there)

far : (s : Start) → s.args.j + 2 < 9223372036854775808
far s = let a = s.args in omega (arith, held_index a.table.now a.bits.now (a.j + 2) s.requires.2.there)

-- the second word once the first is turned, and the third once both are

module _ (c : After-turn_word) where
  abbrev one : List ℕ
  one = literals c.args.table.now c.turn_word.new.bits

  after_one : (i r : ℕ) → c.args.j < i → Turnable (literals c.args.table.now c.args.bits.now) i r → Turnable one i r
  after_one i r h = still_turnable (literals c.args.table.now c.args.bits.now) one c.args.j c.args.x i r c.turn_word.ensures (λ e. omega arith)

pub bounds-bits-k : goal.bounds-bits-k
bounds-bits-k c = omega (arith, word-there (goal.at.bounds-bits-k c).Start)

pub bounds-bits-k-then-s-lt62 : goal.bounds-bits-k-then-s-lt62
bounds-bits-k-then-s-lt62 c = omega (arith, word-there (goal.at.bounds-bits-k-then-s-lt62 c).Start)

pub returns-then-s-lt62 : goal.returns-then-s-lt62
returns-then-s-lt62 c =
    let a = c.args in
    three_stored a.table.now a.bits.now a.j a.x a.y a.z c.flipped-one.result c.flipped-two.result c.flipped.result c.if-s-lt62.true c.requires.0 c.requires.1 c.requires.2
    c.flipped-one.ensures c.flipped-two.ensures c.flipped.ensures

pub turn_word-requires : goal.turn_word-requires
turn_word-requires c = (c.requires.0.few, c.requires.0.there, c.requires.0.low)

pub overflow_add-j : goal.overflow_add-j
overflow_add-j c = omega (arith, far (goal.at.overflow_add-j c).Start)

pub turn_word-requires-2 : goal.turn_word-requires-2
turn_word-requires-2 c =
    let t = after_one (goal.at.turn_word-requires-2 c).After-turn_word (c.args.j + 1) c.args.y (omega arith) c.requires.1 in
    (t.few, t.there, t.low)

pub overflow_add-j-2 : goal.overflow_add-j-2
overflow_add-j-2 c = omega (arith, far (goal.at.overflow_add-j-2 c).Start)

pub turn_word-requires-3 : goal.turn_word-requires-3
turn_word-requires-3 c =
    let a = c.args in
    let t = still_turnable (one (goal.at.turn_word-requires-3 c).After-turn_word) (literals a.table.now c.turn_word-2.new.bits) (a.j + 1) a.y (a.j + 2) a.z c.turn_word-2.ensures (λ e. omega arith) (after_one (goal.at.turn_word-requires-3 c).After-turn_word (a.j + 2) a.z (omega arith) c.requires.2) in
    (t.few, t.there, t.low)

pub returns : goal.returns
returns c =
    let a = c.args in
    three_turned (literals a.table.now a.bits.now) (one (goal.at.returns c).After-turn_word) (literals a.table.now c.turn_word-2.new.bits) (literals a.table.now c.turn_word-3.new.bits) a.j a.x a.y a.z
    c.turn_word.ensures c.turn_word-2.ensures c.turn_word-3.ensures
