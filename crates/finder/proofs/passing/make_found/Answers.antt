-- `make_found` meets its contract. From the law on the table of a node made.
use Prim.Native.Nat.{ℕ, ◌+◌, ◌*◌, ◌≤◌, ◌<◌}
use native.Mathlib.Omega.{arith}
use Rattle.graph.specs.Literals.{literals}
use Rattle.evaluation.specs.Inner.{nodes_of}
use Rattle.hidden.specs.Truth.{Triple, triple}
use Rattle.majority_call.proofs.Decided.{made_table}
use Rattle.finder.proofs.Below.{becomes_made}
use Rattle.finder.proofs.passing.make_found.Goals as goal
use Rattle.finder.proofs.passing.make_found.Goals.{Start}

room : (i n v x y z c l : ℕ) → v < n → i ≤ 4096 → n ≤ 100000 → 3 * n ≤ l → x < y → y < z → z < i + 1 + v → c < 8
    → (v < 100000) × (3 * v + 3 ≤ l) × (x < 200000) × (y < 200000) × (z < 200000) × (c < 8)
room i n v x y z c l h f m r p q e d = (omega arith, omega arith, omega arith, omega arith, omega arith, d)

pub complements_of-c-requires : goal.complements_of-c-requires
complements_of-c-requires c =
    let k = rw c.in-Some.is at c.requires.2 in
    (omega arith, (k (omega arith)).majority)

pub make-requires : goal.make-requires
make-requires c =
    let a = c.args in
    let t = c.in-Some.trial in
    let k = rw c.in-Some.is at c.requires.2 in
    let r = (k (omega arith)).rising in
    room a.inputs a.nodes a.v t.one t.two t.three _ _ c.requires.1 c.requires.0.few_inputs c.requires.0.few_nodes c.requires.0.held_nodes r.second r.third r.below c.complements_of-c.ensures.1

pub returns-in-Some : goal.returns-in-Some
returns-in-Some c =
    let k = c.complements_of-c in
    let a = c.args in
    let t = c.in-Some.trial in
    let x : Triple = triple t.one t.two t.three in
    let ns = literals a.node_table.now a.node_bits.now in
    let l : t.byte < 256 = omega arith in
    let q = rw c.in-Some.is at c.requires.2 in
    rw c.in-Some.is
    (becomes_made (nodes_of a.inputs a.nodes ns) a.v t.byte x _ l (made_table a.inputs a.nodes ns _ x (a.inputs + 1 + a.v) a.v t.byte k.result (omega arith) (q l).value k.ensures.0 c.make.ensures))
