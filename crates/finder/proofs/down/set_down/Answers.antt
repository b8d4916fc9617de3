-- `set_down` meets its contract.
use Prim.Native.Nat.{ℕ, ◌+◌, ◌-◌, ◌*◌, ◌≤◌, ◌<◌}
use native.Mathlib.Omega.{arith}
use Rattle.finder.proofs.down.set_down.Goals as goal

low : (i n v x : ℕ) → i ≤ 4096 → n ≤ 100000 → v < n → x < i + 1 + v → 2 * x < 4294967296
low i n v x a b h k = omega arith

rooms : (i n v u l : ℕ) → i ≤ 4096 → n ≤ 100000 → v < n → u < i + 1 + v → 8 * n ≤ l → (i ≤ 4096) × (u ≤ i + 100000) × (8 * (u - i) ≤ l)
rooms i n v u l a b h k e = (a, omega arith, omega arith)

room : (n v f l : ℕ) → n ≤ 100000 → v < n → f < 8 → 8 * n ≤ l → (v < 100000) × (f < 8) × (8 * v + f < l)
room n v f l b h q k = (omega arith, q, omega arith)

pub words_from-requires : goal.words_from-requires
words_from-requires c = rooms _ _ _ _ _ c.requires.0.few_inputs c.requires.0.few_nodes c.requires.1 c.nearest_open-low.ensures.below c.requires.2

pub overflow_mul-low : goal.overflow_mul-low
overflow_mul-low c = record { fits = low _ _ _ _ c.requires.0.few_inputs c.requires.0.few_nodes c.requires.1 c.nearest_open-low.ensures.below }

pub store-requires : goal.store-requires
store-requires c = room c.args.graph.now.nodes c.args.v 0 _ c.requires.0.few_nodes c.requires.1 (omega arith) c.requires.2

pub store-requires-2 : goal.store-requires-2
store-requires-2 c = room c.args.graph.now.nodes c.args.v 6 _ c.requires.0.few_nodes c.requires.1 (omega arith) (omega (arith, c.store.ensures.same, c.requires.2))

pub returns : goal.returns
returns c =
    let o = c.nearest_open-low in
    record { low = o.result; leading = o.ensures; words = c.saturating_add-words.result; between = _; stored = c.store.ensures; counted = c.store-2.ensures }
