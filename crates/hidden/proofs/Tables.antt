-- What admission asks of a table beside its words: it holds them where they name lower indices, and no bit is set past them where each is 0.
-- From the laws on literals.
use mathlib.Core.Path.{◌≡◌}
use mathlib.Core.Bool.{true, false}
use mathlib.Core.Logic.{⊎_elim}
use mathlib.Core.List.{List}
use Prim.Native.Nat.{ℕ, zero, suc, ◌+◌, ◌-◌, ◌*◌, ◌/◌, ◌≤◌, ◌<◌}
use native.Mathlib.Nat.{eq-or-lt_of_le}
use native.Mathlib.Omega.{arith}
use lib.ListN.{length, get_or}
use Rattle.graph.specs.Finite.{sum}
use Rattle.graph.specs.Graph.{Graph, node, word, is_edge}
use Rattle.graph.specs.Literals.{bit_of, literals, held, words_for, strays}
use Rattle.graph.proofs.Cases.{true_or_false}
use Rattle.graph.proofs.Counted.{sum_none}
use Rattle.graph.proofs.Edge.{edge_none}
use Rattle.graph.proofs.Literals.{held_all, held_literals}

pub held_below : (g : Graph) → g.I ≤ 4096 → g.N ≤ 100000 → 3 * g.N ≤ length g.nodes
    → ((j : ℕ) → j < 3 * g.N → is_edge g j ≡ true → word g j / 2 < node g (j / 3)) → 3 * g.N ≤ held g.nodes
held_below g a b l f =
    held_all (3 * g.N) g.nodes l
    (λ j h.
    ⊎_elim (λ (e : is_edge g j ≡ true). omega (arith, a, b, f j h e)) (λ (e : is_edge g j ≡ false). omega (arith, (edge_none g j e).1)) (true_or_false (is_edge g j)))

pub no_stray : (n : ℕ) (l : List ℕ) → ((j : ℕ) → n ≤ j → j < 64 * words_for n → bit_of (get_or l j 0) ≡ 0) → strays n l ≡ 0
unfolding strays
no_stray n l h = sum_none (64 * words_for n - n) _ (λ k b. h (n + k) (omega arith) (omega arith))

sum_each : (n : ℕ) (f : ℕ → ℕ) → sum n f ≡ 0 → (j : ℕ) → j < n → f j ≡ 0
unfolding sum
sum_each zero f e j h = absurd (omega arith)
sum_each (suc n) f e j h = ⊎_elim (λ (q : j ≡ n). rw q (omega arith)) (λ (l : j < n). sum_each n f (omega arith) j l) (eq-or-lt_of_le (omega arith))

pub stray_none : (n : ℕ) (l : List ℕ) → strays n l ≡ 0 → (j : ℕ) → n ≤ j → j < 64 * words_for n → bit_of (get_or l j 0) ≡ 0
unfolding strays
stray_none n l e j h b =
    let q : n + (j - n) ≡ j = omega arith in
    rw q at (sum_each (64 * words_for n - n) (λ k. bit_of (get_or l (n + k) 0)) e (j - n) (omega arith))

-- how much two slices hold depends on their lengths alone
pub held_kept : (us vs bs ds : List ℕ) → length vs ≡ length us → length ds ≡ length bs → held (literals vs ds) ≡ held (literals us bs)
held_kept us vs bs ds p q = omega (arith, held_literals vs ds, held_literals us bs)
