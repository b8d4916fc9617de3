-- A node's readers: those odd, and those odd once all are turned, are all of them. What they add, by the flag of a move.
use Rattle.std.proofs.Common.{◌≡◌, ℕ, zero, suc, ◌+◌, ◌-◌, ◌*◌, ◌%◌, ◌<◌, ◌≤◌, Bool, true, false, cond, sym, refl, ◌∙◌, arith}
use Rattle.graph.specs.Count.{named, output_named, node_readers, readers}
use Rattle.graph.specs.Finite.{if_equal, sum, count}
use Rattle.graph.specs.Graph.{Graph, word, output}
use Rattle.moves.specs.Cost.{shown}
use Rattle.graph.proofs.Finite.{sum_same}
use Rattle.moves.proofs.Count.{sum_add}

halves : (n : ℕ) (t : ℕ → Bool) (x : ℕ → ℕ) → sum n (λ j. cond (t j) ((x j + 0) % 2) 0) + sum n (λ j. cond (t j) ((x j + 1) % 2) 0) ≡ count n t
unfolding count
halves n t x = sym (sum_add n (λ j. cond (t j) ((x j + 0) % 2) 0) (λ j. cond (t j) ((x j + 1) % 2) 0)) ∙ sum_same n _ _ (λ j h. go (t j) (x j))
  where
    go : (b : Bool) (y : ℕ) → cond b ((y + 0) % 2) 0 + cond b ((y + 1) % 2) 0 ≡ cond b 1 0
    go true y = omega arith
    go false y = refl

pub shown_both : (g : Graph) (u : ℕ) → shown g u 0 + shown g u 1 ≡ readers g u
unfolding shown readers node_readers
shown_both g u = omega (arith, halves (3 * g.N) (named g u) (λ j. word g j), halves g.O (output_named g u) (λ j. output g j))

pub all_readers : (g : Graph) (u f : ℕ) → f ≤ 1 → if_equal f 0 (shown g u 0) (readers g u - shown g u 0) ≡ shown g u f
unfolding if_equal
all_readers g u zero l = refl
all_readers g u (suc zero) l = omega (arith, shown_both g u)
all_readers g u (suc (suc f)) l = absurd (omega arith)

-- one reader, which shows s
pub one_reader : (f s : ℕ) → f ≤ 1 → s < 2 → if_equal f 0 s (1 - s) ≡ (s + f) % 2
unfolding if_equal
one_reader zero s l h = omega arith
one_reader (suc zero) s l h = omega arith
one_reader (suc (suc f)) s l h = absurd (omega arith)
