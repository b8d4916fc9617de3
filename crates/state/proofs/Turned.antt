-- How often each word is turned where all readers of an index are: no mark, nothing past the graph, and the same words in any
-- graph of the same wiring. From the laws of turned graphs.
use mathlib.Core.Path.{◌≡◌}
use mathlib.Core.Bool.{cond}
use Prim.Native.Nat.{ℕ, ◌*◌, ◌<◌}
use Rattle.graph.specs.Count.{named, output_named}
use Rattle.graph.specs.Graph.{Graph}
use Rattle.graph.specs.Turned.{up_to}
use Rattle.graph.proofs.Alike.{Alike, alike_named, alike_out_named}
use Rattle.graph.proofs.Cases.{cond_same}
use Rattle.graph.proofs.Turned.{Sparing, by_never, up_to_in, up_to_past, up_to_zero}
use Rattle.state.specs.Step.{read_turns, output_read_turns, readers_turned}

module _ (g : Graph) (u f : ℕ) where
  pub read_turns_at : (j : ℕ) → j < 3 * g.N → read_turns g u f j ≡ cond (named g u j) f 0
  unfolding read_turns
  read_turns_at = up_to_in (3 * g.N) (λ j. cond (named g u j) f 0)

  pub output_read_turns_at : (j : ℕ) → j < g.O → output_read_turns g u f j ≡ cond (output_named g u j) f 0
  unfolding output_read_turns
  output_read_turns_at = up_to_in g.O (λ j. cond (output_named g u j) f 0)

  pub readers_sparing : Sparing g (read_turns g u f) (output_read_turns g u f)
  unfolding read_turns output_read_turns named
  readers_sparing =
      record {
        past = up_to_past (3 * g.N) _;
        at_mark = λ j e. up_to_zero (3 * g.N) _ j (rw e);
        out_past = up_to_past g.O _;
      }

-- no turn
pub readers_turned_zero : (g : Graph) (u : ℕ) → readers_turned g u 0 ≡ g
unfolding read_turns output_read_turns
readers_turned_zero g u = by_never g (read_turns g u 0) (output_read_turns g u 0) (λ j. up_to_zero (3 * g.N) _ j (cond_same (named g u j) 0)) (λ j. up_to_zero g.O _ j (cond_same (output_named g u j) 0))

module _ (g h : Graph) (a : Alike g h) (u f : ℕ) where
  pub read_turns_alike : (j : ℕ) → read_turns h u f j ≡ read_turns g u f j
  unfolding read_turns up_to
  read_turns_alike j = rw (alike_named g h a u j, a.same_N)

  pub output_read_turns_alike : (j : ℕ) → output_read_turns h u f j ≡ output_read_turns g u f j
  unfolding output_read_turns up_to
  output_read_turns_alike j = rw (alike_out_named g h a u j, a.same_O)
