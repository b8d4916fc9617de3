-- What crate packed promises (M-108), together.
use Rattle.std.specs.Prelude.{◌≡◌, ◌∷◌}
use Rattle.graph.specs.All.{ℕ, List, [], get_or, ℤ, tab, Graph, graph_of, mark}
use Rattle.replay.specs.All.{Lent}
use Rattle.packed.specs.{Old.TellsAll, Old.OnesAreC, Old.SameRule, Old.RefusedAlike, Old.EveryOld, Old.old_table, Old.old_graph, Old.indices_of, Old.bits_of, Corresponds.Corresponds, Corresponds.FillsCorrespond, Corresponds.JoinsCorrespond, File.PackedGraph, File.OneFile, File.FileKept}

-- 66 literals of index 1: the first word has only its last bit, the second its first
abbrev long : List ℕ
long = old_table 66 (tab 66 (λ j. 1)) (9223372036854775808 ∷ 1 ∷ [])

-- packed tables worked out by the team: document 01's P1 with its literals complemented, an XOR, and places on both sides of a word's end
pub record WorkedTables : Type 0 where
  -- indices 1 2 3 with the bits 1 1 1 are the literals 3 5 7; output 4 with the bit 1 is 9
  pub majority : old_graph 3 1 1 (1 ∷ 2 ∷ 3 ∷ []) (7 ∷ []) (4 ∷ []) (1 ∷ []) ≡ graph_of 3 1 1 (3 ∷ 5 ∷ 7 ∷ []) (9 ∷ [])
  -- the mark stands among the indices, and its bit is 0
  pub xor : old_graph 2 1 1 (1 ∷ 2 ∷ mark ∷ []) (2 ∷ []) (3 ∷ []) (0 ∷ []) ≡ graph_of 2 1 1 (2 ∷ 5 ∷ mark ∷ []) (6 ∷ [])
  -- and back: a table of literals has these indices and these bits
  pub indices : indices_of (2 ∷ 5 ∷ mark ∷ []) ≡ 1 ∷ 2 ∷ mark ∷ []
  pub bits : bits_of (2 ∷ 5 ∷ mark ∷ []) ≡ 2 ∷ []
  pub place_62 : get_or long 62 0 ≡ 2
  pub place_63 : get_or long 63 0 ≡ 3
  pub place_64 : get_or long 64 0 ≡ 3
  pub place_65 : get_or long 65 0 ≡ 2

pub record Promises : Type 0 where
  pub tells_all : (us bs vs ds : List ℕ) → TellsAll us bs vs ds
  pub ones_are_c : (i n o : ℕ) (us bs vs ds : List ℕ) → OnesAreC i n o us bs vs ds
  pub same_rule : (g : Graph) (ls : List ℕ) → SameRule g ls
  pub refused_alike : (i n o : ℕ) (us bs vs ds : List ℕ) → RefusedAlike i n o us bs vs ds
  pub every_old : (g : Graph) (ls : List ℕ) → EveryOld g ls
  pub corresponds : (ls : List ℕ) → Corresponds ls
  pub fills_correspond : (s words : List ℕ) (lent : Lent) (before : List ℤ) (room scratch : ℕ) (buffer : List ℕ)
      → FillsCorrespond s words lent before room scratch buffer
  pub joins_correspond : (ls ks : List ℕ) → JoinsCorrespond ls ks
  pub file_kept : (p : PackedGraph) → FileKept p
  pub one_file : (p q : PackedGraph) → OneFile p q
  pub worked_tables : WorkedTables
