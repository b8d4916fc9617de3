-- M-108: the file keeps its bytes. Every admitted packed graph has the file that its old one had, and two that have one file are the same in
-- every word that they need.
use Rattle.std.specs.Prelude.{◌*◌, ◌<◌, ◌≡◌}
use Rattle.graph.specs.All.{ℕ, List, get_or, Admitted, LockBytes, Graph, graph_in, words_for}
use Rattle.tagged_file.specs.All.{file_of}
use Rattle.packed.specs.Old.{Indices, BitWords, old_graph}

-- what is lent of a packed graph with its locks: three numbers and five slices
pub record PackedGraph : Type 0 where
  pub I : ℕ
  pub N : ℕ
  pub O : ℕ
  pub node_table : List ℕ
  pub node_bits : List ℕ
  pub output_table : List ℕ
  pub output_bits : List ℕ
  pub locks : List ℕ

-- the graph that these say, and its file
abbrev pub as_graph : PackedGraph → Graph
as_graph p = graph_in p.I p.N p.O p.node_table p.node_bits p.output_table p.output_bits

abbrev pub file : PackedGraph → List ℕ
file p = file_of (as_graph p) p.locks

-- words of 32 and of 64 bits, a graph that is admitted, and lock bytes that are
pub record AdmittedPacked (p : PackedGraph) : Type 0 where
  pub indices : Indices p.node_table
  pub bits : BitWords p.node_bits
  pub output_indices : Indices p.output_table
  pub output_bits : BitWords p.output_bits
  pub admitted : Admitted (as_graph p)
  pub locked : LockBytes p.N p.locks

-- two tables with the same words, as far as n literals need them
pub record SameWords (n : ℕ) (us bs vs ds : List ℕ) : Type 0 where
  pub indices : (j : ℕ) → j < n → get_or us j 0 ≡ get_or vs j 0
  pub bits : (k : ℕ) → k < words_for n → get_or bs k 0 ≡ get_or ds k 0

pub record SamePacked (p q : PackedGraph) : Type 0 where
  pub inputs : p.I ≡ q.I
  pub nodes : p.N ≡ q.N
  pub outputs : p.O ≡ q.O
  pub words : SameWords (3 * p.N) p.node_table p.node_bits q.node_table q.node_bits
  pub output_words : SameWords p.O p.output_table p.output_bits q.output_table q.output_bits
  pub locks : (v : ℕ) → v < p.N → get_or p.locks v 0 ≡ get_or q.locks v 0

-- the same file, just where the needed words are the same
pub record OneFile (p q : PackedGraph) : Type 0 where
  pub told : AdmittedPacked p → AdmittedPacked q → file p ≡ file q → SamePacked p q
  pub one : AdmittedPacked p → AdmittedPacked q → SamePacked p q → file p ≡ file q

-- the file that the old graph had
abbrev pub FileKept : PackedGraph → Type 0
FileKept p =
    Admitted (as_graph p)
    → file p ≡ file_of (old_graph p.I p.N p.O p.node_table p.node_bits p.output_table p.output_bits) p.locks
