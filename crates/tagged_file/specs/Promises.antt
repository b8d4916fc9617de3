-- What files promise beside their definitions: loading and writing a graph with its locks are opposite to each other.
use Rattle.std.specs.Prelude.{◌*◌, ◌≤◌, ◌<◌, ◌≡◌, ◌∷◌, ◌++◌}
use Rattle.graph.specs.All.{ℕ, List, [], length, get_or, take, drop, Graph, graph_of, word, output, held, filled, Admitted, LockBytes, accepted, LockedOutcome, locked_outcome}
use Rattle.tagged_file.specs.{Load.free_locks, Load.load_call, Write.head_field, Write.node_field_at, Write.output_field_at, Write.end_field, Write.in_order, Write.file_of}

-- a list of bytes
abbrev pub Bytes : List ℕ → Type 0
Bytes s = (i : ℕ) → get_or s i 0 < 256

-- the file s is accepted
abbrev pub Accepts : (s ns os ls : List ℕ) → Type 0
Accepts s ns os ls = (load_call s ns os ls).answer.number ≡ 0

-- then the graph and the locks that are read are admitted, and it is their file
pub record AcceptedFile (s ns os ls : List ℕ) : Type 0 where
  pub load_admitted : Accepts s ns os ls → Admitted (load_call s ns os ls).graph
  pub load_locks : Accepts s ns os ls → LockBytes (load_call s ns os ls).graph.N (load_call s ns os ls).locks
  pub written_back : Bytes s → Accepts s ns os ls → file_of (load_call s ns os ls).graph (load_call s ns os ls).locks ≡ s

-- the same graph with the same locks, in tables and bytes whose tails may differ
pub record SameGraph (g h : Graph) (ls ks : List ℕ) : Type 0 where
  pub inputs : g.I ≡ h.I
  pub nodes : g.N ≡ h.N
  pub outputs : g.O ≡ h.O
  pub words : (j : ℕ) → j < 3 * g.N → word g j ≡ word h j
  pub output_words : (j : ℕ) → j < g.O → output g j ≡ output h j
  pub locks : (v : ℕ) → v < g.N → get_or ls v 0 ≡ get_or ks v 0

-- two accepted files that read the same are equal
abbrev pub OneFile : (s ns os ls s' ns' os' ls' : List ℕ) → Type 0
OneFile s ns os ls s' ns' os' ls' =
    Bytes s → Bytes s' → Accepts s ns os ls → Accepts s' ns' os' ls'
    → SameGraph (load_call s ns os ls).graph (load_call s' ns' os' ls').graph (load_call s ns os ls).locks (load_call s' ns' os' ls').locks → s ≡ s'

-- g with the locks ks, in the front of tables and lock bytes whose rest is left
abbrev pub read_as : Graph → (ks ns os ls : List ℕ) → LockedOutcome
read_as g ks ns os ls =
    locked_outcome (accepted (g.I ∷ g.N ∷ g.O ∷ []))
    (graph_of g.I g.N g.O (filled (take (3 * g.N) g.nodes) ns) (filled (take g.O g.outputs) os))
    (take g.N ks ++ drop g.N ls)

-- the file of g with the locks ks loads as these
abbrev pub LoadsWritten : Graph → (ks ns os ls : List ℕ) → Type 0
LoadsWritten g ks ns os ls = load_call (file_of g ks) ns os ls ≡ read_as g ks ns os ls

-- document 01's file, which knows no locks
abbrev pub file_free : Graph → List ℕ
file_free g = head_field g.I g.N g.O ++ (in_order (node_field_at g.nodes) 0 g.N ++ (in_order (output_field_at g.outputs) 0 g.O ++ end_field))

-- with no node locked the file is that one, and that one loads with every node free
pub record WithoutLocks (g : Graph) : Type 0 where
  pub file_free_lem : (ls : List ℕ) → ((v : ℕ) → v < g.N → get_or ls v 0 ≡ 0) → file_of g ls ≡ file_free g
  pub loads_free : Admitted g → (ns os ls : List ℕ) → 3 * g.N ≤ held ns → g.O ≤ held os → g.N ≤ length ls
      → load_call (file_free g) ns os ls ≡ read_as g (free_locks g.N ls) ns os ls

pub record Promises : Type 0 where
  pub accepted_file : (s ns os ls : List ℕ) → AcceptedFile s ns os ls
  pub one_file : (s ns os ls s' ns' os' ls' : List ℕ) → OneFile s ns os ls s' ns' os' ls'
  pub loads_written : (g : Graph) (ks : List ℕ) → Admitted g → LockBytes g.N ks → (ns os ls : List ℕ)
      → 3 * g.N ≤ held ns → g.O ≤ held os → g.N ≤ length ls → LoadsWritten g ks ns os ls
  pub without_locks : (g : Graph) → WithoutLocks g
