-- Sheets of moves made by calls: lists of nodes with a move each, every one given to the many call (M-106) on the graph that the one
-- before left. A sheet of single moves is one whose lists have one node each.
use Rattle.std.specs.Prelude.{◌↔◌, ◌≡◌, ◌∷◌, ◌++◌}
use Rattle.graph.specs.All.{ℕ, List, [], tab, Graph, node}
use Rattle.many.specs.All.{Entry, entries, one_by_one, many_number, many_call}
use Rattle.order.specs.Order.{MovesUnder, combination, CombineAlike}

pub record Listing : Type 0 where
  pub nodes : List ℕ
  pub moves : List ℕ

-- the graph after all of them, under the locks ls
unfoldable pub sheet_graph : Graph → List ℕ → List Listing → Graph
sheet_graph g ls [] = g
sheet_graph g ls (p ∷ ps) = sheet_graph (many_call g ls p.nodes p.moves).graph ls ps

-- none of the calls is refused
abbrev pub AllAccepted : Graph → List ℕ → List Listing → Type 0
AllAccepted g ls [] = Unit {0}
AllAccepted g ls (p ∷ ps) = (many_number g ls p.nodes p.moves ≡ 0) × AllAccepted (many_call g ls p.nodes p.moves).graph ls ps

-- all their moves, in the order in which they are made
unfoldable pub written : List Listing → List Entry
written [] = []
written (p ∷ ps) = entries p.nodes p.moves ++ written ps

-- M-111 of calls: two sheets end in the same graph exactly when every node's moves combine alike in both
abbrev pub SheetsCompared : Graph → List ℕ → List Listing → List Listing → Type 0
SheetsCompared g ls ps qs =
    AllAccepted g ls ps → AllAccepted g ls qs → ((sheet_graph g ls ps ≡ sheet_graph g ls qs) ↔ CombineAlike g (written ps) (written qs))

-- every node, by rising index, with what its moves combine to
unfoldable pub every_node : Graph → List ℕ
every_node g = tab g.N (λ v. node g v)

unfoldable pub every_move : Graph → List Entry → List ℕ
every_move g es = tab g.N (λ v. combination g es (node g v))

-- a list of moves of any length that leaves the locked nodes alone is one accepted call
pub record OneCall (g : Graph) (ls : List ℕ) (es : List Entry) : Type 0 where
  pub accepted : many_number g ls (every_node g) (every_move g es) ≡ 0
  pub same_graph : (many_call g ls (every_node g) (every_move g es)).graph ≡ one_by_one g es

abbrev pub ShortForm : Graph → List ℕ → List Entry → Type 0
ShortForm g ls es = MovesUnder g ls es → OneCall g ls es
