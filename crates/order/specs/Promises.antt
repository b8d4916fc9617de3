-- What is promised of lists of moves, and of settling a settled graph (M-111).
use Rattle.graph.specs.All.{ℕ, List, Graph, Admitted, LockBytes}
use Rattle.many.specs.All.{Entry}
use Rattle.order.specs.Order.{OrderOfMoves, Rules, AnyOrder}
use Rattle.order.specs.Sheets.{Listing, SheetsCompared, ShortForm}
use Rattle.order.specs.Settled.{Settling, StaysSettled}
use Rattle.order.specs.Worked.{Worked}

pub record Promises : Type 0 where
  pub rules : (g : Graph) → Admitted g → Rules g
  pub order : (g : Graph) → Admitted g → (es fs : List Entry) → OrderOfMoves g es fs
  pub any_order : (g : Graph) → Admitted g → (es fs : List Entry) → AnyOrder g es fs
  pub sheets : (ls : List ℕ) (g : Graph) → Admitted g → (ps qs : List Listing) → SheetsCompared g ls ps qs
  pub short_form : (g : Graph) → Admitted g → (ls : List ℕ) → LockBytes g.N ls → (es : List Entry) → ShortForm g ls es
  pub settling : (ls : List ℕ) (g : Graph) → Settling ls g
  pub settled_more : (ls ks : List ℕ) (g : Graph) → StaysSettled ls ks g
  pub worked : Worked
