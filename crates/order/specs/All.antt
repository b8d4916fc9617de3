-- The words of this crate, for the specs/ of those above it to name in one line. No promise to a caller.
pub use Rattle.order.specs.Order.{entry, Moves, MovesUnder, combination, CombineAlike}
pub use Rattle.order.specs.Sheets.{Listing, sheet_graph, AllAccepted, written, every_node, every_move}
pub use Rattle.order.specs.Settled.{SettledUnder, LowestUnder, OneRound}
