-- The words of this crate, for the specs/ of those above it to name in one line. No promise to a caller.
pub use Rattle.rounds.specs.Round.{Progress, start, after, each, tree_at, node_at, pair_at, pairs_at, round}
pub use Rattle.rounds.specs.Settle.{Rounds, settle_in, settle, settle_number, settled, settle_call, NothingLowers}
