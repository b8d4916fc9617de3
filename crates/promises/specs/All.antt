-- The words of this crate, for the specs/ of those above it to name in one line. No promise to a caller.
pub use Rattle.promises.specs.Demand.{Call, node_at, pair_at, tree_at, settling, many_at, majority_at, finding, resistive_at, Locked, with_locks, beside, step, left, run, savings, fault, RoundsReported, Least, Beside, Made, rewires, NoneRewires, Quiet, Unwired, Demand}
