-- The words of this crate, for the specs/ of those above it to name in one line. No promise to a caller.
pub use Rattle.replay.specs.Replay.{Lent, lent, part, call_of, decode, answers_of, calls_number, call_number, words_number, lesser, usable, code_number, replay_number, replay_call, answers_after, replayed_answer, replayed_graph, savings_in, DemandMet}
