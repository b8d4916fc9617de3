-- `word_bit` meets its contract. From what is due.
use native.Mathlib.Omega.{arith}
use Rattle.state.specs.State.{bit_now}
use Rattle.state.proofs.writing.word_bit.Goals as goal

pub overflow_add-result : goal.overflow_add-result
overflow_add-result c = omega (arith, c.due_of.ensures.1, c.requires.2)

pub returns : goal.returns
unfolding bit_now
returns c = ((λ e. rw (e, c.due_of.ensures.0, c.raw_at.ensures)), omega arith)
