-- `faults::check_length` meets its contract. From the laws on tests.
use Rattle.graph.proofs.Tests.{short_slice, long_slice}
use Rattle.class_figures.specs.Call.{length_number}
use Rattle.class_figures.proofs.faults.check_length.Goals as goal

pub returns-then-book-lt86 : goal.returns-then-book-lt86
unfolding length_number
returns-then-book-lt86 c = short_slice _ _ c.if-book-lt86.true

pub returns : goal.returns
unfolding length_number
returns c = long_slice _ _ c.if-book-lt86.false
