-- `ends` meets its contract.
use mathlib.Core.Path.{sym}
use mathlib.Core.Bool.{true≢false}
use mathlib.Core.Logic.{inl, inr}
use Rattle.finder.proofs.following.ends.Goals as goal

pub returns-then-index-inputs : goal.returns-then-index-inputs
returns-then-index-inputs c = λ e. inl (c.requires.1, c.if-index-inputs.true)

pub returns-then-index-list : goal.returns-then-index-list
returns-then-index-list c = λ e. inr (c.if-index-list.true, c.is_open.ensures e)

pub returns : goal.returns
returns c = λ e. absurd (true≢false (sym e))
