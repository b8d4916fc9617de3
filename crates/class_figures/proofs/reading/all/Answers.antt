-- `reading::all` meets its contract. From what a record holds.
use Rattle.std.proofs.Common.{◌+◌, ◌≤◌, length, drop, arith, ◌∙◌, length-take-le, length-drop}
use Rattle.class_figures.specs.Call.{all_of}
use Rattle.class_figures.proofs.Refusing.{word_of, figures_by}
use Rattle.class_figures.proofs.reading.all.Goals as goal

pub told-requires : goal.told-requires
told-requires c =
    let r = c.args.book.now in
    let l : 5 ≤ length (drop 1 r) = omega (arith, c.requires.long, length-drop 1 r) in
    (omega (arith, length-take-le 5 (drop 1 r) l), λ k h. omega (arith, word_of 1 5 r k h, c.requires.low (1 + k) (omega arith)))

pub returns : goal.returns
unfolding all_of
returns c = c.told.ensures ∙ figures_by _ _ _ (λ k h. word_of 1 5 c.args.book.now k h)
