-- `reading::latest` meets its contract. From its callees' contracts.
use Rattle.std.proofs.Common.{◌≡◌, min, get_or, arith, ◌∙◌}
use Rattle.class_figures.specs.Call.{latest_of}
use Rattle.class_figures.proofs.Refusing.{figures_of}
use Rattle.class_figures.proofs.reading.latest.Goals as goal

pub returns : goal.returns
unfolding latest_of
returns c =
    let m : c.min.result ≡ min 16 (get_or c.args.book.now 0 0) = omega (arith, c.min.ensures) in
    c.told.ensures
    ∙ figures_of _ _ _ _ _ _ _ _ m c.latest_total.ensures.0 c.latest_total-2.ensures.0 c.latest_total-3.ensures.0 c.latest_total-4.ensures.0 c.latest_total-5.ensures.0
