-- `decide_still` meets its contract: both passes change costs alone. From the laws on states.
use Rattle.trees.proofs.Ready.{ordered_costs}
use Rattle.resistive_call.proofs.Calling.{costs_then}
use Rattle.resistive_call.proofs.deciding.decide_still.Goals as goal

pub fill_choices-requires : goal.fill_choices-requires
fill_choices-requires c =
    let p = c.requires in
    let f = c.fill_keys.ensures in
    (ordered_costs _ _ _ f.1 p.0, p.1, p.2, f.0, p.3)

pub returns : goal.returns
returns c = let m = c.fill_choices.ensures in (m.0, costs_then _ _ _ c.fill_keys.ensures.1 m.1)
