-- `given_costs` meets its contract. From the laws on costs.
use Rattle.moves.proofs.Deciding.{given_is}
use Rattle.moves.proofs.decide.given_costs.Goals as goal

pub returns : goal.returns
returns c =
    given_is c.args.z c.args.which c.args.f _ _ _ c.requires c.either-a.ensures c.either-b.ensures c.either-c.ensures _ _ _ _ _ _
    c.either.ensures c.either-2.ensures c.either-3.ensures c.either-4.ensures c.either-5.ensures c.either-6.ensures
