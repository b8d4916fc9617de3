-- `try_pair` meets its contract. From the laws on ways and on trials.
use mathlib.Core.Path.{◌≡◌}
use Prim.Native.Nat.{ℕ}
use native.Mathlib.Omega.{arith}
use Rattle.graph.specs.Graph.{Graph}
use Rattle.graph.specs.Literals.{bit}
use Rattle.finder.specs.Meeting.{Unmet, ThirdsMet}
use Rattle.finder.proofs.Meets.{none_above}
use Rattle.finder.proofs.Unfit.{unmet_sought, unmet_passed}
use Rattle.finder.proofs.trying.try_pair.Goals as goal
use Rattle.finder.proofs.trying.try_pair.Goals.{Start}
use Rattle.finder.specs.Nodes.{nodes_in}

abbrev graph : Start → Graph
graph s = nodes_in s.args.graph.now

-- what the ways leave of thirds

met_by : (s : Start) (r : ℕ) → ((c : ℕ) → bit c r ≡ 0 → Unmet s.args.allowed s.args.n s.args.ways.now s.args.a s.args.b c)
    → ThirdsMet (graph s) s.args.v s.args.m s.args.list.now s.args.a s.args.b r
met_by s r f c h k e = let a = s.args in unmet_passed (graph s) a.v a.m a.list.now a.allowed a.n a.ways.now s.requires.3 a.a a.b c s.requires.1 h k (f c e)

pub thirds-met-requires : goal.thirds-met-requires
thirds-met-requires c = (omega (arith, c.requires.1, c.requires.2, c.requires.3.few), omega (arith, c.requires.2, c.requires.3.few), c.requires.3.listed)

pub overflow_shr-met : goal.overflow_shr-met
overflow_shr-met c = omega (arith, c.requires.2, c.requires.3.few)

pub returns-then-met-b-lt2 : goal.returns-then-met-b-lt2
returns-then-met-b-lt2 c =
    let t = c.thirds-met in
    let a = c.args in
    unmet_sought (graph (goal.at.returns-then-met-b-lt2 c).Start) a.v a.m a.list.now a.scratch.now c.requires.0 a.a a.b c.requires.1 c.requires.2
    (λ k h l. met_by (goal.at.returns-then-met-b-lt2 c).Start t.result t.ensures k h l (none_above t.result a.b c.if-met-b-lt2.true k h)) _

pub try_thirds-requires : goal.try_thirds-requires
try_thirds-requires c =
    let t = c.thirds-met in
    (c.requires.0, c.requires.1, c.requires.2, c.requires.3.few, met_by (goal.at.try_thirds-requires c).Start t.result t.ensures)
