-- `fill_moves` meets its contract: the bytes of the nodes passed hold the moves told. From the laws on `set`.
use mathlib.Core.Path.{◌≡◌, refl, sym, ap, ap₂, ◌∙◌}
use mathlib.Core.Bool.{Bool}
use mathlib.Core.List.{List, []}
use mathlib.Core.Logic.{⊎_elim}
use native.Mathlib.Omega.{arith}
use Prim.Native.Nat.{ℕ, ◌+◌, ◌≤◌, ◌<◌}
use lib.ListN.{length, get_or, set, length-set}
use lib.Seq.{ext_get_or, get_or-set_same, get_or-set_other}
use Rattle.graph.specs.Finite.{tab, if_less}
use Rattle.graph.specs.Graph.{Graph, is_xor}
use Rattle.graph.proofs.Cases.{lt_or_le}
use Rattle.graph.proofs.Finite.{length_tab, get_d_tab}
use Rattle.graph.proofs.Tests.{less, no_less}
use Rattle.graph.proofs.Words.{readable}
use Rattle.moves.proofs.Count.{last_or_below}
use Rattle.many.specs.Making.{bare}
use Rattle.many.proofs.Sweeping.{first_asks, second_asks}
use Rattle.order.specs.Inner.{tells}
use Rattle.compare.proofs.telling.fill_moves.Goals as goal
use Rattle.compare.proofs.telling.fill_moves.Goals.{Start}
use Rattle.compare.proofs.telling.fill_moves.Invariants.{Filled, move}
use Rattle.graph.specs.Tables.{lent_table}

-- the first v bytes filled

module _ (n : ℕ) (f : ℕ → ℕ) (bs₀ bs : List ℕ) (v : ℕ) (i : Filled n f bs₀ bs v) where
  one_more : (m : ℕ) → v < n → n ≤ length bs₀ → m ≡ f v → Filled n f bs₀ (set bs v m) (v + 1)
  one_more m h l e =
      record {
        within = omega arith;
        same = simp length-set i.same;
        filled = λ j k.
            ⊎_elim
            (λ (q : j ≡ v). rw q (get_or-set_same bs v m 0 (omega (arith, i.same)) ∙ e))
            (λ (b : j < v). get_or-set_other bs v j m 0 (λ z. omega arith) ∙ i.filled j b)
            (last_or_below (omega arith));
        kept = λ j k. get_or-set_other bs v j m 0 (λ z. omega arith) ∙ i.kept j (omega arith);
      }

  all-filled : n ≤ v → bs ≡ tab (length bs₀) (λ j. if_less j n (f j) (get_or bs₀ j 0))
  all-filled l =
      ext_get_or 0 bs (tab (length bs₀) (λ j. if_less j n (f j) (get_or bs₀ j 0))) (i.same ∙ sym (length_tab (length bs₀) _))
      (λ j h.
      ⊎_elim
      (λ (k : j < n). less j n (f j) (get_or bs₀ j 0) k (i.filled j (omega arith)))
      (λ (k : n ≤ j). no_less j n (f j) (get_or bs₀ j 0) k (i.kept j (omega (arith, i.within))))
      (lt_or_le j n)
      ∙ sym (get_d_tab (length bs₀) _ j (omega (arith, h, i.same))))

-- the move told of a node

abbrev table : Start → List ℕ
table s = lent_table s.args.first.now.node_table

abbrev graph : Start → Graph
graph s = bare s.args.first.now.inputs s.args.first.now.nodes (table s)

pub loop-v-init : goal.loop-v-init
loop-v-init c = record { within = omega arith; same = refl; filled = λ j h. absurd (omega arith); kept = λ j h. refl }

pub overflow_mul-at : goal.overflow_mul-at
overflow_mul-at c = omega (arith, c.loop-v-test.true, c.requires.0.few_nodes)

pub own_turn-x-requires : goal.own_turn-x-requires
own_turn-x-requires c =
    let a = c.args in
    let f = first_asks a.first.now.inputs a.first.now.nodes (table (goal.at.own_turn-x-requires c).Start) c.loop-v.v c.requires.0 c.loop-v-test.true in
    (f.0, f.1, omega (arith, c.loop-v-test.true, c.requires.1), c.requires.2)

pub overflow_add-at : goal.overflow_add-at
overflow_add-at c = omega (arith, c.loop-v-test.true, c.requires.0.few_nodes)

pub own_turn-y-requires : goal.own_turn-y-requires
own_turn-y-requires c =
    let a = c.args in
    let f = second_asks a.first.now.inputs a.first.now.nodes (table (goal.at.own_turn-y-requires c).Start) c.loop-v.v c.requires.0 c.loop-v-test.true in
    (f.0, f.1, omega (arith, c.loop-v-test.true, c.requires.1), c.requires.2)

pub is_xor-xor-requires : goal.is_xor-xor-requires
is_xor-xor-requires c = readable (graph (goal.at.is_xor-xor-requires c).Start) c.requires.0 c.loop-v.v c.loop-v-test.true

pub move_told-requires : goal.move_told-requires
move_told-requires c = (c.own_turn-x.ensures.1, c.own_turn-y.ensures.1)

pub bounds-moves-v : goal.bounds-moves-v
bounds-moves-v c = omega (arith, c.loop-v.invariant.same, c.loop-v-test.true, c.requires.3)

pub loop-v-preserved : goal.loop-v-preserved
loop-v-preserved c =
    let l = c.loop-v in
    let a = c.args in
    one_more a.first.now.nodes (move a.first.now.inputs a.first.now.nodes a.seen.now (table (goal.at.loop-v-preserved c).Start) a.second_bits.now) a.moves.now l.moves l.v l.invariant c.move_told.result c.loop-v-test.true c.requires.3
    (c.move_told.ensures
    ∙ ap (λ (b : Bool). tells b c.own_turn-x.result c.own_turn-y.result) (c.is_xor-xor.ensures a.first.now.inputs a.first.now.nodes 0 [])
    ∙ ap₂ (tells (is_xor (graph (goal.at.loop-v-preserved c).Start) l.v)) c.own_turn-x.ensures.0 c.own_turn-y.ensures.0)

pub shape_of-moves : goal.shape_of-moves
shape_of-moves c = c.loop-v.invariant.same

pub returns : goal.returns
returns c = let a = c.args in all-filled a.first.now.nodes _ a.moves.now c.loop-v.moves c.loop-v.v c.loop-v.invariant (omega (arith, c.loop-v-test.false))
