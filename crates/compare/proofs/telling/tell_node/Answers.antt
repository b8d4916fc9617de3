-- `tell_node` meets its contract: of an XOR's third word nothing is asked. From the laws of admitted graphs.
use mathlib.Core.Path.{◌≡◌, refl, ap, ap₂, ◌∙◌}
use mathlib.Core.Bool.{Bool, true, false, cond}
use mathlib.Core.List.{List, []}
use native.Mathlib.Omega.{arith}
use Prim.Native.Nat.{ℕ, ◌+◌, ◌*◌, ◌%◌, ◌≤◌, ◌<◌}
use lib.ListN.{get_or}
use Rattle.graph.specs.Admission.{Admitted}
use Rattle.graph.specs.Graph.{Graph, index, is_xor}
use Rattle.graph.specs.Literals.{bit_at, held}
use Rattle.graph.specs.Turned.{only}
use Rattle.graph.proofs.Words.{readable}
use Rattle.moves.specs.Rows.{flag}
use Rattle.many.specs.Making.{bare}
use Rattle.many.proofs.Sweeping.{first_asks, second_asks, third_there, third_asks}
use Rattle.order.specs.Inner.{tells}
use Rattle.compare.specs.Telling.{own_turn, unfit}
use Rattle.compare.proofs.Noting.{unfit_same}
use Rattle.compare.proofs.telling.tell_node.Goals as goal
use Rattle.compare.proofs.telling.tell_node.Goals.{After-is_xor-xor, After-is_xor-xor, Start}
use Rattle.graph.specs.Tables.{lent_table}

abbrev table : Start → List ℕ
table s = lent_table s.args.first.now.node_table

abbrev graph : Start → Graph
graph s = bare s.args.first.now.inputs s.args.first.now.nodes (table s)

abbrev turn : Start → ℕ → ℕ
turn s j = own_turn s.args.seen.now (table s) s.args.second_bits.now j

-- the place that is looked at for the third word

third-asked : (i n : ℕ) (m : List ℕ) (v : ℕ) → Admitted (bare i n m) → v < n → (x : Bool) → x ≡ is_xor (bare i n m) v → (p : ℕ) → p ≡ cond x (3 * v) (3 * v + 2)
    → (p < held m) × (index (get_or m p 0) < 104128) × (p ≤ 3 * v + 2)
third-asked i n m v adm h true q p e = let f = first_asks i n m v adm h in rw e (f.0, f.1, omega arith)
third-asked i n m v adm h false q p e = rw e (third_there i n m v adm h, third_asks i n m v adm h false q refl, omega arith)

module _ (c : After-is_xor-xor) where
  kind : c.is_xor-xor.result ≡ is_xor (bare c.args.first.now.inputs c.args.first.now.nodes (lent_table c.args.first.now.node_table)) c.args.v
  kind = c.is_xor-xor.ensures c.args.first.now.inputs c.args.first.now.nodes 0 []

pub is_xor-xor-requires : goal.is_xor-xor-requires
is_xor-xor-requires c = readable (graph (goal.at.is_xor-xor-requires c).Start) c.requires.0 c.args.v c.requires.1

pub own_turn-x-requires : goal.own_turn-x-requires
own_turn-x-requires c =
    let a = c.args in
    let f = first_asks a.first.now.inputs a.first.now.nodes (table (goal.at.own_turn-x-requires c).Start) a.v c.requires.0 c.requires.1 in
    (f.0, f.1, omega (arith, c.requires.1, c.requires.2), c.requires.3)

pub own_turn-y-requires : goal.own_turn-y-requires
own_turn-y-requires c =
    let a = c.args in
    let f = second_asks a.first.now.inputs a.first.now.nodes (table (goal.at.own_turn-y-requires c).Start) a.v c.requires.0 c.requires.1 in
    (f.0, f.1, omega (arith, c.requires.1, c.requires.2), c.requires.3)

pub own_turn-z-requires : goal.own_turn-z-requires
own_turn-z-requires c =
    let a = c.args in
    let f = third-asked a.first.now.inputs a.first.now.nodes (table (goal.at.own_turn-z-requires c).Start) a.v c.requires.0 c.requires.1 c.is_xor-xor.result (kind (goal.at.own_turn-z-requires c).After-is_xor-xor) c.either-third.result c.either-third.ensures in
    (f.0, f.1, omega (arith, f.2, c.requires.1, c.requires.2), c.requires.3)

pub returns : goal.returns
returns c =
    let s = (goal.at.returns c).Start in
    let x = (goal.at.returns c).After-is_xor-xor in
    let a = c.args in
    let v = a.v in
    let k : Bool = c.is_xor-xor.result in
    let z : 3 * v ≡ 3 * v + 0 = omega arith in
    let e₁ : c.own_turn-x.result ≡ turn s (3 * v + 0) = c.own_turn-x.ensures.0 ∙ ap (turn s) z in
    let e₂ : c.own_turn-y.result ≡ turn s (3 * v + 1) = c.own_turn-y.ensures.0 in
    let e₃ : k ≡ false → c.own_turn-z.result ≡ turn s (3 * v + 2) = λ f. c.own_turn-z.ensures.0 ∙ ap (turn s) (c.either-third.ensures ∙ ap (λ (b : Bool). cond b (3 * v) (3 * v + 2)) f) in
    let q : c.readers_turn.result ≡ flag (is_xor (graph s) v) (tells (is_xor (graph s) v) (turn s (3 * v + 0)) (turn s (3 * v + 1))) 3
    = c.readers_turn.ensures.0
    ∙ ap (λ (b : Bool). flag b (tells b c.own_turn-x.result c.own_turn-y.result) 3) (kind x)
    ∙ ap₂ (λ (p y : ℕ). flag (is_xor (graph s) v) (tells (is_xor (graph s) v) p y) 3) e₁ e₂ in (
      c.unfit_word.ensures
          ∙ unfit_same k _ _ _ _ _ _ e₁ e₂ e₃
          ∙ ap (λ (b : Bool). unfit b (turn s (3 * v + 0)) (turn s (3 * v + 1)) (turn s (3 * v + 2))) (kind x),
      λ u. c.note.ensures u ∙ ap (λ (y : ℕ). (bit_at a.seen.now u + only (a.first.now.inputs + 1 + v) y u) % 2) q,
    )
