-- A list of moves, made one by one, is one choice: at each node what its moves combine to. From the law of two choices one after the
-- other.
use mathlib.Core.Path.{◌≡◌, refl, sym, ap, ◌∙◌, fun_ext}
use mathlib.Core.Bool.{Bool, true, false}
use mathlib.Core.List.{List, [], ◌∷◌}
use mathlib.Core.Logic.{⊎_elim, ◌≢◌}
use Prim.Native.Nat.{ℕ, zero, suc, ◌+◌, ◌-◌, ◌*◌, ◌/◌, ◌%◌, ◌≤◌, ◌<◌}
use native.Mathlib.Omega.{arith}
use Rattle.graph.specs.Admission.{Admitted}
use Rattle.graph.specs.Graph.{Graph, node, is_xor}
use Rattle.graph.specs.Turned.{turned_by}
use Rattle.graph.proofs.Cases.{eq_or_ne}
use Rattle.graph.proofs.Tests.{equal, unequal}
use Rattle.moves.specs.Apply.{Choice, none, at, put, apply}
use Rattle.moves.specs.Compose.{combined, compose, Permitted}
use Rattle.moves.specs.Call.{is_node, moved}
use Rattle.moves.specs.Rows.{arity, kind_moves}
use Rattle.moves.proofs.Apply.{admitted, same_xor}
use Rattle.moves.proofs.Changed.{at_same, at_other}
use Rattle.moves.proofs.Compose.{apply_apply}
use Rattle.moves.proofs.Kept.{apply_idle}
use Rattle.moves.proofs.Moves.{kind_pos, has_row}
use Rattle.many.specs.Many.{Entry, one_by_one}
use Rattle.order.specs.Order.{Moves, combination}

-- two moves of one kind are one of that kind; move 0 before another is none, and so is each before itself; order does not matter
pub combined_had : (x : Bool) (m n : ℕ) → combined x m n < arity x
unfolding combined arity
combined_had true m n = omega arith
combined_had false m n = omega arith

pub combined_none : (x : Bool) (n : ℕ) → n < arity x → combined x 0 n ≡ n
unfolding combined arity
combined_none true n h = omega arith
combined_none false n h = omega arith

pub combined_last : (x : Bool) (m : ℕ) → m < arity x → combined x m 0 ≡ m
unfolding combined arity
combined_last true m h = omega arith
combined_last false m h = omega arith

-- what holds of 1, 2 and 3
by_three : (P : ℕ → Type 0) → P 1 → P 2 → P 3 → (k : ℕ) → 1 ≤ k → k ≤ 3 → P k
by_three P one two three zero h l = absurd (omega arith)
by_three P one two three (suc zero) h l = one
by_three P one two three (suc (suc zero)) h l = two
by_three P one two three (suc (suc (suc zero))) h l = three
by_three P one two three (suc (suc (suc (suc k)))) h l = absurd (omega arith)

-- any two different of an XOR's moves 1, 2 and 3 are the third
third : (k l : ℕ) → 1 ≤ k → k ≤ 3 → 1 ≤ l → l ≤ 3 → k ≢ l → combined true k l ≡ 6 - (k + l)
unfolding combined
third k l k₁ k₃ l₁ l₃ =
    by_three (λ x. x ≢ l → combined true x l ≡ 6 - (x + l))
    (by_three (λ y. 1 ≢ y → combined true 1 y ≡ 6 - (1 + y)) (λ d. absurd (d refl)) (λ d. refl) (λ d. refl) l l₁ l₃)
    (by_three (λ y. 2 ≢ y → combined true 2 y ≡ 6 - (2 + y)) (λ d. refl) (λ d. absurd (d refl)) (λ d. refl) l l₁ l₃)
    (by_three (λ y. 3 ≢ y → combined true 3 y ≡ 6 - (3 + y)) (λ d. refl) (λ d. refl) (λ d. absurd (d refl)) l l₁ l₃)
    k k₁ k₃

pub combined_third : (k l m : ℕ) → 1 ≤ k → k ≤ 3 → 1 ≤ l → l ≤ 3 → 1 ≤ m → m ≤ 3 → k ≢ l → m ≢ k → m ≢ l → combined true k l ≡ m
combined_third k l m k₁ k₃ l₁ l₃ m₁ m₃ d₁ d₂ d₃ = third k l k₁ k₃ l₁ l₃ d₁ ∙ omega arith

pub combined_twice : (x : Bool) (m : ℕ) → combined x m m ≡ 0
unfolding combined
combined_twice true m = omega arith
combined_twice false m = omega arith

low : (m p q : ℕ) → (m + (p % 2 + 2 * (q % 2))) % 2 ≡ (m + p) % 2
low m p q = omega arith

high : (h p q : ℕ) → (h + (p % 2 + 2 * (q % 2)) / 2) % 2 ≡ (h + q) % 2
high h p q = omega arith

either_first : (m n k : ℕ) → m + (n + k) ≡ n + (m + k)
either_first m n k = omega arith

pub combined_swap : (x : Bool) (m n k : ℕ) → combined x m (combined x n k) ≡ combined x n (combined x m k)
unfolding combined
combined_swap true m n k =
    rw (low m (n + k) (n / 2 + k / 2), high (m / 2) (n + k) (n / 2 + k / 2), low n (m + k) (m / 2 + k / 2), high (n / 2) (m + k) (m / 2 + k / 2), either_first m n k, either_first (m / 2) (n / 2) (k / 2))
combined_swap false m n k = omega arith

before_low : (p q k : ℕ) → (p % 2 + 2 * (q % 2) + k) % 2 ≡ (p + k) % 2
before_low p q k = omega arith

before_high : (p q h : ℕ) → ((p % 2 + 2 * (q % 2)) / 2 + h) % 2 ≡ (q + h) % 2
before_high p q h = omega arith

one_by_one_lem : (m n k : ℕ) → m + n + k ≡ m + (n + k)
one_by_one_lem m n k = omega arith

pub combined_assoc : (x : Bool) (m n k : ℕ) → combined x (combined x m n) k ≡ combined x m (combined x n k)
unfolding combined
combined_assoc true m n k =
    rw (before_low (m + n) (m / 2 + n / 2) k, before_high (m + n) (m / 2 + n / 2) (k / 2), low m (n + k) (n / 2 + k / 2), high (m / 2) (n + k) (n / 2 + k / 2), one_by_one_lem m n k, one_by_one_lem (m / 2) (n / 2) (k / 2))
combined_assoc false m n k = omega arith

-- of one more entry
module _ (g : Graph) (e : Entry) (es : List Entry) where
  pub combination_here : combination g (e ∷ es) e.node ≡ combined (is_xor g (e.node - (g.I + 1))) e.move (combination g es e.node)
  unfolding combination
  combination_here = sym (equal e.node e.node _ _ refl refl)

  pub combination_other : (u : ℕ) → u ≢ e.node → combination g (e ∷ es) u ≡ combination g es u
  unfolding combination
  combination_other u n = sym (unequal e.node u _ _ (λ z. n (sym z)) refl)

-- it is a move of the kind
kind_had : (g : Graph) (w m n : ℕ) → combined (is_xor g (w - (g.I + 1))) m n < kind_moves g w
unfolding kind_moves
kind_had g w m n = combined_had (is_xor g (w - (g.I + 1))) m n

pub combination_had : (g : Graph) (es : List Entry) (u : ℕ) → combination g es u < kind_moves g u
unfolding combination
combination_had g [] u = kind_pos g u
combination_had g (e ∷ es) u =
    ⊎_elim
    (λ (q : u ≡ e.node). rw (q, combination_here g e es) (kind_had g e.node e.move (combination g es e.node)))
    (λ (n : u ≢ e.node). rw (combination_other g e es u n) (combination_had g es u))
    (eq_or_ne u e.node)

pub combination_permitted : (g : Graph) (es : List Entry) → Permitted g (combination g es)
combination_permitted g es v h = combination_had g es (node g v)

-- one move
module _ (g : Graph) (u k : ℕ) where
  made_is : moved g (u ∷ []) (k ∷ []) ≡ apply g (at none u k)
  unfolding moved put
  made_is = refl

  single_permitted : k < kind_moves g u → Permitted g (at none u k)
  single_permitted l v h =
      ⊎_elim
      (λ (q : node g v ≡ u). rw (q, at_same none u k) l)
      (λ (n : node g v ≢ u). rw (at_other none u k (node g v) n) (kind_pos g (node g v)))
      (eq_or_ne (node g v) u)

-- a choice leaves nodes, kinds and combinations
module _ (g : Graph) (m : Choice) (adm : Admitted g) where
  same_I : (apply g m).I ≡ g.I
  unfolding apply turned_by
  same_I = refl

  same_N : (apply g m).N ≡ g.N
  unfolding apply turned_by
  same_N = refl

  pub same_moves : (w : ℕ) → kind_moves (apply g m) w ≡ kind_moves g w
  unfolding kind_moves
  same_moves w = rw (same_xor g m adm (w - ((apply g m).I + 1)), same_I)

  pub same_node : (w : ℕ) → is_node (apply g m) w ≡ is_node g w
  unfolding is_node
  same_node w = rw (same_I, same_N)

  pub same_combination : (es : List Entry) (w : ℕ) → combination (apply g m) es w ≡ combination g es w
  unfolding combination
  same_combination [] w = refl
  same_combination (e ∷ es) w = rw (same_combination es w, same_xor g m adm (w - ((apply g m).I + 1)), same_I)

  pub same_list : (es : List Entry) → Moves g es → Moves (apply g m) es
  same_list [] s = tt
  same_list (e ∷ es) s = (same_node e.node ∙ s.0, rw (same_moves e.node) s.1, same_list es s.2)

  pub list_back : (es : List Entry) → Moves (apply g m) es → Moves g es
  list_back [] s = tt
  list_back (e ∷ es) s = (sym (same_node e.node) ∙ s.0, rw (same_moves e.node) at s.1, list_back es s.2)

-- one move and then those of a list
pub none_first : (g : Graph) (es : List Entry) (w : ℕ) → combined (is_xor g (w - (g.I + 1))) 0 (combination g es w) ≡ combination g es w
none_first g es w = combined_none (is_xor g (w - (g.I + 1))) (combination g es w) (has_row g w (combination g es w) (combination_had g es w))

first_then : (g : Graph) (e : Entry) (es : List Entry) (w : ℕ) → compose g (at none e.node e.move) (combination g es) w ≡ combination g (e ∷ es) w
unfolding compose
first_then g e es w =
    ⊎_elim
    (λ (q : w ≡ e.node). rw (q, at_same none e.node e.move) (sym (combination_here g e es)))
    (λ (n : w ≢ e.node).
    rw (at_other none e.node e.move w n, combination_other g e es w n) (none_first g es w))
    (eq_or_ne w e.node)

-- the whole list
pub nothing : (g : Graph) (u : ℕ) → combination g [] u ≡ 0
unfolding combination
nothing g u = refl

pub one_choice : (g : Graph) → Admitted g → (es : List Entry) → Moves g es → one_by_one g es ≡ apply g (combination g es)
unfolding one_by_one
one_choice g adm [] s = sym (apply_idle g (combination g []) adm (nothing g))
one_choice g adm (e ∷ es) s =
    let u : ℕ = e.node in
    let k : ℕ = e.move in
    let m : Choice = at none u k in
    ap (λ (x : Graph). one_by_one x es) (made_is g u k)
    ∙ one_choice (apply g m) (admitted g m adm) es (same_list g m adm es s.2)
    ∙ ap (apply (apply g m)) (fun_ext (same_combination g m adm es))
    ∙ apply_apply g m (combination g es) (single_permitted g u k s.1) (combination_permitted g es) adm
    ∙ ap (apply g) (fun_ext (first_then g e es))
