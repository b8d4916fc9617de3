-- The text in parts that stand in a row: the header, a line for each input and each output, and the lines of each node. From
-- the definitions alone.
use Prim.Native.Nat.{ℕ, zero, suc, ◌+◌, ◌*◌}
use mathlib.Core.Path.{◌≡◌, refl, sym, ap, ◌∙◌}
use mathlib.Core.List.{List, [], ◌∷◌, ◌++◌, append_assoc}
use native.Mathlib.Nat.{zero-add}
use native.Mathlib.Omega.{arith}
use lib.ListN.{length}
use Rattle.graph.specs.Finite.{tab}
use Rattle.graph.specs.Graph.{Graph, turn}
use Rattle.graph.proofs.Finite.{tab_same}
use Rattle.tagged_file.specs.Write.{in_order}
use Rattle.tagged_file.proofs.Emitted.{in_order_last}
use Rattle.aiger.specs.Export.{gates_before, xor_gates, majority_gates, node_gates, gates, ended, ones, threes, header, inputs, outputs, export_text}
use Rattle.aiger.proofs.Gates.{length_gates}
use Rattle.aiger_export.specs.Inner.{three_line, input_line, output_line, node_lines}

-- what follows a part
ended_rest : (n end : ℕ) (rest : List ℕ) → ended n end rest ≡ ended n end [] ++ rest
unfolding ended
ended_rest n end rest = simp append_assoc

three_rest : (x y z : ℕ) (rest : List ℕ) → ended x 32 (ended y 32 (ended z 10 rest)) ≡ three_line x y z ++ rest
unfolding three_line ended
three_rest x y z rest = simp append_assoc

three_last : (x y z : ℕ) → ended x 32 (ended y 32 (ended z 10 [])) ≡ three_line x y z
unfolding three_line
three_last x y z = refl

-- a line, number by number
pub three_parts : (x y z : ℕ) → three_line x y z ≡ ended x 32 [] ++ (ended y 32 [] ++ ended z 10 [])
unfolding three_line ended
three_parts x y z = simp append_assoc

pub header_parts : (i n o : ℕ) → header i n o []
    ≡ (97 ∷ 97 ∷ 103 ∷ 32 ∷ []) ++ (ended (i + n) 32 [] ++ (ended i 32 [] ++ three_line 0 o n))
unfolding header three_line ended
header_parts i n o = simp append_assoc

header_rest : (i n o : ℕ) (rest : List ℕ) → header i n o rest ≡ header i n o [] ++ rest
unfolding header ended
header_rest i n o rest = simp append_assoc

-- numbers one to a line
ones_row : (n v : ℕ) (f : ℕ → ℕ) (F : ℕ → List ℕ) → ((k : ℕ) → F k ≡ ended (f k) 10 []) → (rest : List ℕ)
    → ones (tab n (λ j. f (v + j))) rest ≡ in_order F v n ++ rest
unfolding ones tab
ones_row zero v f F e rest = refl
ones_row (suc n) v f F e rest =
    let z : v + 0 ≡ v = omega arith in
    let s : tab n (λ j. f (v + suc j)) ≡ tab n (λ j. f (v + 1 + j)) = tab_same n _ _ (λ j h. ap f (omega arith)) in
    rw (z, s, ones_row n (v + 1) f F e rest, e v, ended_rest (f v) 10 (in_order F (v + 1) n ++ rest)) (simp append_assoc)

ones_all : (n : ℕ) (f : ℕ → ℕ) (F : ℕ → List ℕ) → ((k : ℕ) → F k ≡ ended (f k) 10 []) → (rest : List ℕ) → ones (tab n f) rest ≡ in_order F 0 n ++ rest
ones_all n f F e rest = ap (λ (l : List ℕ). ones l rest) (tab_same n _ _ (λ j h. ap f (sym (zero-add j)))) ∙ ones_row n 0 f F e rest

-- three to a line
threes_append : (k : ℕ) (l m : List ℕ) → length l ≡ 3 * k → threes (l ++ m) ≡ threes l ++ threes m
unfolding threes
threes_append k [] m e = refl
threes_append k (x ∷ []) m e = absurd (omega arith)
threes_append k (x ∷ y ∷ []) m e = absurd (omega arith)
threes_append zero (x ∷ y ∷ z ∷ l) m e = absurd (omega arith)
threes_append (suc k) (x ∷ y ∷ z ∷ l) m e =
    rw (threes_append k l m (omega arith), three_rest x y z (threes l ++ threes m), three_rest x y z (threes l)) (simp append_assoc)

-- the ANDs of a node, line by line
pub xor_lines : (b x y x' y' : ℕ) → x' ≡ turn 1 x → y' ≡ turn 1 y
    → threes (xor_gates b x y) ≡ three_line (2 * b) x y' ++ (three_line (2 * b + 2) x' y ++ three_line (2 * b + 4) (2 * b + 1) (2 * b + 3))
unfolding xor_gates threes
xor_lines b x y x' y' ex ey =
    let e₁ : 2 * (b + 1) ≡ 2 * b + 2 = omega arith in
    let e₂ : 2 * (b + 2) ≡ 2 * b + 4 = omega arith in
    let e₃ : 2 * b + 2 + 1 ≡ 2 * b + 3 = omega arith in
    rw (ex, ey, e₁, e₂, e₃, three_rest, three_rest, three_last)

pub majority_lines : (b x y z y' z' : ℕ) → y' ≡ turn 1 y → z' ≡ turn 1 z → threes (majority_gates b x y z)
    ≡ three_line (2 * b) y' z' ++ (three_line (2 * b + 2) x (2 * b + 1) ++ (three_line (2 * b + 4) y z ++ three_line (2 * b + 6) (2 * b + 3) (2 * b + 5)))
unfolding majority_gates threes
majority_lines b x y z y' z' ey ez =
    let e₁ : 2 * (b + 1) ≡ 2 * b + 2 = omega arith in
    let e₂ : 2 * (b + 2) ≡ 2 * b + 4 = omega arith in
    let e₃ : 2 * (b + 3) ≡ 2 * b + 6 = omega arith in
    let e₄ : 2 * b + 2 + 1 ≡ 2 * b + 3 = omega arith in
    let e₅ : 2 * b + 4 + 1 ≡ 2 * b + 5 = omega arith in
    rw (ey, ez, e₁, e₂, e₃, e₄, e₅, three_rest, three_rest, three_rest, three_last)

module _ (g : Graph) where
  gates_row : (n : ℕ) → threes (gates g n) ≡ in_order (node_lines g) 0 n
  unfolding gates threes node_lines
  gates_row zero = refl
  gates_row (suc n) =
      let z : 0 + n ≡ n = omega arith in
      rw (in_order_last (node_lines g) 0 n, z, ← gates_row n) (threes_append (gates_before g n) (gates g n) (node_gates g n) (length_gates g n))

  -- the whole
  pub text_is : (n : ℕ) → n ≡ gates_before g g.N
      → export_text g ≡ header g.I n g.O [] ++ (in_order input_line 0 g.I ++ (in_order (output_line g) 0 g.O ++ in_order (node_lines g) 0 g.N))
  unfolding export_text inputs outputs input_line output_line
  text_is n e =
      rw e
      (header_rest g.I (gates_before g g.N) g.O _
      ∙ ap (λ (l : List ℕ). header g.I (gates_before g g.N) g.O [] ++ l)
      (ones_all g.I _ input_line (λ k. refl) _
      ∙ ap (λ (l : List ℕ). in_order input_line 0 g.I ++ l)
      (ones_all g.O _ (output_line g) (λ k. refl) _ ∙ ap (λ (l : List ℕ). in_order (output_line g) 0 g.O ++ l) (gates_row g.N))))
