-- Texts put into a buffer in a row: how long they are together, and what they leave. From the laws on runs of stores and the
-- text in parts.
use Prim.Native.Nat.{ℕ, ◌+◌, ◌*◌}
use mathlib.Core.Path.{◌≡◌, refl}
use mathlib.Core.List.{List, [], ◌∷◌, ◌++◌}
use native.Mathlib.Omega.{arith}
use lib.ListN.{length, length-append}
use lib.Seq.{sets}
use Rattle.graph.specs.Graph.{Graph, turn}
use Rattle.tagged_file.specs.Write.{in_order}
use Rattle.tagged_file.proofs.Stores.{in_a_row}
use Rattle.aiger.specs.Export.{gates_before, xor_gates, majority_gates, ended, threes, header, export_text}
use Rattle.aiger_export.specs.Inner.{three_line, input_line, output_line, node_lines}
use Rattle.aiger_export.proofs.Parts.{three_parts, header_parts, xor_lines, majority_lines, text_is}

-- the buffer t with a text put at a place, and the place after it
abbrev pub Put : List ℕ → ℕ → List ℕ → List ℕ → ℕ → Type 0
Put t at text t' end = (end ≡ at + length text) × (t' ≡ sets t at text)

-- a text of three parts and one of four
module _ (text a b c : List ℕ) (e : text ≡ a ++ (b ++ c)) where
  pub three_long : length text ≡ length a + length b + length c
  three_long = rw e (simp length-append (omega arith))

  pub three_put : (t t₁ t₂ t₃ : List ℕ) (at p q r : ℕ) → Put t at a t₁ p → Put t₁ p b t₂ q → Put t₂ q c t₃ r → Put t at text t₃ r
  three_put t t₁ t₂ t₃ at p q r h₁ h₂ h₃ = rw e (in_a_row t t₁ t₃ a (b ++ c) at p r h₁ (in_a_row t₁ t₂ t₃ b c p q r h₂ h₃))

module _ (text a b c d : List ℕ) (e : text ≡ a ++ (b ++ (c ++ d))) where
  pub four_long : length text ≡ length a + length b + length c + length d
  four_long = rw e (simp length-append (omega arith))

  pub four_put : (t t₁ t₂ t₃ t₄ : List ℕ) (at p q r s : ℕ) → Put t at a t₁ p → Put t₁ p b t₂ q → Put t₂ q c t₃ r → Put t₃ r d t₄ s → Put t at text t₄ s
  four_put t t₁ t₂ t₃ t₄ at p q r s h₁ h₂ h₃ h₄ =
      rw e (in_a_row t t₁ t₄ a (b ++ (c ++ d)) at p s h₁ (three_put (b ++ (c ++ d)) b c d refl t₁ t₂ t₃ t₄ p q r s h₂ h₃ h₄))

-- a line of three numbers, the header, and the ANDs of a node
pub line_long : (x y z : ℕ) → length (three_line x y z) ≡ length (ended x 32 []) + length (ended y 32 []) + length (ended z 10 [])
line_long x y z = three_long _ (ended x 32 []) (ended y 32 []) (ended z 10 []) (three_parts x y z)

pub header_long : (i n o : ℕ) → length (header i n o []) ≡ 4 + length (ended (i + n) 32 []) + length (ended i 32 []) + length (three_line 0 o n)
header_long i n o = four_long _ (97 ∷ 97 ∷ 103 ∷ 32 ∷ []) (ended (i + n) 32 []) (ended i 32 []) (three_line 0 o n) (header_parts i n o)

pub xor_long : (b x y x' y' : ℕ) → x' ≡ turn 1 x → y' ≡ turn 1 y → length (threes (xor_gates b x y))
    ≡ length (three_line (2 * b) x y') + length (three_line (2 * b + 2) x' y) + length (three_line (2 * b + 4) (2 * b + 1) (2 * b + 3))
xor_long b x y x' y' ex ey =
    three_long _ (three_line (2 * b) x y') (three_line (2 * b + 2) x' y) (three_line (2 * b + 4) (2 * b + 1) (2 * b + 3)) (xor_lines b x y x' y' ex ey)

pub majority_long : (b x y z y' z' : ℕ) → y' ≡ turn 1 y → z' ≡ turn 1 z → length (threes (majority_gates b x y z))
    ≡ length (three_line (2 * b) y' z')
    + length (three_line (2 * b + 2) x (2 * b + 1))
    + length (three_line (2 * b + 4) y z)
    + length (three_line (2 * b + 6) (2 * b + 3) (2 * b + 5))
majority_long b x y z y' z' ey ez =
    four_long _ (three_line (2 * b) y' z') (three_line (2 * b + 2) x (2 * b + 1)) (three_line (2 * b + 4) y z)
    (three_line (2 * b + 6) (2 * b + 3) (2 * b + 5)) (majority_lines b x y z y' z' ey ez)

-- the whole
pub text_long : (g : Graph) (n : ℕ) → n ≡ gates_before g g.N → length (export_text g)
    ≡ length (header g.I n g.O [])
    + length (in_order input_line 0 g.I)
    + length (in_order (output_line g) 0 g.O)
    + length (in_order (node_lines g) 0 g.N)
text_long g n e =
    four_long _ (header g.I n g.O []) (in_order input_line 0 g.I) (in_order (output_line g) 0 g.O) (in_order (node_lines g) 0 g.N) (text_is g n e)
