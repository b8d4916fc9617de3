-- The lines of a report: how long they can be, and which kind of node has which. From the bound on a number's digits.
use mathlib.Core.Path.{◌≡◌, refl, ap, ◌∙◌}
use mathlib.Core.List.{List, [], ◌∷◌}
use Prim.Native.Nat.{ℕ, ◌+◌, ◌*◌, ◌≤◌, ◌<◌}
use native.Mathlib.Omega.{arith}
use lib.ListN.{length, get_or, length-append}
use lib.Seq.{sets}
use Rattle.graph.specs.Finite.{decimal}
use Rattle.graph.specs.Graph.{mark}
use Rattle.graph.proofs.Digits.{length_at_most}
use Rattle.graph.proofs.Tests.{equal, unequal}
use Rattle.report.specs.Report.{node_line, node_line_at, inputs_text, nodes_text, outputs_text, before_text, after_text, rounds_text, node_text, maj_text, xor_text, space_text, out_text, refused_text, numbered, line1, line2, line3, line4}

-- a number of 32 bits has at most ten digits
abbrev pub Word : ℕ → Type 0
Word a = a < 4294967296

pub length_numbered : (t : List ℕ) (a : ℕ) → Word a → length (numbered t a) ≤ length t + 10
unfolding numbered
length_numbered t a h = omega (arith, length-append t (decimal a), length_at_most a (omega arith))

pub length_line1 : (t : List ℕ) (a : ℕ) → Word a → length (line1 t a) ≤ length t + 11
unfolding line1
length_line1 t a h = omega (arith, length-append (numbered t a) (10 ∷ []), length_numbered t a h)

pub length_line2 : (t : List ℕ) (a : ℕ) (u : List ℕ) (b : ℕ) → Word a → Word b → length (line2 t a u b) ≤ length t + length u + 21
unfolding line2
length_line2 t a u b h k = omega (arith, length-append (numbered t a) (line1 u b), length_numbered t a h, length_line1 u b k)

pub length_line3 : (t : List ℕ) (a : ℕ) (u : List ℕ) (b : ℕ) (v : List ℕ) (c : ℕ) → Word a → Word b → Word c
    → length (line3 t a u b v c) ≤ length t + length u + length v + 31
unfolding line3
length_line3 t a u b v c h k l = omega (arith, length-append (numbered t a) (line2 u b v c), length_numbered t a h, length_line2 u b v c k l)

pub length_line4 : (t : List ℕ) (a : ℕ) (u : List ℕ) (b : ℕ) (v : List ℕ) (c : ℕ) (w : List ℕ) (d : ℕ) → Word a → Word b → Word c → Word d
    → length (line4 t a u b v c w d) ≤ length t + length u + length v + length w + 41
unfolding line4
length_line4 t a u b v c w d h k l m =
    omega (arith, length-append (numbered t a) (line3 u b v c w d), length_numbered t a h, length_line3 u b v c w d k l m)

-- the lines by their texts
pub length_sizes : (i n o : ℕ) → Word i → Word n → Word o → length (line3 inputs_text i nodes_text n outputs_text o) ≤ 54
unfolding inputs_text nodes_text outputs_text
length_sizes i n o h k l = length_line3 inputs_text i nodes_text n outputs_text o h k l

pub length_counts : (b a r : ℕ) → Word b → Word a → Word r → length (line3 before_text b after_text a rounds_text r) ≤ 53
unfolding before_text after_text rounds_text
length_counts b a r h k l = length_line3 before_text b after_text a rounds_text r h k l

pub length_xor : (i x y : ℕ) → Word i → Word x → Word y → length (line3 node_text i xor_text x space_text y) ≤ 42
unfolding node_text xor_text space_text
length_xor i x y h k l = length_line3 node_text i xor_text x space_text y h k l

pub length_majority : (i x y z : ℕ) → Word i → Word x → Word y → Word z → length (line4 node_text i maj_text x space_text y space_text z) ≤ 53
unfolding node_text maj_text space_text
length_majority i x y z h k l m = length_line4 node_text i maj_text x space_text y space_text z h k l m

pub length_out : (x : ℕ) → Word x → length (line1 out_text x) ≤ 15
unfolding out_text
length_out x h = length_line1 out_text x h

pub length_refused : (k : ℕ) → Word k → length (line1 refused_text k) ≤ 19
unfolding refused_text
length_refused k h = length_line1 refused_text k h

-- an XOR's line and a majority's
pub xor_line : (i x y z : ℕ) → z ≡ mark → line3 node_text i xor_text x space_text y ≡ node_line i x y z
unfolding node_line
xor_line i x y z e = equal _ _ _ _ e refl

pub majority_line : (i x y z : ℕ) → (z ≡ mark → ⊥) → line4 node_text i maj_text x space_text y space_text z ≡ node_line i x y z
unfolding node_line
majority_line i x y z e = unequal _ _ _ _ e refl

-- a node's line by its index and the words that were read, and by its number among the nodes
pub node_put : (i : ℕ) (ns : List ℕ) (v index at r n x y z : ℕ) (t t' : List ℕ) → index ≡ i + 1 + v
    → x ≡ get_or ns (3 * v) 0 → y ≡ get_or ns (3 * v + 1) 0 → z ≡ get_or ns (3 * v + 2) 0
    → (r ≡ at + length (node_line index x y z)) × (r ≤ at + n) × (t' ≡ sets t at (node_line index x y z))
    → (r ≡ at + length (node_line_at i ns v)) × (t' ≡ sets t at (node_line_at i ns v))
unfolding node_line_at
node_put i ns v index at r n x y z t t' e ex ey ez h =
    let q : node_line index x y z ≡ node_line_at i ns v = rw (e, ex, ey, ez) in
    (h.0 ∙ ap (λ (l : List ℕ). at + length l) q, h.2 ∙ ap (sets t at) q)
