-- Signatures: the values of an index under 32 fixed assignments, as one word. They tell triples that give no majority without valuing a
-- node. What the inner functions ask of each other, and no promise to a caller.
use Rattle.std.specs.Prelude.{◌≡◌, ◌≢◌, List, ℕ, suc, ◌+◌, ◌-◌, ◌*◌, ◌/◌, ◌%◌, ◌≤◌, ◌<◌, length, get_or}
use Rattle.std.specs.Int.Bits.{bit_xor}
use Rattle.graph.specs.Finite.{if_less, if_equal}
use Rattle.graph.specs.Graph.{Graph, node}
use Rattle.graph.specs.Literals.{bit}
use Rattle.graph.specs.Value.{Assignment, value, majority}
use Rattle.state.specs.State.{field}

-- the signature of the input k: any mixing of its number would do
unfoldable pub input_sign : ℕ → ℕ
input_sign k = let x = k * 2783377641436327 in bit_xor (x / 1048576) (x / 512) % 4294967296

-- the assignment of place j: each input has bit j of its signature
unfoldable pub signing : ℕ → Assignment
signing j k = bit j (input_sign (suc k))

-- field 7 of each of the first n nodes is its signature
abbrev pub Signed : Graph → ℕ → List ℕ → Type 0
Signed g n sc = (v j : ℕ) → v < n → j < 32 → bit j (field sc v 7) ≡ value g (signing j) (node g v)

-- the signature of the index u, of a graph with i inputs
unfoldable pub sign_of : ℕ → List ℕ → ℕ → ℕ
sign_of i sc u = if_equal u 0 0 (if_less i u (field sc (u - (i + 1)) 7) (input_sign u))

-- w is the word x with each of its 32 bits turned b times
abbrev pub TurnedWord : ℕ → ℕ → ℕ → Type 0
TurnedWord x b w = (j : ℕ) → j < 32 → bit j w ≡ (bit j x + b) % 2

-- w is the signature of node v, if those of the nodes before it are there
abbrev pub NodeSign : Graph → ℕ → List ℕ → ℕ → Type 0
NodeSign g v sc w = Signed g v sc → (j : ℕ) → j < 32 → bit j w ≡ value g (signing j) (node g v)

-- it is stored, and nothing else differs
pub record SignSet (g : Graph) (v : ℕ) (sc sc' : List ℕ) : Type 0 where
  pub signed : Signed g v sc → Signed g (v + 1) sc'
  pub kept : (j : ℕ) → j ≢ 8 * v + 7 → get_or sc' j 0 ≡ get_or sc j 0
  pub same : length sc' ≡ length sc

-- at none of 32 places are two of three words set, each turned as often as a number says
abbrev pub Never₃ : (a b c p q r : ℕ) → Type 0
Never₃ a b c p q r = (j : ℕ) → j < 32 → (bit j p + a) % 2 + (bit j q + b) % 2 + (bit j r + c) % 2 ≤ 1

-- w is the majority of the three words at each of 32 places, each turned where a bit of c says so
abbrev pub Votes : (c w x y z : ℕ) → Type 0
Votes c w x y z = (j : ℕ) → j < 32 → majority ((bit j x + bit 0 c) % 2) ((bit j y + bit 1 c) % 2) ((bit j z + bit 2 c) % 2) ≡ bit j w
