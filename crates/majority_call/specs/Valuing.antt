-- Truth values over a triple, worked out by a stack that is linked in scratch. What the inner functions ask of each other, and no
-- promise to a caller. Field 0 of a node: above 1 where an input lies below it and that is known; field 1: the node that waits for it;
-- fields 2 to 5: a triple, which begins with 0 where there is none, and the node's truth value over it.
use Rattle.std.specs.Prelude.{◌≡◌, Bool, true, false, cond, ◌&&◌, ◌≢◌, ◌⊎◌, List, [], ◌∷◌, ℕ, ◌+◌, ◌-◌, ◌*◌, ◌/◌, ◌%◌, ◌≤◌, ◌<◌, eqb, length, get_or}
use Rattle.std.specs.Int.Bits.{bit_and, bit_or, bit_xor}
use Rattle.graph.specs.Finite.{if_less, if_equal, count}
use Rattle.graph.specs.Graph.{Graph, node}
use Rattle.state.specs.State.{field}
use Rattle.hidden.specs.Truth.{Triple, leak, truth}
use Rattle.hidden.specs.Ways.{Misses}

-- scratch has a value of node v over the triple
unfoldable pub is_valued : List ℕ → Triple → ℕ → Bool
is_valued sc t v = eqb (field sc v 2) t.one && (eqb (field sc v 3) t.two && eqb (field sc v 4) t.three)

-- what scratch has of the nodes is true
pub record Facts (g : Graph) (sc : List ℕ) : Type 0 where
  pub valued : (v : ℕ) (t : Triple) → v < g.N → 0 < t.one → is_valued sc t v ≡ true → field sc v 5 ≡ truth g t (node g v)
  -- a triple above a node that has an input below leaves a way to it
  pub way : (v : ℕ) (t : Triple) → v < g.N → 1 < field sc v 0 → node g v < t.one → t.one < t.two → t.two < t.three → truth g t (node g v) ≡ leak

-- not yet known
abbrev pub unknown : ℕ
unknown = 512

-- what scratch has of node v, of a graph with i inputs
unfoldable pub kept_at : ℕ → List ℕ → Triple → ℕ → ℕ
kept_at i sc t v = let kept = cond (is_valued sc t v) (field sc v 5) unknown in if_less (i + 1 + v) t.one (if_less 1 (field sc v 0) leak kept) kept

-- what is known of index u over the triple
unfoldable pub known_at : ℕ → List ℕ → Triple → ℕ → ℕ
known_at i sc t u =
    let below = if_less i u (kept_at i sc t (u - (i + 1))) leak in
    if_equal u t.one 170 (if_equal u t.two 204 (if_equal u t.three 240 (if_equal u 0 0 below)))

-- what looking at node v gives: its truth value, or 512 and the index of a node that has to be valued before
pub record Looked (g : Graph) (sc : List ℕ) (t : Triple) (v r : ℕ) : Type 0 where
  pub value : r < unknown → r ≡ truth g t (node g v)
  pub next : unknown ≤ r → (g.I + 513 ≤ r) × (r < g.I + 513 + v) × (is_valued sc t (r - (g.I + 513)) ≡ false) × Misses t (r - unknown)

-- a triple with which a node can be looked at
pub record Asked (g : Graph) (sc : List ℕ) (t : Triple) : Type 0 where
  pub facts : Facts g sc
  pub positive : 0 < t.one
  pub second : t.one < t.two
  pub third : t.two < t.three

-- from v the links lead up to u, over nodes outside the triple that have no value yet; of a graph with i inputs
abbrev pub Linked : ℕ → List ℕ → Triple → ℕ → ℕ → List ℕ → Type 0
Linked i sc t u v [] = v ≡ u
Linked i sc t u v (p ∷ ps) = (v < p) × (field sc v 1 ≡ p) × (is_valued sc t p ≡ false) × Misses t (i + 1 + p) × Linked i sc t u p ps

pub record Stack (i : ℕ) (sc : List ℕ) (t : Triple) (u v : ℕ) : Type 0 where
  pub waiting : List ℕ
  pub linked : Linked i sc t u v waiting

-- but for fields 1 to 5 of nodes up to v, scratch is as it was
pub record Framed (v : ℕ) (sc sc' : List ℕ) : Type 0 where
  pub same : length sc' ≡ length sc
  pub above : (j : ℕ) → 8 * v + 6 ≤ j → get_or sc' j 0 ≡ get_or sc j 0
  pub first : (w : ℕ) → field sc' w 0 ≡ field sc w 0
  pub last : (w f : ℕ) → 6 ≤ f → f < 8 → field sc' w f ≡ field sc w f

-- going down from v to a node b that can be valued, only links are stored
pub record Descended (g : Graph) (t : Triple) (v b : ℕ) (sc sc' : List ℕ) : Type 0 where
  pub within : b ≤ v
  pub framed : Framed v sc sc'
  pub slots : (w f : ℕ) → 2 ≤ f → f < 8 → field sc' w f ≡ field sc w f
  pub free : is_valued sc' t b ≡ false
  pub apart : Misses t (node g b)
  pub stack : (u : ℕ) → Stack g.I sc t u v → Stack g.I sc' t u b

-- the value x of node b over the triple is stored
pub record Stored4 (b : ℕ) (t : Triple) (x : ℕ) (sc sc' : List ℕ) : Type 0 where
  pub two : field sc' b 2 ≡ t.one
  pub three : field sc' b 3 ≡ t.two
  pub four : field sc' b 4 ≡ t.three
  pub five : field sc' b 5 ≡ x
  pub kept : (j : ℕ) → (j < 8 * b + 2) ⊎ (8 * b + 6 ≤ j) → get_or sc' j 0 ≡ get_or sc j 0
  pub same : length sc' ≡ length sc

-- one node b up to v is valued, and the others as they were
pub record Valued (g : Graph) (t : Triple) (v b : ℕ) (sc sc' : List ℕ) : Type 0 where
  pub within : b ≤ v
  pub framed : Framed v sc sc'
  pub was : is_valued sc t b ≡ false
  pub now : is_valued sc' t b ≡ true
  pub others : (w : ℕ) → w ≢ b → is_valued sc' t w ≡ is_valued sc t w
  pub facts : Facts g sc'
  pub stack : (u : ℕ) → Stack g.I sc t u v → Stack g.I sc' t u b

-- the truth value of node v over the triple stands in scratch
pub record Truth (g : Graph) (t : Triple) (v r : ℕ) (sc sc' : List ℕ) : Type 0 where
  pub value : r ≡ truth g t (node g v)
  pub framed : Framed v sc sc'
  pub facts : Facts g sc'

-- how many of the first n nodes have no value over the triple
unfoldable pub unvalued : List ℕ → Triple → ℕ → ℕ
unvalued sc t n = count n (λ v. cond (is_valued sc t v) false true)

-- what comes of the words of a node and of what is known of their indices: a leak, 512 and an index that is not yet known, or a byte
unfoldable pub exclusive_of : ℕ → ℕ → ℕ → ℕ → ℕ
exclusive_of a b x y =
    if_equal a leak leak
    (if_equal b leak leak
    (if_equal a unknown (unknown + x / 2)
    (if_equal b unknown (unknown + y / 2)
    (bit_xor (bit_xor a (x % 2 * 255)) (bit_xor b (y % 2 * 255))))))

unfoldable pub voted_of : ℕ → ℕ → ℕ → ℕ → ℕ → ℕ → ℕ
voted_of a b c x y z =
    let p = bit_xor a (x % 2 * 255) in
    let q = bit_xor b (y % 2 * 255) in
    let r = bit_xor c (z % 2 * 255) in
    if_equal a leak leak
    (if_equal b leak leak
    (if_equal c leak leak
    (if_equal a unknown (unknown + x / 2)
    (if_equal b unknown (unknown + y / 2)
    (if_equal c unknown (unknown + z / 2)
    (bit_or (bit_or (bit_and p q) (bit_and p r)) (bit_and q r)))))))
