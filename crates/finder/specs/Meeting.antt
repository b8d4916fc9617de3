-- Ways down from a node, each as the places of a rising list that it meets, the bits of a word. A triple that some way misses is left out. What the
-- inner functions ask of each other, and no promise to a caller.
use Rattle.std.specs.Prelude.{◌≡◌, false, ◌⊎◌, ⊤, Option, None, Some, List, ℕ, ◌+◌, ◌*◌, ◌/◌, ◌≤◌, ◌<◌, length, get_or, take}
use Rattle.graph.specs.Admission.{Admitted}
use Rattle.graph.specs.Graph.{Graph, node}
use Rattle.graph.specs.Literals.{bit}
use Rattle.state.specs.State.{field}
use Rattle.hidden.specs.Truth.{Triple, triple, leak, truth}
use Rattle.hidden.specs.Majority.{is_majority}
use Rattle.hidden.specs.Ways.{Misses}
use Rattle.hidden.specs.Inner.{Between}
use Rattle.majority_call.specs.Valuing.{Facts}
use Rattle.finder.specs.declared.following.Head.{Head}
use Rattle.finder.specs.Living.{NodeNames}
use Rattle.finder.specs.Ways.{Open}

-- the three at places a, b and c of a list
abbrev pub three_of : List ℕ → ℕ → ℕ → ℕ → Triple
three_of l a b c = triple (get_or l a 0) (get_or l b 0) (get_or l c 0)

-- three rising places below m, none of which the word has
pub record Apart (m mask a b c : ℕ) : Type 0 where
  pub second : a < b
  pub third : b < c
  pub within : c < m
  pub one : bit a mask ≡ 0
  pub two : bit b mask ≡ 0
  pub three : bit c mask ≡ 0

-- the first m of a list rise
abbrev pub Rises : ℕ → List ℕ → Type 0
Rises m l = (j k : ℕ) → j < k → k < m → get_or l j 0 < get_or l k 0

-- the word has every place at which the index u stands
abbrev pub Places : List ℕ → ℕ → ℕ → ℕ → Type 0
Places l m u mask = (c : ℕ) → c < m → get_or l c 0 ≡ u → bit c mask ≡ 1

-- and of those below m no other
pub record PlacesOf (l : List ℕ) (m u mask : ℕ) : Type 0 where
  pub all : Places l m u mask
  pub only : (c : ℕ) → c < m → bit c mask ≡ 1 → get_or l c 0 ≡ u

-- over three at places that the word has not, the index u leaks
abbrev pub Bars : Graph → List ℕ → ℕ → ℕ → ℕ → Type 0
Bars g l m mask u = (a b c : ℕ) → Apart m mask a b c → truth g (three_of l a b c) u ≡ leak

-- over these, u leaks where the index i does, which is none of the three
pub record Leads (g : Graph) (l : List ℕ) (m mask u i : ℕ) : Type 0 where
  pub misses : (a b c : ℕ) → Apart m mask a b c → Misses (three_of l a b c) i
  pub leaks : (a b c : ℕ) → Apart m mask a b c → truth g (three_of l a b c) i ≡ leak → truth g (three_of l a b c) u ≡ leak

-- each of the first n words bars u
abbrev pub AllBar : Graph → List ℕ → ℕ → ℕ → List ℕ → ℕ → Type 0
AllBar g l m n ws u = (k : ℕ) → k < n → Bars g l m (get_or ws k 0) u

-- one of the first n words has none of the places a, b and c
pub record Missed (n : ℕ) (ws : List ℕ) (a b c : ℕ) : Type 0 where
  pub k : ℕ
  pub within : k < n
  pub one : bit a (get_or ws k 0) ≡ 0
  pub two : bit b (get_or ws k 0) ≡ 0
  pub three : bit c (get_or ws k 0) ≡ 0

-- index r is named by node w, or is 0
abbrev pub NamesOr : Graph → ℕ → ℕ → Type 0
NamesOr g w r = (r ≡ 0) ⊎ NodeNames g w r

-- a way may end at index u: at an input, or below the list where scratch tells a way on
abbrev pub Ends : ℕ → List ℕ → List ℕ → ℕ → Type 0
Ends i l sc u = ((0 < u) × (u ≤ i)) ⊎ ((u < get_or l 0 0) × Open i sc u)

-- field 0 of a node is below 2, or twice an index that the node names
abbrev pub Tells : Graph → List ℕ → Type 0
Tells g sc = (w : ℕ) → w < g.N → 1 < field sc w 0 → NodeNames g w (field sc w 0 / 2)

-- m indices that rise to below node v
pub record Listed (g : Graph) (v m : ℕ) (list : List ℕ) : Type 0 where
  pub admitted : Admitted g
  pub within : v < g.N
  pub some : 0 < length list
  pub few : m ≤ 39
  pub listed : m ≤ length list
  pub rising : Between 0 (node g v) (take m list)

-- what following ways needs besides: true facts in scratch
pub record Followed (g : Graph) (v m : ℕ) (list sc : List ℕ) : Type 0 where
  pub near : Listed g v m list
  pub room : 8 * g.N ≤ length sc
  pub facts : Facts g sc
  pub tells : Tells g sc

-- a way down from node v has come to index x, by the places that the word has
pub record Comes (g : Graph) (v m : ℕ) (list : List ℕ) (x mask : ℕ) : Type 0 where
  pub some : 0 < x
  pub below : x < node g g.N
  pub leads : Leads g list m mask (node g v) x

abbrev pub HeadComes : Graph → ℕ → ℕ → List ℕ → Option Head → Type 0
HeadComes g v m list None = ⊤
HeadComes g v m list (Some h) = Comes g v m list h.index h.mask

-- so many ways: where each has come to, and by which places
pub record Come (g : Graph) (v m : ℕ) (list : List ℕ) (n : ℕ) (heads met : List ℕ) : Type 0 where
  pub listed : n ≤ length heads
  pub words : n ≤ length met
  pub each : (k : ℕ) → k < n → Comes g v m list (get_or heads k 0) (get_or met k 0)

-- one is put behind the first n, or there is none
abbrev pub Behind : ℕ → ℕ → List ℕ → List ℕ → Option Head → Type 0
Behind n r heads' met' None = r ≡ n
Behind n r heads' met' (Some h) = (r ≡ n + 1) × (get_or heads' n 0 ≡ h.index) × (get_or met' n 0 ≡ h.mask)

pub record Put (n : ℕ) (head : Option Head) (r : ℕ) (heads heads' met met' : List ℕ) : Type 0 where
  pub same : length heads' ≡ length heads
  pub same_words : length met' ≡ length met
  pub kept : (k : ℕ) → k < n → (get_or heads' k 0 ≡ get_or heads k 0) × (get_or met' k 0 ≡ get_or met k 0)
  pub behind : Behind n r heads' met' head

-- the word mask is put behind the first n, or it has every place
pub record Added (n mask r : ℕ) (ws ws' : List ℕ) : Type 0 where
  pub same : length ws' ≡ length ws
  pub few : r ≤ n + 1
  pub kept : (k : ℕ) → k < n → get_or ws' k 0 ≡ get_or ws k 0
  pub new : (k : ℕ) → n ≤ k → k < r → get_or ws' k 0 ≡ mask

-- the word lacks one of three places
abbrev pub Lacks : ℕ → ℕ → ℕ → ℕ → Type 0
Lacks w a b c = (bit a w ≡ 0) ⊎ ((bit b w ≡ 0) ⊎ (bit c w ≡ 0))

-- r is the higher of two indices, 0 where they are the same
abbrev pub Higher : ℕ → ℕ → ℕ → Type 0
Higher x y r = (r ≡ 0) ⊎ (((r ≡ y) × (x < y)) ⊎ ((r ≡ x) × (y < x)))

-- three places are not all allowed, or one of the first n words has none of them
abbrev pub Unmet : ℕ → ℕ → List ℕ → ℕ → ℕ → ℕ → Type 0
Unmet allowed n ws a b c = Lacks allowed a b c ⊎ Missed n ws a b c

-- the word has at least r of three places, unless they are unmet
abbrev pub AtLeast : ℕ → ℕ → ℕ → ℕ → List ℕ → Type 0
AtLeast r w allowed n ws = (a b c : ℕ) → Unmet allowed n ws a b c ⊎ (r ≤ bit a w + bit b w + bit c w)

-- the three at places a, b and c give no majority at node v
abbrev pub NoneAt : Graph → ℕ → List ℕ → ℕ → ℕ → ℕ → Type 0
NoneAt g v list a b c = is_majority (truth g (three_of list a b c) (node g v)) ≡ false

-- three give none if the word lacks one of their places
abbrev pub Allows : Graph → ℕ → ℕ → List ℕ → ℕ → Type 0
Allows g v m list w = (a b c : ℕ) → a < b → b < c → c < m → Lacks w a b c → NoneAt g v list a b c

-- what is known of node v: places that three may have, and ways that bar it, a word a way
pub record WaysKnown (g : Graph) (v m : ℕ) (list : List ℕ) (allowed n : ℕ) (ws : List ℕ) : Type 0 where
  pub few : m ≤ 39
  pub listed : n ≤ length ws
  pub allows : Allows g v m list allowed
  pub bars : AllBar g list m n ws (node g v)

-- with the indices at places a and b, a third gives a majority only at places that the word has
abbrev pub ThirdsMet : Graph → ℕ → ℕ → List ℕ → ℕ → ℕ → ℕ → Type 0
ThirdsMet g v m list a b met = (c : ℕ) → b < c → c < m → bit c met ≡ 0 → NoneAt g v list a b c
