-- What the leaves that read and fill a table ask and tell, and what admission counts. No promise to a caller.
use Rattle.std.specs.Prelude.{◌≡◌, ℕ, suc, ◌+◌, ◌-◌, ◌*◌, ◌/◌, ◌%◌, ◌^◌, ◌<◌, ◌≤◌, List, [], ◌∷◌, length, ◌≢◌, slice_index, slice_set}
use Rattle.graph.specs.Finite.{tab, if_less, if_equal}
use Rattle.graph.specs.Graph.{index, mark}
use Rattle.graph.specs.Turned.{only}
use Rattle.graph.specs.Literals.{bit_at, index_at, held, bit_of, evened, words_for}

-- u stands in the index table where the table says x: it is the index of x, or neither is one that a literal has
pub record Names (x u : ℕ) : Type 0 where
  pub low : u < 2147483647 → index x ≡ u
  pub high : 2147483647 ≤ u → 2147483647 ≤ index x

-- x is the mark, or a literal
abbrev pub IsWord : ℕ → Type 0
IsWord x = (x ≢ mark) → index x < 2147483647

-- what reading the words of node v of the table l asks
pub record Readable (l : List ℕ) (v : ℕ) : Type 0 where
  pub there : 3 * v + 2 < held l
  pub few : v ≤ 100000
  pub first : index (slice_index l (3 * v)) < 2147483647
  pub second : index (slice_index l (3 * v + 1)) < 2147483647
  pub third : IsWord (slice_index l (3 * v + 2))

-- the same of the first n nodes
abbrev pub AllReadable : ℕ → List ℕ → Type 0
AllReadable n l = (v : ℕ) → v < n → Readable l v

-- what turning the word at place j of the table l t times asks
pub record Turnable (l : List ℕ) (j t : ℕ) : Type 0 where
  pub few : t ≤ 2
  pub there : j < held l
  pub low : 0 < t → index (slice_index l j) < 2147483647

-- three words turned, from place j on
unfoldable pub three_turns : ℕ → ℕ → ℕ → ℕ → ℕ → ℕ
three_turns j x y z i = only j x i + only (j + 1) y i + only (j + 2) z i

-- the bits of the words of node v, as one number
unfoldable pub three_bits : List ℕ → ℕ → ℕ
three_bits l v = bit_of (slice_index l (3 * v)) + 2 * bit_of (slice_index l (3 * v + 1)) + 4 * bit_of (slice_index l (3 * v + 2))

-- b has the bits of the words of node v and of the three after it, each node's as one number
pub record Twelve (l : List ℕ) (v b : ℕ) : Type 0 where
  pub first : b % 8 ≡ three_bits l v
  pub second : b / 8 % 8 ≡ three_bits l (v + 1)
  pub third : b / 64 % 8 ≡ three_bits l (v + 2)
  pub fourth : b / 512 % 8 ≡ three_bits l (v + 3)

-- 1 where the index at place j is not below `end`
unfoldable pub over_at : ℕ → List ℕ → ℕ → ℕ
over_at end us j = if_less (index_at us j) end 0 1

-- the same of a third word, which may be the mark
unfoldable pub third_over : ℕ → List ℕ → ℕ → ℕ
third_over end us j = if_equal (index_at us j) mark 0 (over_at end us j)

-- how many of a node's words from place p on are, `end` being its own index
unfoldable pub high_node : ℕ → List ℕ → ℕ → ℕ
high_node end us p = over_at end us p + over_at end us (p + 1) + third_over end us (p + 2)

-- the same of a node table with i inputs, where indices have to be below the node's own
unfoldable pub high_at : ℕ → List ℕ → ℕ → ℕ
high_at i us j = if_equal (j % 3) 2 (third_over (i + 1 + j / 3) us j) (over_at (i + 1 + j / 3) us j)

-- the bit at place j, where a mark stands there
unfoldable pub odd_mark : List ℕ → List ℕ → ℕ → ℕ
odd_mark us bs j = if_equal (j % 3) 2 (if_equal (index_at us j) mark (bit_at bs j) 0) 0

-- 1 where the word at place j is at fault
unfoldable pub fault_at : ℕ → List ℕ → List ℕ → ℕ → ℕ
fault_at i us bs j = high_at i us j + odd_mark us bs j

-- r counts s faults, each once or more
pub record Counts (s r : ℕ) : Type 0 where
  pub least : s ≤ r
  pub most : r ≤ 2048 * s

-- b has the bits of the third words of four nodes, from place `at` on, each where it stands among their twelve
pub record Thirds (bs : List ℕ) (at b : ℕ) : Type 0 where
  pub first : b / 4 % 2 ≡ bit_at bs (at + 2)
  pub second : b / 32 % 2 ≡ bit_at bs (at + 5)
  pub third : b / 256 % 2 ≡ bit_at bs (at + 8)
  pub fourth : b / 2048 % 2 ≡ bit_at bs (at + 11)

-- The bits of a table that is filled are gathered, the latest highest, and stored a word at a time. Words of bits, as if the one that has
-- begun before place j were stored with what is gathered of it, and 0 past that
unfoldable pub begun : ℕ → ℕ → List ℕ → List ℕ
begun j got bs = if_equal (j % 64) 0 bs (slice_set bs (j / 64) (got / 2 ^ (64 - j % 64)))

-- a table with x at place j, and the bits past that cleared in its word
unfoldable pub word_put : ℕ → ℕ → List ℕ → List ℕ
word_put j x l =
    tab (length l)
    (λ i.
    if_equal i j x
    (if_less i j (slice_index l i)
    (if_less i (64 * (j / 64 + 1)) (evened (slice_index l i)) (slice_index l i))))

-- the same with several words, from place j on
abbrev pub words_put : ℕ → List ℕ → List ℕ → List ℕ
words_put j [] l = l
words_put j (x ∷ ws) l = words_put (suc j) ws (word_put j x l)

-- words of bits with b put at place j, and 0 past it in its word
pub record BitPut (bs : List ℕ) (j b : ℕ) (ds : List ℕ) : Type 0 where
  pub same : length ds ≡ length bs
  pub before : (i : ℕ) → i < j → bit_at ds i ≡ bit_at bs i
  pub here : bit_at ds j ≡ b
  pub after : (i : ℕ) → j < i → i < 64 * (j / 64 + 1) → bit_at ds i ≡ 0
  pub later : (i : ℕ) → 64 * (j / 64 + 1) ≤ i → bit_at ds i ≡ bit_at bs i

-- words of bits whose first n are f 0, f 1, .., and 0 past these in their last word
pub record BitsPut (f : ℕ → ℕ) (bs ds : List ℕ) (n : ℕ) : Type 0 where
  pub same : length ds ≡ length bs
  pub below : (j : ℕ) → j < n → bit_at ds j ≡ f j
  pub rest : (j : ℕ) → n ≤ j → j < 64 * words_for n → bit_at ds j ≡ 0
  pub later : (j : ℕ) → 64 * words_for n ≤ j → bit_at ds j ≡ bit_at bs j

-- the numbers that refusals have
abbrev pub IsRefusal : ℕ → Type 0
IsRefusal k = (1 ≤ k) × (k ≤ 19)
