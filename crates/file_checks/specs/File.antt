-- The tagged file of document 01, with document 02's locks: what a field is, the number that refuses it, and the walk of the
-- loader.
use Rattle.std.specs.Prelude.{◌+◌, ◌*◌, ◌∷◌}
use Rattle.graph.specs.All.{ℕ, zero, suc, List, [], length, get_or, take, drop, if_less, if_equal, first, mark, index, room_number}

-- big-endian numbers of two and of four bytes, from this place on
unfoldable pub be2 : List ℕ → ℕ → ℕ
be2 s at = get_or s at 0 * 256 + get_or s (at + 1) 0

unfoldable pub be4 : List ℕ → ℕ → ℕ
be4 s at = ((get_or s at 0 * 256 + get_or s (at + 1) 0) * 256 + get_or s (at + 2) 0) * 256 + get_or s (at + 3) 0

-- the length that a tag's payload has; no tag but these has one, and no two bytes say 65536
unfoldable pub payload_of : ℕ → ℕ
payload_of tag = if_equal tag 1 12 (if_equal tag 2 12 (if_equal tag 3 8 (if_equal tag 4 4 (if_equal tag 5 0 (if_equal tag 6 4 65536)))))

-- the field at the front of s, where a tag from low to high is due: 0, or what refuses it
unfoldable pub due_number : ℕ → ℕ → List ℕ → ℕ
due_number low high s =
    if_less (length s) 3 1
    (if_less (get_or s 0 0) low 2
    (if_less high (get_or s 0 0) 2
    (if_equal (be2 s 1) (payload_of (get_or s 0 0))
    (if_less (length s) (3 + payload_of (get_or s 0 0)) 1 0)
    2)))

-- the field call, where any tag is due
abbrev pub field_number : List ℕ → ℕ
field_number s = due_number 1 6 s

-- the payload, or nothing where the field is refused
unfoldable pub field_payload : List ℕ → List ℕ
field_payload s = if_equal (field_number s) 0 (take (be2 s 1) (drop 3 s)) []

-- The loader. The bytes are always those that are left, with the field that is due at their front.

-- how many bytes a node field takes, and the node's third word: the mark, where it is an XOR
unfoldable pub node_size : List ℕ → ℕ
node_size s = 3 + payload_of (get_or s 0 0)

unfoldable pub third : List ℕ → ℕ
third s = if_equal (get_or s 0 0) 3 mark (be4 s 11)

-- field 01, with tables of so many words and so many lock bytes lent
unfoldable pub head_number : List ℕ → ℕ → ℕ → ℕ → ℕ
head_number s node_room output_room lock_room =
    first (due_number 1 1 s) (room_number (be4 s 3) (be4 s 7) (be4 s 11) node_room output_room lock_room)

-- the field of the node that has index v: its literals name indices below v
unfoldable pub node_field_number : List ℕ → ℕ → ℕ
node_field_number s v =
    first (due_number 2 3 s)
    (if_less (index (be4 s 3)) v
    (if_less (index (be4 s 7)) v
    (if_equal (get_or s 0 0) 3 0
    (if_less (index (be4 s 11)) v 0 5))
    5)
    5)

-- the field of an output, which may name an index below v
unfoldable pub output_field_number : List ℕ → ℕ → ℕ
output_field_number s v = first (due_number 4 4 s) (if_less (index (be4 s 3)) v 0 5)

-- the field of a lock, which names an index from low on and below top; 13 is its fault
unfoldable pub lock_field_number : List ℕ → ℕ → ℕ → ℕ
lock_field_number s low top = first (due_number 6 6 s) (if_less (be4 s 3) low 13 (if_less (be4 s 3) top 0 13))

-- field 05, and nothing more
unfoldable pub end_number : List ℕ → ℕ
end_number s = first (due_number 5 5 s) (if_less 3 (length s) 6 0)

-- how many fields of tag 06 stand in a row at the front of s, up to k of them; and all, which are no more than the bytes
abbrev pub locks_within : ℕ → List ℕ → ℕ
locks_within zero s = 0
locks_within (suc k) s = let more = locks_within k (drop 7 s) in if_equal (get_or s 0 0) 6 (suc more) 0

unfoldable pub lock_count : List ℕ → ℕ
lock_count s = locks_within (length s) s

-- n locks and the end. A lock names an index from low on, the first node's or the one after that of the lock before, and below
-- top, the one after the last node's
abbrev pub lock_fields_number : ℕ → List ℕ → ℕ → ℕ → ℕ
lock_fields_number zero s low top = end_number s
lock_fields_number (suc n) s low top = let rest = lock_fields_number n (drop 7 s) (be4 s 3 + 1) top in first (lock_field_number s low top) rest

-- o outputs, which name indices below top, then as many locks as there are and the end; the first node has index low
abbrev pub output_fields_number : ℕ → List ℕ → ℕ → ℕ → ℕ
output_fields_number zero s low top = lock_fields_number (lock_count s) s low top
output_fields_number (suc o) s low top = let rest = output_fields_number o (drop 7 s) low top in first (output_field_number s top) rest

-- n nodes, the next with index v and the first with index low, then o outputs, the locks and the end
abbrev pub node_fields_number : ℕ → ℕ → List ℕ → ℕ → ℕ → ℕ
node_fields_number zero o s low v = output_fields_number o s low v
node_fields_number (suc n) o s low v = let rest = node_fields_number n o (drop (node_size s) s) low (v + 1) in first (node_field_number s v) rest

-- the whole file: the first fault from front to back
unfoldable pub file_number : List ℕ → ℕ → ℕ → ℕ → ℕ
file_number s node_room output_room lock_room =
    let rest = node_fields_number (be4 s 7) (be4 s 11) (drop 15 s) (be4 s 3 + 1) (be4 s 3 + 1) in
    first (head_number s node_room output_room lock_room) rest

-- the words of n nodes and what follows them
abbrev pub node_words : ℕ → List ℕ → List ℕ
node_words zero s = []
node_words (suc n) s = be4 s 3 ∷ be4 s 7 ∷ third s ∷ node_words n (drop (node_size s) s)

abbrev pub after_nodes : ℕ → List ℕ → List ℕ
after_nodes zero s = s
after_nodes (suc n) s = after_nodes n (drop (node_size s) s)

-- the numbers of n fields that have one each, outputs or locks, and what follows them
abbrev pub single_words : ℕ → List ℕ → List ℕ
single_words zero s = []
single_words (suc n) s = be4 s 3 ∷ single_words n (drop 7 s)

abbrev pub after_singles : ℕ → List ℕ → List ℕ
after_singles zero s = s
after_singles (suc n) s = after_singles n (drop 7 s)

-- what follows the outputs, and the indices that the locks there name
unfoldable pub locks_from : List ℕ → List ℕ
locks_from s = after_singles (be4 s 11) (after_nodes (be4 s 7) (drop 15 s))

unfoldable pub lock_indices : List ℕ → List ℕ
lock_indices s = single_words (lock_count s) s
