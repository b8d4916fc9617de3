-- A field as it is written, with anything after it: it is accepted, and what was written is read back.
-- From the laws on big-endian numbers and on tests.
use Prim.Native.Nat.{ℕ, ◌+◌, ◌/◌, ◌<◌, ◌≤◌}
use mathlib.Core.Path.{◌≡◌, refl, sym, ap, ◌∙◌}
use mathlib.Core.Logic.{⊎_elim, ◌≢◌}
use mathlib.Core.List.{List, [], ◌∷◌, ◌++◌}
use native.Mathlib.Omega.{arith}
use lib.ListN.{length, get_or, drop, length-append}
use Rattle.graph.specs.Graph.{mark}
use Rattle.graph.proofs.Cases.{eq_or_ne}
use Rattle.graph.proofs.Admit.{Rooms, room_none}
use Rattle.graph.proofs.Tests.{less, no_less, equal, unequal, none}
use Rattle.file_checks.specs.File.{be2, be4, payload_of, due_number, node_size, third, head_number, node_field_number, output_field_number, lock_field_number, end_number}
use Rattle.tagged_file.specs.Write.{big, field_of, head_field, node_field, output_field, end_field}
use Rattle.tagged_file.proofs.BigEndian.{big_says}
use Rattle.tagged_file.proofs.FieldBytes.{node_xor, node_majority, end_is, length_three, length_two, length_single}
use Rattle.file_checks.proofs.Checked.{size_at, payload_one, payload_two, payload_three, payload_four, payload_five, payload_six}
use Rattle.tagged_file.proofs.OneField.{size_of, third_majority, third_xor}

-- a field that has these is accepted
due_from : (low high tag size : ℕ) (s : List ℕ) → get_or s 0 0 ≡ tag → low ≤ tag → tag ≤ high → payload_of tag ≡ size → be2 s 1 ≡ size
    → 3 + size ≤ length s → due_number low high s ≡ 0
unfolding due_number
due_from low high tag size s t l m p b r =
    let q = size_at (get_or s 0 0) tag size p t in
    sym (no_less _ _ _ _ (omega arith) (no_less _ _ _ _ (omega arith) (no_less _ _ _ _ (omega arith)
    (equal _ _ _ _ (b ∙ sym q) (no_less _ _ _ _ (omega arith) refl)))))

-- what stands in the bytes of a field of three numbers, of two and of one
module _ (tag x y z : ℕ) (rest : List ℕ) where
  three_tag : get_or (field_of tag (big 4 x ++ (big 4 y ++ big 4 z)) ++ rest) 0 0 ≡ tag
  unfolding field_of
  three_tag = refl

  three_size : be2 (field_of tag (big 4 x ++ (big 4 y ++ big 4 z)) ++ rest) 1 ≡ 12
  unfolding field_of big be2
  three_size = refl

  three_first : x < 4294967296 → be4 (field_of tag (big 4 x ++ (big 4 y ++ big 4 z)) ++ rest) 3 ≡ x
  unfolding field_of big be4
  three_first h = big_says x h

  three_second : y < 4294967296 → be4 (field_of tag (big 4 x ++ (big 4 y ++ big 4 z)) ++ rest) 7 ≡ y
  unfolding field_of big be4
  three_second h = big_says y h

  three_third : z < 4294967296 → be4 (field_of tag (big 4 x ++ (big 4 y ++ big 4 z)) ++ rest) 11 ≡ z
  unfolding field_of big be4
  three_third h = big_says z h

  three_after : drop 15 (field_of tag (big 4 x ++ (big 4 y ++ big 4 z)) ++ rest) ≡ rest
  unfolding field_of big
  three_after = refl

module _ (tag x y : ℕ) (rest : List ℕ) where
  two_tag : get_or (field_of tag (big 4 x ++ big 4 y) ++ rest) 0 0 ≡ tag
  unfolding field_of
  two_tag = refl

  two_size : be2 (field_of tag (big 4 x ++ big 4 y) ++ rest) 1 ≡ 8
  unfolding field_of big be2
  two_size = refl

  two_first : x < 4294967296 → be4 (field_of tag (big 4 x ++ big 4 y) ++ rest) 3 ≡ x
  unfolding field_of big be4
  two_first h = big_says x h

  two_second : y < 4294967296 → be4 (field_of tag (big 4 x ++ big 4 y) ++ rest) 7 ≡ y
  unfolding field_of big be4
  two_second h = big_says y h

  two_after : drop 11 (field_of tag (big 4 x ++ big 4 y) ++ rest) ≡ rest
  unfolding field_of big
  two_after = refl

module _ (tag x : ℕ) (rest : List ℕ) where
  single_tag : get_or (field_of tag (big 4 x) ++ rest) 0 0 ≡ tag
  unfolding field_of
  single_tag = refl

  single_size : be2 (field_of tag (big 4 x) ++ rest) 1 ≡ 4
  unfolding field_of big be2
  single_size = refl

  single_first : x < 4294967296 → be4 (field_of tag (big 4 x) ++ rest) 3 ≡ x
  unfolding field_of big be4
  single_first h = big_says x h

  single_after : drop 7 (field_of tag (big 4 x) ++ rest) ≡ rest
  unfolding field_of big
  single_after = refl

  single_due : payload_of tag ≡ 4 → due_number tag tag (field_of tag (big 4 x) ++ rest) ≡ 0
  single_due p =
      let r = length-append (field_of tag (big 4 x)) rest in
      let l = length_single tag x in
      due_from tag tag tag 4 (field_of tag (big 4 x) ++ rest) single_tag (omega arith) (omega arith) p single_size (omega arith)

-- a node's field, with index v
pub record NodeRead (s : List ℕ) (v x y z : ℕ) (rest : List ℕ) : Type 0 where
  pub number : node_field_number s v ≡ 0
  pub one : be4 s 3 ≡ x
  pub two : be4 s 7 ≡ y
  pub last : third s ≡ z
  pub after : drop (node_size s) s ≡ rest

accepted_node : (s : List ℕ) (v x y : ℕ) → due_number 2 3 s ≡ 0 → be4 s 3 ≡ x → be4 s 7 ≡ y → x / 2 < v → y / 2 < v
    → ((get_or s 0 0 ≡ 3 → ⊥) → be4 s 11 / 2 < v) → node_field_number s v ≡ 0
unfolding node_field_number
accepted_node s v x y d ex ey hx hy hz =
    sym (none _ _ d (less _ _ _ _ (rw ex hx) (less _ _ _ _ (rw ey hy)
    (⊎_elim
    (λ (t : get_or s 0 0 ≡ 3). equal _ _ _ _ t refl)
    (λ (n : get_or s 0 0 ≢ 3). unequal _ _ _ _ n (less _ _ _ _ (hz n) refl))
    (eq_or_ne (get_or s 0 0) 3)))))

module _ (v x y z : ℕ) (rest : List ℕ) (bx : x < 4294967296) (by : y < 4294967296) (hx : x / 2 < v) (hy : y / 2 < v) where
  majority_read : z < 4294967296 → z / 2 < v → NodeRead (field_of 2 (big 4 x ++ (big 4 y ++ big 4 z)) ++ rest) v x y z rest
  majority_read bz hz =
      let s : List ℕ = field_of 2 (big 4 x ++ (big 4 y ++ big 4 z)) ++ rest in
      let t : get_or s 0 0 ≡ 2 = three_tag 2 x y z rest in
      let r = length-append (field_of 2 (big 4 x ++ (big 4 y ++ big 4 z))) rest in
      let l = length_three 2 x y z in
      let d = due_from 2 3 2 12 s t (omega arith) (omega arith) payload_two (three_size 2 x y z rest) (omega arith) in
      let w : be4 s 11 ≡ z = three_third 2 x y z rest bz in
      record {
        number = accepted_node s v x y d (three_first 2 x y z rest bx) (three_second 2 x y z rest by) hx hy (λ n. rw w hz);
        one = three_first 2 x y z rest bx;
        two = three_second 2 x y z rest by;
        last = third_majority s (λ q. omega arith) ∙ w;
        after = ap (λ (k : ℕ). drop k s) (size_of s 2 12 payload_two t) ∙ three_after 2 x y z rest;
      }

  xor_read : NodeRead (field_of 3 (big 4 x ++ big 4 y) ++ rest) v x y mark rest
  xor_read =
      let s : List ℕ = field_of 3 (big 4 x ++ big 4 y) ++ rest in
      let t : get_or s 0 0 ≡ 3 = two_tag 3 x y rest in
      let r = length-append (field_of 3 (big 4 x ++ big 4 y)) rest in
      let l = length_two 3 x y in
      let d = due_from 2 3 3 8 s t (omega arith) (omega arith) payload_three (two_size 3 x y rest) (omega arith) in
      record {
        number = accepted_node s v x y d (two_first 3 x y rest bx) (two_second 3 x y rest by) hx hy (λ n. absurd (n t));
        one = two_first 3 x y rest bx;
        two = two_second 3 x y rest by;
        last = third_xor s t;
        after = ap (λ (k : ℕ). drop k s) (size_of s 3 8 payload_three t) ∙ two_after 3 x y rest;
      }

  pub node_read : (z ≢ mark → z / 2 < v) → v ≤ 1000000 → NodeRead (node_field x y z ++ rest) v x y z rest
  node_read h m =
      ⊎_elim
      (λ (e : z ≡ mark). rw (← node_xor x y z e, e) xor_read)
      (λ (n : z ≢ mark). rw (← node_majority x y z n) (majority_read (omega (arith, h n)) (h n)))
      (eq_or_ne z mark)

-- an output's field, with the indices below v allowed
pub record OutputRead (s : List ℕ) (v x : ℕ) (rest : List ℕ) : Type 0 where
  pub number : output_field_number s v ≡ 0
  pub one : be4 s 3 ≡ x
  pub after : drop 7 s ≡ rest

pub output_read_lem : (x : ℕ) (rest : List ℕ) (v : ℕ) → x / 2 < v → x < 4294967296 → OutputRead (output_field x ++ rest) v x rest
unfolding output_field_number output_field
output_read_lem x rest v h b =
    let w = single_first 4 x rest b in
    record { number = sym (none _ _ (single_due 4 x rest payload_four) (less _ _ _ _ (rw w h) refl)); one = w; after = single_after 4 x rest }

-- the lock of the node with index u
pub record LockRead (s : List ℕ) (u : ℕ) (rest : List ℕ) : Type 0 where
  pub tag : get_or s 0 0 ≡ 6
  pub number : (low top : ℕ) → low ≤ u → u < top → lock_field_number s low top ≡ 0
  pub one : be4 s 3 ≡ u
  pub after : drop 7 s ≡ rest

pub lock_read : (u : ℕ) (rest : List ℕ) → u < 4294967296 → LockRead (field_of 6 (big 4 u) ++ rest) u rest
unfolding lock_field_number
lock_read u rest b =
    let w = single_first 6 u rest b in
    record {
      tag = single_tag 6 u rest;
      number = λ low top h k. sym (none _ _ (single_due 6 u rest payload_six) (no_less _ _ _ _ (rw w h) (less _ _ _ _ (rw w k) refl)));
      one = w;
      after = single_after 6 u rest;
    }

end_size : be2 (5 ∷ 0 ∷ 0 ∷ []) 1 ≡ 0
unfolding be2
end_size = refl

pub end_read : end_number end_field ≡ 0
unfolding end_number
end_read =
    let d = due_from 5 5 5 0 (5 ∷ 0 ∷ 0 ∷ []) refl (omega arith) (omega arith) payload_five end_size (omega arith) in
    rw end_is (sym (none _ _ d (no_less _ _ _ _ (omega arith) refl)))

pub end_tag : get_or end_field 0 0 ≡ 5
end_tag = rw end_is refl

-- field 01, with tables of a and b words and l lock bytes lent
pub record HeadRead (s : List ℕ) (a b l i n o : ℕ) (rest : List ℕ) : Type 0 where
  pub number : head_number s a b l ≡ 0
  pub inputs : be4 s 3 ≡ i
  pub nodes : be4 s 7 ≡ n
  pub outputs : be4 s 11 ≡ o
  pub after : drop 15 s ≡ rest

pub head_read : (a b l i n o : ℕ) (rest : List ℕ) → Rooms i n o a b l → HeadRead (head_field i n o ++ rest) a b l i n o rest
unfolding head_number head_field
head_read a b l i n o rest m =
    let s : List ℕ = field_of 1 (big 4 i ++ (big 4 n ++ big 4 o)) ++ rest in
    let r = length-append (field_of 1 (big 4 i ++ (big 4 n ++ big 4 o))) rest in
    let k = length_three 1 i n o in
    let ei : be4 s 3 ≡ i = three_first 1 i n o rest (omega arith) in
    let en : be4 s 7 ≡ n = three_second 1 i n o rest (omega arith) in
    let eo : be4 s 11 ≡ o = three_third 1 i n o rest (omega arith) in
    let d = due_from 1 1 1 12 s (three_tag 1 i n o rest) (omega arith) (omega arith) payload_one (three_size 1 i n o rest) (omega arith) in
    record {
      number = sym (none _ _ d (sym (rw (ei, en, eo) (room_none i n o a b l m))));
      inputs = ei;
      nodes = en;
      outputs = eo;
      after = three_after 1 i n o rest;
    }
