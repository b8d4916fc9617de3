-- An accepted field is, byte for byte, the field of what is read from it. From the laws on big-endian numbers and on tests.
use Prim.Native.Nat.{ℕ, ◌+◌, ◌/◌, ◌<◌, ◌≤◌}
use mathlib.Core.Path.{◌≡◌, refl, sym, ap, ◌∙◌}
use mathlib.Core.Logic.{◌⊎◌, inl, inr, ⊎_elim, ◌≢◌}
use mathlib.Core.List.{List, [], ◌∷◌, ◌++◌, append_assoc}
use native.Mathlib.Omega.{arith}
use lib.ListN.{length, get_or, drop, drop_of_length-le}
use Rattle.graph.specs.Graph.{mark}
use Rattle.graph.proofs.Cases.{eq_or_ne}
use Rattle.graph.proofs.Tests.{equal, unequal, both, on, off}
use Rattle.file_checks.specs.File.{be2, be4, payload_of, node_size, third, due_number, head_number, node_field_number, output_field_number, lock_field_number, end_number}
use Rattle.tagged_file.specs.Write.{big, field_of, head_field, node_field, output_field, end_field}
use Rattle.tagged_file.specs.Promises.{Bytes}
use Rattle.tagged_file.proofs.BigEndian.{next, four_bytes}
use Rattle.tagged_file.proofs.FieldBytes.{node_xor, node_majority, end_is}
use Rattle.file_checks.proofs.Checked.{due_is, size_at, payload_one, payload_two, payload_three, payload_four, payload_five, payload_six}

-- fields written out
three_is : (tag x y z : ℕ) → field_of tag (big 4 x ++ (big 4 y ++ big 4 z)) ≡ tag ∷ 0 ∷ 12 ∷ (big 4 x ++ (big 4 y ++ big 4 z))
unfolding field_of big
three_is tag x y z = refl

two_is : (tag x y : ℕ) → field_of tag (big 4 x ++ big 4 y) ≡ tag ∷ 0 ∷ 8 ∷ (big 4 x ++ big 4 y)
unfolding field_of big
two_is tag x y = refl

single_is : (tag x : ℕ) → field_of tag (big 4 x) ≡ tag ∷ 0 ∷ 4 ∷ big 4 x
unfolding field_of big
single_is tag x = refl

-- the head of an accepted field
pub head_bytes : (s : List ℕ) (tag size : ℕ) → 3 ≤ length s → get_or s 0 0 ≡ tag → be2 s 1 ≡ size → size < 256 → s ≡ tag ∷ 0 ∷ size ∷ drop 3 s
unfolding be2
head_bytes s tag size l t e h =
    let n₀ = next s 0 1 refl (omega arith) in
    let n₁ = next s 1 2 refl (omega arith) in
    let n₂ = next s 2 3 refl (omega arith) in
    let z : get_or s 1 0 ≡ 0 = omega arith in
    let w : get_or s 2 0 ≡ size = omega arith in
    n₀ ∙ rw (n₁, n₂, t, z, w)

module _ (s : List ℕ) (h : Bytes s) where
  three_back : (tag : ℕ) → 15 ≤ length s → get_or s 0 0 ≡ tag → be2 s 1 ≡ 12
      → s ≡ field_of tag (big 4 (be4 s 3) ++ (big 4 (be4 s 7) ++ big 4 (be4 s 11))) ++ drop 15 s
  three_back tag l t e =
      head_bytes s tag 12 (omega arith) t e (omega arith)
      ∙ rw (four_bytes s 3 h (omega arith), four_bytes s 7 h (omega arith), four_bytes s 11 h (omega arith), three_is, append_assoc, append_assoc)

  two_back : (tag : ℕ) → 11 ≤ length s → get_or s 0 0 ≡ tag → be2 s 1 ≡ 8 → s ≡ field_of tag (big 4 (be4 s 3) ++ big 4 (be4 s 7)) ++ drop 11 s
  two_back tag l t e =
      head_bytes s tag 8 (omega arith) t e (omega arith) ∙ rw (four_bytes s 3 h (omega arith), four_bytes s 7 h (omega arith), two_is, append_assoc)

  single_back : (tag : ℕ) → payload_of tag ≡ 4 → due_number tag tag s ≡ 0 → s ≡ field_of tag (big 4 (be4 s 3)) ++ drop 7 s
  single_back tag p e =
      let d = due_is tag tag s e in
      let t : get_or s 0 0 ≡ tag = omega arith in
      let q = size_at (get_or s 0 0) tag 4 p t in
      head_bytes s tag 4 d.head t (d.size ∙ q) (omega arith) ∙ rw (four_bytes s 3 h (omega arith), single_is)

-- what an accepted node field is: a majority's or an XOR's
pub record Majority (s : List ℕ) (v : ℕ) : Type 0 where
  pub tag : get_or s 0 0 ≡ 2
  pub room : 15 ≤ length s
  pub length_is : be2 s 1 ≡ 12
  pub size : node_size s ≡ 15
  pub third_is : third s ≡ be4 s 11
  pub below : third s / 2 < v

pub record Xor (s : List ℕ) : Type 0 where
  pub tag : get_or s 0 0 ≡ 3
  pub room : 11 ≤ length s
  pub length_is : be2 s 1 ≡ 8
  pub size : node_size s ≡ 11
  pub third_is : third s ≡ mark

pub record NodeAccepted (s : List ℕ) (v : ℕ) : Type 0 where
  pub one : be4 s 3 / 2 < v
  pub two : be4 s 7 / 2 < v
  pub kind : Majority s v ⊎ Xor s

pub third_majority : (s : List ℕ) → (get_or s 0 0 ≡ 3 → ⊥) → third s ≡ be4 s 11
unfolding third
third_majority s n = sym (unequal _ _ _ _ n refl)

pub third_xor : (s : List ℕ) → get_or s 0 0 ≡ 3 → third s ≡ mark
unfolding third
third_xor s e = sym (equal _ _ _ _ e refl)

pub size_of : (s : List ℕ) (tag n : ℕ) → payload_of tag ≡ n → get_or s 0 0 ≡ tag → node_size s ≡ 3 + n
unfolding node_size
size_of s tag n e t = ap (λ (k : ℕ). 3 + k) (size_at (get_or s 0 0) tag n e t)

pub node_accepted : (s : List ℕ) (v : ℕ) → node_field_number s v ≡ 0 → NodeAccepted s v
unfolding node_field_number
node_accepted s v e =
    let f = both _ _ e in
    let d = due_is 2 3 s f.0 in
    let x = on _ _ _ _ f.1 in
    let y = on _ _ _ _ x.1 in
    let majority : (get_or s 0 0 ≡ 3 → ⊥) → Majority s v =
    λ n.
    let t : get_or s 0 0 ≡ 2 = omega arith in
    let p = size_at (get_or s 0 0) 2 12 payload_two t in
    let z = on _ _ _ _ (unequal _ _ _ _ n refl ∙ y.1) in
    let q = third_majority s n in
    record { tag = t; room = omega arith; length_is = d.size ∙ p; size = size_of s 2 12 payload_two t; third_is = q; below = rw q z.0 } in
    let xor : get_or s 0 0 ≡ 3 → Xor s =
    λ t.
    let p = size_at (get_or s 0 0) 3 8 payload_three t in
    record { tag = t; room = omega arith; length_is = d.size ∙ p; size = size_of s 3 8 payload_three t; third_is = third_xor s t } in
    record { one = x.0; two = y.0; kind = ⊎_elim (λ (t : get_or s 0 0 ≡ 3). inr (xor t)) (λ (n : get_or s 0 0 ≢ 3). inl (majority n)) (eq_or_ne (get_or s 0 0) 3) }

-- an accepted field is, byte for byte, the field of what is read from it; an index has less than 31 bits, so that no majority's literal is the mark
pub node_back : (s : List ℕ) (v : ℕ) → Bytes s → v < 2147483648 → node_field_number s v ≡ 0 → s ≡ node_field (be4 s 3) (be4 s 7) (third s) ++ drop (node_size s) s
node_back s v h l e =
    let a = node_accepted s v e in
    ⊎_elim
    (λ (m : Majority s v).
    let n : third s ≡ mark → ⊥ = λ q. omega (arith, m.below) in
    rw (← node_majority (be4 s 3) (be4 s 7) (third s) n, m.size, m.third_is) (three_back s h 2 m.room m.tag m.length_is))
    (λ (x : Xor s).
    rw (← node_xor (be4 s 3) (be4 s 7) (third s) x.third_is, x.size) (two_back s h 3 x.room x.tag x.length_is))
    a.kind

pub output_back : (s : List ℕ) (v : ℕ) → Bytes s → output_field_number s v ≡ 0 → s ≡ output_field (be4 s 3) ++ drop 7 s
unfolding output_field_number output_field
output_back s v h e = single_back s h 4 payload_four (both _ _ e).0

pub lock_back : (s : List ℕ) (low top : ℕ) → Bytes s → lock_field_number s low top ≡ 0 → s ≡ field_of 6 (big 4 (be4 s 3)) ++ drop 7 s
unfolding lock_field_number
lock_back s low top h e = single_back s h 6 payload_six (both _ _ e).0

pub head_back : (s : List ℕ) (a b l : ℕ) → Bytes s → head_number s a b l ≡ 0 → s ≡ head_field (be4 s 3) (be4 s 7) (be4 s 11) ++ drop 15 s
unfolding head_number head_field
head_back s a b l h e =
    let d = due_is 1 1 s (both _ _ e).0 in
    let t : get_or s 0 0 ≡ 1 = omega arith in
    let p = size_at (get_or s 0 0) 1 12 payload_one t in
    three_back s h 1 (omega arith) t (d.size ∙ p)

pub end_back : (s : List ℕ) → end_number s ≡ 0 → s ≡ end_field
unfolding end_number
end_back s e =
    let f = both _ _ e in
    let d = due_is 5 5 s f.0 in
    let t : get_or s 0 0 ≡ 5 = omega arith in
    let p = size_at (get_or s 0 0) 5 0 payload_five t in
    let l = (off _ _ _ _ f.1).0 in
    let r : drop 3 s ≡ [] = drop_of_length-le s l in
    head_bytes s 5 0 d.head t (d.size ∙ p) (omega arith) ∙ rw (r, end_is)
