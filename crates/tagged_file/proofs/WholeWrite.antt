-- The whole of writing: the file's length, the parts that are stored one after another, and the answers. From the laws on runs of stores.
use Prim.Native.Nat.{ℕ, zero, suc, ◌+◌, ◌*◌, ◌-◌, ◌<◌, ◌≤◌}
use mathlib.Core.Path.{◌≡◌, refl, ap, ◌∙◌}
use mathlib.Core.List.{List, [], ◌∷◌, ◌++◌, append_assoc}
use native.Mathlib.Nat.{mul-suc}
use native.Mathlib.Omega.{arith}
use mathlib.Core.Logic.{⊎_elim, ◌≢◌}
use borrow.Author.Tests.{eq-eqb, ne_eqb}
use Rattle.std.proofs.Common.{◌==◌, count_by}
use lib.ListN.{length, get_or, take, length-append}
use lib.Seq.{sets}
use native.Mathlib.Numerals.{add-one}
use Rattle.std.proofs.lemmas.List.Sums.{count_by_more_yes, count_by_more_no}
use Rattle.graph.proofs.Cases.{eq_or_ne}
use Rattle.graph.specs.Graph.{Graph}
use Rattle.std.proofs.Common.{Result}
use Rattle.std.specs.Result.{IsErrAnd}
use Rattle.std.proofs.lemmas.Result.{err_from_is_err_and}
use Rattle.graph.specs.Admission.{admission_number}
use Rattle.graph.specs.Answer.{accepted, refused, number_of}
use Rattle.graph.specs.declared.Refusal.{Refusal}
use Rattle.graph.proofs.Tests.{both, off}
use Rattle.graph.proofs.Answers.{number_some}
use Rattle.tagged_file.specs.Write.{big, field_of, head_field, end_field, node_field_at, output_field_at, lock_field_at, in_order, file_of, write_number, written_answer, write_outcome, write_by, write_call}
use Rattle.tagged_file.proofs.Stores.{front, in_a_row}
use Rattle.tagged_file.proofs.FieldBytes.{length_node_most, length_output_at, length_lock_at, length_locked, length_free, end_is}
use Rattle.tagged_file.proofs.Emitted.{in_order_next, in_order_none, in_order_last}

pub length_outputs : (os : List ℕ) (v n : ℕ) → length (in_order (output_field_at os) v n) ≡ 7 * n
length_outputs os v zero = refl
length_outputs os v (suc n) = omega (arith, length-append (output_field_at os v) (in_order (output_field_at os) (v + 1) n), length_output_at os v, length_outputs os (v + 1) n)

length_head : (i n o : ℕ) → length (head_field i n o) ≡ 15
unfolding head_field field_of big
length_head i n o = refl

length_end : length end_field ≡ 3
unfolding end_field field_of big
length_end = refl

-- the file's length, by its parts
pub length_file : (g : Graph) (ls : List ℕ)
    → length (file_of g ls) ≡ 18 + length (in_order (node_field_at g.nodes) 0 g.N) + 7 * g.O + length (in_order (lock_field_at (g.I + 1) ls) 0 g.N)
unfolding file_of
length_file g ls =
    let ns : List ℕ = in_order (node_field_at g.nodes) 0 g.N in
    let os : List ℕ = in_order (output_field_at g.outputs) 0 g.O in
    let ks : List ℕ = in_order (lock_field_at (g.I + 1) ls) 0 g.N in
    omega (
      arith,
      length-append (head_field g.I g.N g.O) (ns ++ (os ++ (ks ++ end_field))),
      length-append ns (os ++ (ks ++ end_field)),
      length-append os (ks ++ end_field),
      length-append ks end_field,
      length_head g.I g.N g.O,
      length_end,
      length_outputs g.outputs 0 g.O,
    )

-- as long as it may be
pub length_most : (f : ℕ → List ℕ) (m v n : ℕ) → ((j : ℕ) → j < v + n → length (f j) ≤ m) → length (in_order f v n) ≤ m * n
length_most f m v zero h = omega arith
length_most f m v (suc n) h =
    omega (arith, length-append (f v) (in_order f (v + 1) n), h v (omega arith), length_most f m (v + 1) n (λ j k. h j (omega arith)), mul-suc m n)

pub file_most : (g : Graph) (ls : List ℕ) → length (file_of g ls) ≤ 18 + 22 * g.N + 7 * g.O
file_most g ls =
    omega (
      arith,
      length_file g ls,
      length_most (node_field_at g.nodes) 15 0 g.N (λ v h. length_node_most g.nodes v),
      length_most (lock_field_at (g.I + 1) ls) 7 0 g.N (λ v h. length_lock_at (g.I + 1) ls v),
    )

-- lengths added up: one part further on, of n, and at the end
pub size_start : (f : ℕ → List ℕ) (n : ℕ) → 0 + length (in_order f 0 (n - 0)) ≡ length (in_order f 0 n)
size_start f n = let e : n - 0 ≡ n = omega arith in omega (arith, ap (λ (k : ℕ). length (in_order f 0 k)) e)

pub size_more : (f : ℕ → List ℕ) (m size size' v n : ℕ) → v < n → size + length (in_order f v (n - v)) ≡ m → size' ≡ size + length (f v)
    → size' + length (in_order f (v + 1) (n - (v + 1))) ≡ m
size_more f m size size' v n h e q = omega (arith, ap length (in_order_next f v n h), length-append (f v) (in_order f (v + 1) (n - (v + 1))))

pub size_none : (f : ℕ → List ℕ) (m size v n : ℕ) → n ≤ v → size + length (in_order f v (n - v)) ≡ m → size ≡ m
size_none f m size v n h e = omega (arith, ap length (in_order_none f v n h))

-- of the locks, by how many nodes are locked
pub length_locks : (i : ℕ) (ls : List ℕ) (n : ℕ) → n ≤ length ls → length (in_order (lock_field_at i ls) 0 n) ≡ 7 * count_by (λ b. b == 1) (take n ls)
unfolding lock_field_at
length_locks i ls zero h = refl
length_locks i ls (suc n) h =
    let z : 0 + n ≡ n = omega arith in
    let a = rw z at (ap length (in_order_last (lock_field_at i ls) 0 n)) in
    let b = length-append (in_order (lock_field_at i ls) 0 n) (lock_field_at i ls n) in
    let r = length_locks i ls n (omega arith) in
    ⊎_elim
    (λ (p : get_or ls n 0 ≡ 1).
    let m = rw (add-one n) at (count_by_more_yes (λ b. b == 1) ls n 0 h (eq-eqb (get_or ls n 0) 1 p)) in
    omega (arith, length_locked (get_or ls n 0) (i + n) p))
    (λ (q : get_or ls n 0 ≢ 1).
    let m = rw (add-one n) at (count_by_more_no (λ b. b == 1) ls n 0 h (ne_eqb (get_or ls n 0) 1 q)) in
    omega (arith, length_free (get_or ls n 0) (i + n) q))
    (eq_or_ne (get_or ls n 0) 1)

-- the parts of the file, stored one after another
head_is : (i n o : ℕ) → head_field i n o ≡ field_of 1 (big 4 i ++ (big 4 n ++ big 4 o))
unfolding head_field
head_is i n o = refl

assembled : (g : Graph) (ls : List ℕ)
    → (((head_field g.I g.N g.O ++ in_order (node_field_at g.nodes) 0 g.N) ++ in_order (output_field_at g.outputs) 0 g.O)
    ++ in_order (lock_field_at (g.I + 1) ls) 0 g.N) ++ end_field ≡ file_of g ls
unfolding file_of
assembled g ls = simp append_assoc

-- a part that is put: the place after it, and the bytes
abbrev Put : List ℕ → List ℕ → List ℕ → ℕ → ℕ → Type 0
Put part t t' at end = (end ≡ at + length part) × (t' ≡ sets t at part)

pub file_stored : (g : Graph) (ls t t₁ t₂ t₃ t₄ t₅ : List ℕ) (second third end : ℕ)
    → t₁ ≡ sets t 0 (field_of 1 (big 4 g.I ++ (big 4 g.N ++ big 4 g.O))) → Put (in_order (node_field_at g.nodes) 0 g.N) t₁ t₂ 15 second
    → Put (in_order (output_field_at g.outputs) 0 g.O) t₂ t₃ second third → Put (in_order (lock_field_at (g.I + 1) ls) 0 g.N) t₃ t₄ third end
    → t₅ ≡ sets t₄ end (5 ∷ 0 ∷ 0 ∷ []) → (end + 3 ≡ length (file_of g ls)) × (t₅ ≡ sets t 0 (file_of g ls))
file_stored g ls t t₁ t₂ t₃ t₄ t₅ second third end e₁ p₂ p₃ p₄ e₅ =
    let lh = length_head g.I g.N g.O in
    let le = length_end in
    let h : List ℕ = head_field g.I g.N g.O in
    let ns : List ℕ = in_order (node_field_at g.nodes) 0 g.N in
    let os : List ℕ = in_order (output_field_at g.outputs) 0 g.O in
    let ks : List ℕ = in_order (lock_field_at (g.I + 1) ls) 0 g.N in
    let r₂ = in_a_row t t₁ t₂ h ns 0 15 second (omega arith, rw head_is e₁) p₂ in
    let r₃ = in_a_row t t₂ t₃ (h ++ ns) os 0 second third r₂ p₃ in
    let r₄ = in_a_row t t₃ t₄ ((h ++ ns) ++ os) ks 0 third end r₃ p₄ in
    let r₅ = in_a_row t t₄ t₅ (((h ++ ns) ++ os) ++ ks) end_field 0 end (end + 3) r₄ (omega arith, rw end_is e₅) in
    let a = assembled g ls in
    (omega (arith, ap length a), r₅.1 ∙ ap (sets t 0) a)

-- what an accepted graph and buffer have
pub write_passed : (g : Graph) (ls : List ℕ) (room : ℕ) → write_number g ls room ≡ 0 → (admission_number g ls ≡ 0) × (length (file_of g ls) ≤ room)
unfolding write_number
write_passed g ls room e = let b = both _ _ e in (b.0, (off _ _ _ _ b.1).0)

-- the answers, of anything that is written: refused by k, and with no fault
pub by_refused : (r : Result ℕ Refusal) (x : Refusal) (k : ℕ) (file b : List ℕ) → IsErrAnd r (λ y. y ≡ x) → number_of x ≡ k → write_outcome (written_answer r) b ≡ write_by k file b
by_refused r x k file b e n =
    let p = err_from_is_err_and r e in
    rw (p.1, p.2) (by_number (number_of x) k file b n (λ z. number_some x (n ∙ z)))
  where
    by_number : (j k : ℕ) (file b : List ℕ) → j ≡ k → (k ≡ 0 → ⊥) → write_outcome (refused j) b ≡ write_by k file b
    by_number j zero file b e n = absurd (n refl)
    by_number j (suc k) file b e n = ap (λ (i : ℕ). write_outcome (refused i) b) e

pub by_accepted : (k n : ℕ) (file b b' : List ℕ) → k ≡ 0 → n ≡ length file → b' ≡ sets b 0 file → length file ≤ length b
    → write_outcome (accepted (n ∷ [])) b' ≡ write_by k file b
by_accepted k n file b b' z en eb h = rw (z, en, eb, front file b (length file) refl h) refl

pub write_refused : (r : Result ℕ Refusal) (x : Refusal) (g : Graph) (ls b : List ℕ) → IsErrAnd r (λ y. y ≡ x) → number_of x ≡ write_number g ls (length b)
    → write_outcome (written_answer r) b ≡ write_call g ls b
unfolding write_call
write_refused r x g ls b e n = by_refused r x _ (file_of g ls) b e n

pub write_accepted : (n : ℕ) (g : Graph) (ls b b' : List ℕ) → write_number g ls (length b) ≡ 0 → n ≡ length (file_of g ls) → b' ≡ sets b 0 (file_of g ls)
    → write_outcome (accepted (n ∷ [])) b' ≡ write_call g ls b
unfolding write_call
write_accepted n g ls b b' z en eb = by_accepted _ n (file_of g ls) b b' z en eb (write_passed g ls (length b) z).1
