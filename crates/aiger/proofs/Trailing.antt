-- Text after the last gate line is not read: what is accepted is imported the same with any bytes behind it. From the laws on numbers and lines.
use Prim.Native.Nat.{ℕ, zero, suc, ◌+◌, ◌-◌, ◌*◌, ◌/◌, ◌%◌, ◌<◌, ◌≤◌}
use mathlib.Core.Path.{◌≡◌, refl, sym, ap, ◌∙◌}
use mathlib.Core.Logic.{⊎_elim}
use mathlib.Core.List.{List, [], ◌∷◌, ◌++◌}
use native.Mathlib.Omega.{arith}
use native.Mathlib.Nat.{not-suc-le-zero, le_of_suc-le-suc}
use lib.ListN.{length, drop, length-drop, get_or-append}
use lib.Seq.{drop-append-le}
use Rattle.graph.specs.Finite.{tab, if_equal}
use Rattle.graph.specs.Literals.{held}
use Rattle.graph.proofs.Answers.{accepted_locked}
use Rattle.graph.proofs.Cases.{lt_or_le}
use Rattle.graph.proofs.Finite.{tab_same}
use Rattle.graph.proofs.Tests.{none, both, all_none, each_none}
use Rattle.aiger.specs.Lines.{if_digit, digits, worth, number, ended_number, next, skip, number_at, line_number}
use Rattle.aiger.specs.Import.{head_i, head_o, head_a, body, aag_number, header_number, input_line_number, output_line_number, gate_line_number, input_lines_number, output_lines_number, gate_lines_number, body_number, import_number, gate_word, graph_imported, import_call}
use Rattle.aiger.specs.Promises.{ImportTrailing}
use Rattle.aiger.proofs.Imported.{skip_add, no_fault}
use Rattle.aiger.proofs.ReadNumber.{is_digit, no_digit}
use Rattle.aiger.proofs.Walk.{high_digit, ended_inside}

-- the number at the front ends before the bytes do, and so do n in a row
abbrev Ends : List ℕ → Type 0
Ends s = digits s < length s

abbrev End : ℕ → List ℕ → Type 0
End n s = (k : ℕ) → k < n → Ends (skip k s)

-- a byte is a digit, or a number ends there
digit_or : (b : ℕ) {P : Type 0} → (48 ≤ b → b < 58 → P) → (((x y : ℕ) → if_digit b x y ≡ y) → P) → P
digit_or b p q =
    ⊎_elim
    (λ (l : b < 48). q (λ x y. no_digit b x y l))
    (λ (l : 48 ≤ b). ⊎_elim (λ (u : b < 58). p l u) (λ (u : 58 ≤ b). q (λ x y. high_digit b x y u)) (lt_or_le b 58))
    (lt_or_le b 48)

-- the bytes t behind it change nothing
module _ (t : List ℕ) where
  inner : (b : ℕ) (s : List ℕ) → 48 ≤ b → b < 58 → Ends (b ∷ s) → Ends s
  unfolding digits
  inner b s l u h = le_of_suc-le-suc (rw (is_digit b (suc (digits s)) 0 l u) at h)

  digits_same : (s : List ℕ) → Ends s → digits (s ++ t) ≡ digits s
  unfolding digits
  digits_same [] h = absurd (not-suc-le-zero h)
  digits_same (b ∷ s) h =
      digit_or b
      (λ l u. ap (λ (m : ℕ). if_digit b (suc m) 0) (digits_same s (inner b s l u h)))
      (λ f. f _ _ ∙ sym (f _ _))

  worth_same : (s : List ℕ) (n : ℕ) → Ends s → worth n (s ++ t) ≡ worth n s
  unfolding worth
  worth_same [] n h = absurd (not-suc-le-zero h)
  worth_same (b ∷ s) n h =
      digit_or b
      (λ l u. ap (λ (m : ℕ). if_digit b m n) (worth_same s (10 * n + (b - 48)) (inner b s l u h)))
      (λ f. f _ _ ∙ sym (f _ _))

  front_same : (s : List ℕ) → Ends s → number (s ++ t) ≡ number s
  unfolding number
  front_same s h = worth_same s 0 h

  next_same : (s : List ℕ) → Ends s → next (s ++ t) ≡ next s ++ t
  unfolding next
  next_same s h = rw (digits_same s h) (drop-append-le (suc (digits s)) s t h)

  ended_same : (end : ℕ) (s : List ℕ) → Ends s → ended_number end (s ++ t) ≡ ended_number end s
  unfolding ended_number
  ended_same end s h = rw (digits_same s h, front_same s h, get_or-append s t 0 (digits s) h, get_or-append s t 0 0 (omega arith))

  skip_same : (n : ℕ) (s : List ℕ) → End n s → skip n (s ++ t) ≡ skip n s ++ t
  skip_same zero s h = refl
  skip_same (suc n) s h = rw (next_same s (h 0 (omega arith))) (skip_same n (next s) (λ k l. h (suc k) (omega arith)))

  number_same : (n : ℕ) (s : List ℕ) → End (suc n) s → number_at (s ++ t) n ≡ number_at s n
  number_same n s h = rw (skip_same n s (λ k l. h k (omega arith))) (front_same (skip n s) (h n (omega arith)))

  -- a line without a fault
  line_same : (n : ℕ) (s : List ℕ) → line_number n s ≡ 0 → line_number n (s ++ t) ≡ line_number n s
  unfolding line_number
  line_same zero s e = ended_same 10 s (ended_inside 10 s (omega arith) e)
  line_same (suc n) s e =
      let f = both _ _ e in
      let h = ended_inside 32 s (omega arith) f.0 in
      rw (ended_same 32 s h, next_same s h, line_same n (next s) f.1)

line_ends : (n : ℕ) (s : List ℕ) → line_number n s ≡ 0 → End (suc n) s
unfolding line_number
line_ends zero s e zero h = ended_inside 10 s (omega arith) e
line_ends zero s e (suc k) h = absurd (omega arith)
line_ends (suc n) s e zero h = ended_inside 32 s (omega arith) (both _ _ e).0
line_ends (suc n) s e (suc k) h = line_ends n (next s) (both _ _ e).1 k (omega arith)

-- a body without a fault
module _ (s : List ℕ) (i n o : ℕ) (e : body_number s i n o ≡ 0) where
  input_line_lem : (k : ℕ) → k < i → input_line_number (skip k s) k ≡ 0
  unfolding body_number input_lines_number
  input_line_lem k h = each_none i _ (both _ _ e).0 k h

  output_line_lem : (j : ℕ) → j < o → output_line_number (skip j (skip i s)) (i + 1 + n) ≡ 0
  unfolding body_number output_lines_number
  output_line_lem j h = each_none o _ (both _ _ (both _ _ e).1).0 j h

  gate_line : (q : ℕ) → q < n → gate_line_number (skip (3 * q) (skip (i + o) s)) (i + 1 + q) ≡ 0
  unfolding body_number gate_lines_number
  gate_line q h = each_none n _ (both _ _ (both _ _ e).1).1 q h

  input_fine : (k : ℕ) → k < i → line_number 0 (skip k s) ≡ 0
  unfolding input_line_number
  input_fine k h = (both _ _ (input_line_lem k h)).0

  output_fine : (j : ℕ) → j < o → line_number 0 (skip j (skip i s)) ≡ 0
  unfolding output_line_number
  output_fine j h = (both _ _ (output_line_lem j h)).0

  gate_fine : (q : ℕ) → q < n → line_number 2 (skip (3 * q) (skip (i + o) s)) ≡ 0
  unfolding gate_line_number
  gate_fine q h = (both _ _ (gate_line q h)).0

  -- all its numbers end
  gate_ends : (k : ℕ) → i + o ≤ k → k < i + o + 3 * n → Ends (skip k s)
  gate_ends k a h =
      let m = k - (i + o) in
      let q = m / 3 in
      let f : i + o + (3 * q + m % 3) ≡ k = omega arith in
      let g = line_ends 2 (skip (3 * q) (skip (i + o) s)) (gate_fine q (omega arith)) (m % 3) (omega arith) in
      rw (skip_add (3 * q) (m % 3) (skip (i + o) s), skip_add (i + o) (3 * q + m % 3) s, f) at g

  all_ends : End (i + o + 3 * n) s
  all_ends k h =
      ⊎_elim
      (λ (a : k < i). line_ends 0 (skip k s) (input_fine k a) 0 (omega arith))
      (λ (a : i ≤ k).
      ⊎_elim
      (λ (b : k < i + o).
      let f : i + (k - i) ≡ k = omega arith in
      rw (skip_add i (k - i) s, f) at (line_ends 0 (skip (k - i) (skip i s)) (output_fine (k - i) (omega arith)) 0 (omega arith)))
      (λ (b : i + o ≤ k). gate_ends k b h)
      (lt_or_le k (i + o)))
      (lt_or_le k i)

  -- and it has none with more bytes behind it
  module _ (t : List ℕ) where
    from : (m : ℕ) → m ≤ i + o + 3 * n → skip m (s ++ t) ≡ skip m s ++ t
    from m h = skip_same t m s (λ k l. all_ends k (omega arith))

    input_more : (k : ℕ) → k < i → input_line_number (skip k (s ++ t)) k ≡ 0
    unfolding input_line_number
    input_more k h =
        rw (from k (omega arith), line_same t 0 (skip k s) (input_fine k h), front_same t (skip k s) (all_ends k (omega arith))) (input_line_lem k h)

    output_more : (j : ℕ) → j < o → output_line_number (skip j (skip i (s ++ t))) (i + 1 + n) ≡ 0
    unfolding output_line_number
    output_more j h =
        let u = skip j (skip i s) in
        let f : skip j (skip i (s ++ t)) ≡ u ++ t = skip_add i j (s ++ t) ∙ from (i + j) (omega arith) ∙ ap (λ (l : List ℕ). l ++ t) (sym (skip_add i j s)) in
        rw (f, line_same t 0 u (output_fine j h), front_same t u (line_ends 0 u (output_fine j h) 0 (omega arith))) (output_line_lem j h)

    gate_more : (q : ℕ) → q < n → gate_line_number (skip (3 * q) (skip (i + o) (s ++ t))) (i + 1 + q) ≡ 0
    unfolding gate_line_number
    gate_more q h =
        let u = skip (3 * q) (skip (i + o) s) in
        let l = line_ends 2 u (gate_fine q h) in
        let f : skip (3 * q) (skip (i + o) (s ++ t)) ≡ u ++ t =
        skip_add (i + o) (3 * q) (s ++ t) ∙ from (i + o + 3 * q) (omega arith) ∙ ap (λ (l : List ℕ). l ++ t) (sym (skip_add (i + o) (3 * q) s)) in
        rw (
          f,
          line_same t 2 u (gate_fine q h),
          front_same t u (l 0 (omega arith)),
          number_same t 1 u (λ k a. l k (omega arith)),
          number_same t 2 u (λ k a. l k (omega arith)),
        )
        (gate_line q h)

    body_more : body_number (s ++ t) i n o ≡ 0
    unfolding body_number input_lines_number output_lines_number gate_lines_number
    body_more =
        sym (none _ _ (all_none i _ input_more) (none _ _ (all_none o _ output_more) (sym (all_none n _ gate_more))))

    pub number_more : (m : ℕ) → m < i + o + 3 * n → number_at (s ++ t) m ≡ number_at s m
    number_more m h = number_same t m s (λ k l. all_ends k (omega arith))

-- a header without a fault
module _ (s : List ℕ) (a b l : ℕ) (e : header_number s a b l ≡ 0) (t : List ℕ) where
  head_fine : line_number 4 (drop 4 s) ≡ 0
  unfolding header_number
  head_fine = (both _ _ (both _ _ e).1).0

  head_ends : End 5 (drop 4 s)
  head_ends = line_ends 4 (drop 4 s) head_fine

  long : 4 < length s
  long = omega (arith, length-drop 4 s, head_ends 0 (omega arith))

  after : drop 4 (s ++ t) ≡ drop 4 s ++ t
  after = drop-append-le 4 s t (omega (arith, long))

  aag_same : aag_number (s ++ t) ≡ aag_number s
  unfolding aag_number
  aag_same =
      let h = long in
      rw (get_or-append s t 0 0 (omega arith), get_or-append s t 0 1 (omega arith), get_or-append s t 0 2 (omega arith), get_or-append s t 0 3 (omega arith))

  said : (k : ℕ) → k ≤ 4 → number_at (drop 4 (s ++ t)) k ≡ number_at (drop 4 s) k
  said k h = rw after (number_same t k (drop 4 s) (λ j m. head_ends j (omega arith)))

  pub body_is : body (s ++ t) ≡ body s ++ t
  body_is = rw after (skip_same t 5 (drop 4 s) head_ends)

  header_same : header_number (s ++ t) a b l ≡ header_number s a b l
  unfolding header_number
  header_same =
      rw (
        aag_same,
        said 0 (omega arith),
        said 1 (omega arith),
        said 2 (omega arith),
        said 3 (omega arith),
        said 4 (omega arith),
        after,
        line_same t 4 (drop 4 s) head_fine,
      )

-- the whole text
module _ (s ns os ls : List ℕ) (e : (import_call s ns os ls).answer.number ≡ 0) (t : List ℕ) where
  fault_free : import_number s (held ns) (held os) (length ls) ≡ 0
  fault_free = no_fault s ns os ls e

  head_none : header_number s (held ns) (held os) (length ls) ≡ 0
  unfolding import_number
  head_none = (both _ _ fault_free).0

  body_none : body_number (body s) (head_i s) (head_a s) (head_o s) ≡ 0
  unfolding import_number
  body_none = (both _ _ fault_free).1

  number_is : (k : ℕ) → k ≤ 4 → number_at (drop 4 (s ++ t)) k ≡ number_at (drop 4 s) k
  number_is k h = said s (held ns) (held os) (length ls) head_none t k h

  rest_is : body (s ++ t) ≡ body s ++ t
  rest_is = body_is s (held ns) (held os) (length ls) head_none t

  more : import_number (s ++ t) (held ns) (held os) (length ls) ≡ 0
  unfolding import_number
  more =
      sym (none _ _ (header_same s (held ns) (held os) (length ls) head_none t ∙ head_none)
      (sym (rw (rest_is, number_is 1 (omega arith), number_is 3 (omega arith), number_is 4 (omega arith)) (body_more (body s) (head_i s) (head_a s) (head_o s) body_none t))))

  word_is : (m : ℕ) → m < head_i s + head_o s + 3 * head_a s → number_at (body s ++ t) m ≡ number_at (body s) m
  word_is m h = number_more (body s) (head_i s) (head_a s) (head_o s) body_none t m h

  gates_are : tab (3 * head_a s) (gate_word (body s ++ t) (head_i s + head_o s)) ≡ tab (3 * head_a s) (gate_word (body s) (head_i s + head_o s))
  unfolding gate_word
  gates_are = tab_same (3 * head_a s) _ _ (λ j h. ap (if_equal (j % 3) 0 0) (word_is (head_i s + head_o s + j) (omega arith)))

  outputs_are : tab (head_o s) (λ j. number_at (body s ++ t) (head_i s + j)) ≡ tab (head_o s) (λ j. number_at (body s) (head_i s + j))
  outputs_are = tab_same (head_o s) _ _ (λ j h. word_is (head_i s + j) (omega arith))

  graph_is : graph_imported (s ++ t) ns os ≡ graph_imported s ns os
  unfolding graph_imported
  graph_is = rw (rest_is, number_is 1 (omega arith), number_is 3 (omega arith), number_is 4 (omega arith), gates_are, outputs_are)

  not_read : import_call (s ++ t) ns os ls ≡ import_call s ns os ls
  unfolding import_call
  not_read = sym (accepted_locked _ _ _ _ more) ∙ rw (number_is 1 (omega arith), number_is 3 (omega arith), number_is 4 (omega arith), graph_is) (accepted_locked _ _ _ _ fault_free)

pub import_trailing : (s t ns os ls : List ℕ) → ImportTrailing s t ns os ls
import_trailing s t ns os ls e = not_read s ns os ls e t
