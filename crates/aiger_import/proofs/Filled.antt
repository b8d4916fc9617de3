-- The fill pass: numbers that are known to be there, and tables filled from the front. From the laws on lines and on filled tables.
use Prim.Native.Nat.{ℕ, suc, ◌+◌, ◌-◌, ◌*◌, ◌%◌, ◌≤◌, ◌<◌}
use mathlib.Core.Path.{◌≡◌, sym, ap, ◌∙◌}
use mathlib.Core.List.{List, [], ◌∷◌}
use native.Mathlib.Omega.{arith}
use native.Mathlib.Numerals.{add-one}
use lib.ListN.{length, take, drop, length-drop}
use lib.Seq.{drop-drop}
use Rattle.file_checks.proofs.Checked.{rest}
use Rattle.graph.specs.Finite.{tab, if_equal}
use Rattle.graph.specs.Inner.{word_put, words_put}
use Rattle.graph.specs.Literals.{filled}
use Rattle.graph.proofs.Filled.{put_tab}
use Rattle.graph.proofs.Finite.{tab_same}
use Rattle.aiger.specs.Lines.{digits, number, next, skip, number_at}
use Rattle.aiger.specs.Import.{gate_word}
use Rattle.aiger.proofs.Imported.{skip_add, word_zero, word_other}
use Rattle.aiger_import.specs.Reading.{NumberThere}

-- past a number that is there
module _ (s : List ℕ) (size : ℕ) (t : NumberThere s) (e : size ≡ suc (digits s)) where
  pub there : size ≤ length s
  there = omega (arith, t.within)

  pub after : drop size s ≡ skip 1 s
  unfolding next
  after = rw e

-- past one, two and three of them
module _ (s : List ℕ) (three : (k : ℕ) → k ≤ 2 → NumberThere (skip k s)) (a : ℕ) (p : a ≡ suc (digits s)) where
  pub one_there : a ≤ length s
  one_there = there s a (three 0 (omega arith)) p

  one_after : drop a s ≡ skip 1 s
  one_after = after s a (three 0 (omega arith)) p

  pub one_part : take (length s - a) (drop a s) ≡ skip 1 s
  one_part = rest a s ∙ one_after

  module _ (b : ℕ) (q : b ≡ suc (digits (take (length s - a) (drop a s)))) where
    second : b ≡ suc (digits (skip 1 s))
    second = q ∙ ap (λ (l : List ℕ). suc (digits l)) one_part

    pub two_there : a + b ≤ length s
    two_there = let e = ap length one_after in omega (arith, length-drop a s, one_there, there (skip 1 s) b (three 1 (omega arith)) second)

    two_after : drop (a + b) s ≡ skip 2 s
    two_after = sym (drop-drop b a s) ∙ ap (drop b) one_after ∙ after (skip 1 s) b (three 1 (omega arith)) second

    pub two_part : take (length s - (a + b)) (drop (a + b) s) ≡ skip 2 s
    two_part = rest (a + b) s ∙ two_after

    module _ (c : ℕ) (r : c ≡ suc (digits (take (length s - (a + b)) (drop (a + b) s)))) where
      last : c ≡ suc (digits (skip 2 s))
      last = r ∙ ap (λ (l : List ℕ). suc (digits l)) two_part

      pub three_there : a + b + c ≤ length s
      three_there = let e = ap length two_after in omega (arith, length-drop (a + b) s, two_there, there (skip 2 s) c (three 2 (omega arith)) last)

      pub three_after : drop (a + b + c) s ≡ skip 3 s
      three_after = sym (drop-drop c (a + b) s) ∙ ap (drop c) two_after ∙ after (skip 2 s) c (three 2 (omega arith)) last

-- past one more line of n numbers
pub past : (bytes s t : List ℕ) (m n size m' : ℕ) → s ≡ skip m bytes → t ≡ drop size s → drop size s ≡ skip n s → m + n ≡ m' → t ≡ skip m' bytes
past bytes s t m n size m' p q e w = q ∙ e ∙ ap (skip n) p ∙ skip_add m n bytes ∙ ap (λ (i : ℕ). skip i bytes) w

-- one output, and the words of one gate
module _ (bytes l t s : List ℕ) where
  pub output_next : (j : ℕ) → j < length l → s ≡ skip j bytes → t ≡ filled (tab j (number_at bytes)) l → word_put j (number s) t ≡ filled (tab (j + 1) (number_at bytes)) l
  output_next j h p e = rw (add-one j, e, p) (put_tab j (number_at bytes) l h)

  gate_word_lem : (k d : ℕ) → s ≡ skip (3 * k) bytes → (d % 3 ≡ 0 → ⊥) → number_at s d ≡ gate_word bytes 0 (3 * k + d)
  gate_word_lem k d p n =
      let q : 0 + (3 * k + d) ≡ 3 * k + d = omega arith in
      rw p (ap number (skip_add (3 * k) d bytes)) ∙ ap (number_at bytes) (sym q) ∙ sym (word_other bytes 0 (3 * k + d) (λ z. n (omega arith)))

  pub gate_next : (k : ℕ) → 3 * k + 3 ≤ length l → s ≡ skip (3 * k) bytes → t ≡ filled (tab (3 * k) (gate_word bytes 0)) l
      → words_put (3 * k) (0 ∷ number_at s 1 ∷ number_at s 2 ∷ []) t ≡ filled (tab (3 * (k + 1)) (gate_word bytes 0)) l
  gate_next k h p e =
      let f : ℕ → ℕ = gate_word bytes 0 in
      let n : ℕ = 3 * k in
      let s₁ : n + 1 ≡ suc n = omega arith in
      let s₂ : n + 2 ≡ suc (suc n) = omega arith in
      let s₃ : 3 * (k + 1) ≡ suc (suc (suc n)) = omega arith in
      let x : 0 ≡ f n = sym (word_zero bytes 0 n (omega arith)) in
      let y : number_at s 1 ≡ f (suc n) = rw s₁ at (gate_word_lem k 1 p (λ z. omega arith)) in
      let z : number_at s 2 ≡ f (suc (suc n)) = rw s₂ at (gate_word_lem k 2 p (λ z. omega arith)) in
      let a : word_put n 0 t ≡ filled (tab (suc n) f) l = rw e (ap (λ (v : ℕ). word_put n v (filled (tab n f) l)) x ∙ put_tab n f l (omega arith)) in
      let b : word_put (suc n) (number_at s 1) (word_put n 0 t) ≡ filled (tab (suc (suc n)) f) l = rw (a, y) (put_tab (suc n) f l (omega arith)) in
      rw (s₃, b, z) (put_tab (suc (suc n)) f l (omega arith))

-- the gates' words by their place in the body
pub gates_from : (b : List ℕ) (m n : ℕ) → tab n (gate_word (skip m b) 0) ≡ tab n (gate_word b m)
unfolding gate_word
gates_from b m n =
    tab_same n _ _ (λ j h.
    let q : 0 + j ≡ j = omega arith in
    ap (if_equal (j % 3) 0 0) (ap (number_at (skip m b)) q ∙ ap number (skip_add m j b)))

pub outputs_from : (b : List ℕ) (m n : ℕ) → tab n (number_at (skip m b)) ≡ tab n (λ j. number_at b (m + j))
outputs_from b m n = tab_same n _ _ (λ j h. ap number (skip_add m j b))
