-- A table that is filled from the front: a word more is put behind those that are there, its bit with those that are gathered. What is filled
-- has no bit past its last word in its word of bits, and holds that many words. From the laws of places and of gathered bits.
use Rattle.std.proofs.Common.{◌≡◌, ℕ, suc, ◌+◌, ◌-◌, ◌*◌, ◌/◌, ◌%◌, ◌^◌, ◌<◌, ◌≤◌, max, ◌≢◌, List, [], ◌∷◌, ◌++◌, length, get_or, drop, set, sym, refl, ap, ◌∙◌, ⊎_elim, append_assoc, append-nil, arith, length-append, length-drop, length-set, get_or-drop, get_or-set_other, get_or-set_same, get_or-append-add, ext_get_or}
use lib.ListN.{get_or-append, get_or-eq_default}
use Rattle.graph.specs.Finite.{tab, if_less, if_equal}
use Rattle.graph.specs.Graph.{mark}
use Rattle.graph.specs.Inner.{begun, word_put, words_put}
use Rattle.graph.specs.Literals.{bit_at, index_at, literal_of, literal_at, literals, held, bit_of, words_for, strays, evened, cleared, filled}
use Rattle.graph.proofs.Cases.{lt_or_le, eq_or_ne}
use Rattle.graph.proofs.Cleared.{even_bit, even_even, length_cleared, cleared_at, place_even, place_same}
use Rattle.graph.proofs.Counted.{sum_none}
use Rattle.graph.proofs.Finite.{length_tab, get_d_tab, tab_last}
use Rattle.graph.proofs.Gathered.{length_begun, begun_none, begun_more, begun_full, bit_now_lem, bit_before, bit_after, bit_later}
use Rattle.graph.proofs.Literals.{bit_other, length_literals, literals_at, literal_in, held_all, held_literals, held_index, held_bit}
use Rattle.graph.proofs.Tests.{less, no_less, equal, unequal}

-- x put at place j, place by place
module _ (j x : ℕ) (l : List ℕ) where
  pub length_put : length (word_put j x l) ≡ length l
  unfolding word_put
  length_put = length_tab _ _

  module _ (i : ℕ) (h : i < length l) where
    abbrev later : ℕ
    later = if_less i (64 * (j / 64 + 1)) (evened (get_or l i 0)) (get_or l i 0)

    at : get_or (word_put j x l) i 0 ≡ if_equal i j x (if_less i j (get_or l i 0) later)
    unfolding word_put
    at = get_d_tab _ _ i h

    pub put_now : i ≡ j → get_or (word_put j x l) i 0 ≡ x
    put_now e = at ∙ sym (equal i j x (if_less i j (get_or l i 0) later) e refl)

    pub put_before : i < j → get_or (word_put j x l) i 0 ≡ get_or l i 0
    put_before k = at ∙ sym (unequal i j x (if_less i j (get_or l i 0) later) (omega arith) (less i j (get_or l i 0) later k refl))

    from : j < i → get_or (word_put j x l) i 0 ≡ later
    from k = at ∙ sym (unequal i j x (if_less i j (get_or l i 0) later) (omega arith) (no_less i j (get_or l i 0) later (omega arith) refl))

    pub put_after : j < i → i < 64 * (j / 64 + 1) → get_or (word_put j x l) i 0 ≡ evened (get_or l i 0)
    put_after k e = from k ∙ sym (less i (64 * (j / 64 + 1)) (evened (get_or l i 0)) (get_or l i 0) e refl)

    pub put_later : 64 * (j / 64 + 1) ≤ i → get_or (word_put j x l) i 0 ≡ get_or l i 0
    put_later e = from (omega arith) ∙ sym (no_less i (64 * (j / 64 + 1)) (evened (get_or l i 0)) (get_or l i 0) e refl)

-- by index and bit: u is stored at place j, ds has the bit b there, no bit past it in its word, and all else of bs
module _ (us bs ds : List ℕ) (j u b x : ℕ) (h : j < length us) (k : j < 64 * length bs) (v : u ≤ mark) (e : literal_of u b ≡ x) (same : length ds ≡ length bs)
    (now : bit_at ds j ≡ b) (before : (i : ℕ) → i < j → bit_at ds i ≡ bit_at bs i) (after : (i : ℕ) → j < i → i < 64 * (j / 64 + 1) → bit_at ds i ≡ 0)
    (later : (i : ℕ) → 64 * (j / 64 + 1) ≤ i → bit_at ds i ≡ bit_at bs i) where
  abbrev vs : List ℕ
  vs = set us j u

  abbrev l : List ℕ
  l = literals us bs

  index_here : index_at vs j ≡ u
  unfolding index_at
  index_here = rw (get_or-set_same us j u 0 h) (omega arith)

  index_kept : (i : ℕ) → i ≢ j → index_at vs i ≡ index_at us i
  unfolding index_at
  index_kept i q = rw (get_or-set_other us j i u 0 q)

  place_kept : (i : ℕ) → i ≢ j → literal_at vs ds i ≡ literal_at us ds i
  unfolding literal_at
  place_kept i q = rw (length-set us j u, index_kept i q)

  place_here : literal_at vs ds j ≡ x
  place_here = rw (literal_in vs ds j (rw (length-set us j u, same) (omega arith)), now, index_here) e

  in_l : (i : ℕ) → i < max (length us) (64 * length bs) → i < length l
  in_l i p = rw (length_literals us bs) p

  place_put : (i : ℕ) → i < max (length us) (64 * length bs) → literal_at vs ds i ≡ get_or (word_put j x l) i 0
  place_put i p =
      ⊎_elim
      (λ (q : i ≡ j). rw (put_now j x l i (in_l i p) q, q) place_here)
      (λ (q : i ≢ j).
      place_kept i q ∙
      ⊎_elim
      (λ (a : i < j). rw (put_before j x l i (in_l i p) a, literals_at us bs i p) (place_same us bs ds same i (before i a)))
      (λ (a : j ≤ i).
      ⊎_elim
      (λ (d : i < 64 * (j / 64 + 1)). rw (put_after j x l i (in_l i p) (omega arith) d, literals_at us bs i p) (place_even us bs ds same i (after i (omega arith) d)))
      (λ (d : 64 * (j / 64 + 1) ≤ i). rw (put_later j x l i (in_l i p) d, literals_at us bs i p) (place_same us bs ds same i (later i d)))
      (lt_or_le i (64 * (j / 64 + 1))))
      (lt_or_le i j))
      (eq_or_ne i j)

  pub literals_put : literals vs ds ≡ word_put j x l
  literals_put =
      let n : length (literals vs ds) ≡ length l = rw (length_literals vs ds, length_literals us bs, length-set us j u, same) in
      ext_get_or 0 _ _ (n ∙ sym (length_put j x l))
      (λ i p. literals_at vs ds i (omega (arith, length_literals vs ds)) ∙ place_put i (omega (arith, n, length_literals us bs)))

-- a word put, its bit gathered: in a word of bits that is not full then, and in one that is
module _ (us bs : List ℕ) (j got u b x : ℕ) (h : j < held (literals us bs)) (fits : got < 18446744073709551616) (v : u ≤ mark) (c : b ≤ 1) (e : literal_of u b ≡ x) where
  abbrev all : ℕ
  all = got / 2 + b * 9223372036854775808

  room_bits : j < 64 * length bs
  room_bits = held_bit us bs j h

  stored : literals (set us j u) (set bs (j / 64) (got / 2 ^ (64 - j % 64) + b * 2 ^ (j % 64))) ≡ word_put j x (literals us (begun j got bs))
  stored =
      let n = length_begun bs got j in
      literals_put us (begun j got bs) (set bs (j / 64) (got / 2 ^ (64 - j % 64) + b * 2 ^ (j % 64))) j u b x (held_index us bs j h) (rw n room_bits) v e
      (length-set bs (j / 64) (got / 2 ^ (64 - j % 64) + b * 2 ^ (j % 64)) ∙ sym n)
      (bit_now_lem bs j got b room_bits fits c)
      (bit_before bs j got b room_bits fits c)
      (bit_after bs j got b room_bits fits c)
      (bit_later bs j got b room_bits fits c)

  pub put_open : j % 64 ≢ 63 → literals (set us j u) (begun (j + 1) all bs) ≡ word_put j x (literals us (begun j got bs))
  put_open n = rw (begun_more bs j got b room_bits fits c n) stored

  pub put_full : (r : ℕ) → j % 64 ≡ 63 → literals (set us j u) (begun (j + 1) r (set bs (j / 64) all)) ≡ word_put j x (literals us (begun j got bs))
  put_full r q = rw (begun_full bs j got b room_bits fits c r q) stored

pub in_a_row : (l l₁ l₂ l₃ : List ℕ) (j x y z : ℕ) → l₂ ≡ word_put (j + 1) y l₁ → l₃ ≡ word_put (j + 2) z l₂ → l₁ ≡ word_put j x l → l₃ ≡ words_put j (x ∷ y ∷ z ∷ []) l
in_a_row l l₁ l₂ l₃ j x y z q r p =
    let a : j + 1 ≡ suc j = omega arith in
    let b : j + 2 ≡ suc (suc j) = omega arith in
    rw b at (rw a at (rw (q, p) at r))

-- three words put, none of whose bits fills a word of bits
module _ (us bs : List ℕ) (j got u b x v d y w f z : ℕ) (h : j + 3 ≤ held (literals us bs)) (fits : got < 18446744073709551616) (apart : j % 64 < 61)
    (uₗ : u ≤ mark) (bₗ : b ≤ 1) (xₑ : literal_of u b ≡ x) (vₗ : v ≤ mark) (dₗ : d ≤ 1) (yₑ : literal_of v d ≡ y) (wₗ : w ≤ mark) (fₗ : f ≤ 1) (zₑ : literal_of w f ≡ z) where
  abbrev one : ℕ
  one = got / 2 + b * 9223372036854775808

  abbrev two : ℕ
  two = one / 2 + d * 9223372036854775808

  abbrev us₁ : List ℕ
  us₁ = set us j u

  abbrev us₂ : List ℕ
  us₂ = set us₁ (j + 1) v

  same_held : (vs : List ℕ) → length vs ≡ length us → held (literals vs bs) ≡ held (literals us bs)
  same_held vs e = omega (arith, held_literals vs bs, held_literals us bs)

  held₁ : held (literals us₁ bs) ≡ held (literals us bs)
  held₁ = same_held us₁ (length-set us j u)

  held₂ : held (literals us₂ bs) ≡ held (literals us bs)
  held₂ = same_held us₂ (length-set us₁ (j + 1) v ∙ length-set us j u)

  pub put_three : literals (set us₂ (j + 2) w) (begun (j + 3) (two / 2 + f * 9223372036854775808) bs) ≡ words_put j (x ∷ y ∷ z ∷ []) (literals us (begun j got bs))
  put_three =
      let p = put_open us bs j got u b x (omega arith) fits uₗ bₗ xₑ (omega arith) in
      let q = put_open us₁ bs (j + 1) one v d y (omega (arith, held₁)) (omega arith) vₗ dₗ yₑ (omega arith) in
      let r = put_open us₂ bs (j + 2) two w f z (omega (arith, held₂)) (omega arith) wₗ fₗ zₑ (omega arith) in
      let a : j + 1 + 1 ≡ j + 2 = omega arith in
      let c : j + 2 + 1 ≡ j + 3 = omega arith in
      in_a_row _ _ _ _ j x y z (rw a at q) (rw c at r) p

-- a filled table, place by place
module _ (ws l : List ℕ) where
  pub length_filled : length (filled ws l) ≡ length ws + (length l - length ws)
  unfolding filled
  length_filled = simp (length-append, length-drop, length_cleared) refl

  pub filled_in : (i : ℕ) → i < length ws → get_or (filled ws l) i 0 ≡ get_or ws i 0
  unfolding filled
  filled_in i h = get_or-append ws (drop (length ws) (cleared (words_for (length ws)) l)) 0 i h

  past : (i : ℕ) → length ws ≤ i → get_or (filled ws l) i 0 ≡ get_or (cleared (words_for (length ws)) l) i 0
  unfolding filled
  past i h =
      let n = length ws in
      let e : n + (i - n) ≡ i = omega arith in
      rw e at (get_or-append-add ws (drop n (cleared (words_for n) l)) (i - n) 0 ∙ get_or-drop n (cleared (words_for n) l) (i - n) 0)

  pub filled_even : (i : ℕ) → i < length l → length ws ≤ i → i < 64 * words_for (length ws) → get_or (filled ws l) i 0 ≡ evened (get_or l i 0)
  filled_even i p h k = past i h ∙ cleared_at (words_for (length ws)) l i p ∙ sym (less i (64 * words_for (length ws)) (evened (get_or l i 0)) (get_or l i 0) k refl)

  pub filled_past : (i : ℕ) → i < length l → 64 * words_for (length ws) ≤ i → get_or (filled ws l) i 0 ≡ get_or l i 0
  filled_past i p k = past i (omega arith) ∙ cleared_at (words_for (length ws)) l i p ∙ sym (no_less i (64 * words_for (length ws)) (evened (get_or l i 0)) (get_or l i 0) k refl)

pub filled_none : (l : List ℕ) → filled [] l ≡ l
filled_none l = let n = length_filled [] l in ext_get_or 0 _ _ (omega arith) (λ i h. filled_past [] l i (omega arith) (omega arith))

-- nothing is put yet
pub filled_start : (us bs : List ℕ) (f : ℕ → ℕ) → literals us (begun 0 0 bs) ≡ filled (tab 0 f) (literals us bs)
unfolding tab
filled_start us bs f = rw (begun_none bs 0 0 refl) (sym (filled_none (literals us bs)))

-- one word more
module _ (ws l : List ℕ) (x n : ℕ) (e : length ws ≡ n) (fits : n < length l) where
  abbrev more : List ℕ
  more = ws ++ (x ∷ [])

  size : length more ≡ n + 1
  size = simp length-append (omega (arith, e))

  here : get_or more n 0 ≡ x
  here = let z : length ws + 0 ≡ n = omega arith in rw z at (get_or-append-add ws (x ∷ []) 0 0)

  there : (i : ℕ) → i < n → get_or more i 0 ≡ get_or ws i 0
  there i h = get_or-append ws (x ∷ []) 0 i (omega arith)

  -- the bits that are cleared end in one place
  end : 64 * words_for (length more) ≡ 64 * (n / 64 + 1)
  end = rw size (omega arith)

  again : (i : ℕ) → i < length l → n ≤ i → evened (get_or (filled ws l) i 0) ≡ evened (get_or l i 0)
  again i h a =
      ⊎_elim
      (λ (d : i < 64 * words_for (length ws)). rw (filled_even ws l i h (omega arith) d) (even_even (get_or l i 0)))
      (λ (d : 64 * words_for (length ws) ≤ i). rw (filled_past ws l i h d))
      (lt_or_le i (64 * words_for (length ws)))

  one_more_lem : (i : ℕ) → i < length l → get_or (word_put n x (filled ws l)) i 0 ≡ get_or (filled more l) i 0
  one_more_lem i h =
      let p : i < length (filled ws l) = omega (arith, length_filled ws l) in
      ⊎_elim
      (λ (q : i ≡ n). put_now n x (filled ws l) i p q ∙ sym (rw (filled_in more l i (omega (arith, size)), q) here))
      (λ (q : i ≢ n).
      ⊎_elim
      (λ (a : i < n). put_before n x (filled ws l) i p a ∙ filled_in ws l i (omega arith) ∙ sym (filled_in more l i (omega (arith, size)) ∙ there i a))
      (λ (a : n ≤ i).
      ⊎_elim
      (λ (d : i < 64 * (n / 64 + 1)).
      put_after n x (filled ws l) i p (omega arith) d ∙ again i h a ∙ sym (filled_even more l i h (omega (arith, size)) (omega (arith, end))))
      (λ (d : 64 * (n / 64 + 1) ≤ i).
      put_later n x (filled ws l) i p d ∙ filled_past ws l i h (omega arith) ∙ sym (filled_past more l i h (omega (arith, end))))
      (lt_or_le i (64 * (n / 64 + 1))))
      (lt_or_le i n))
      (eq_or_ne i n)

  pub put_filled : word_put n x (filled ws l) ≡ filled more l
  put_filled =
      let a = length_put n x (filled ws l) in
      let b = length_filled ws l in
      ext_get_or 0 _ _ (omega (arith, length_filled more l, size)) (λ i h. one_more_lem i (omega arith))

pub put_tab : (n : ℕ) (f : ℕ → ℕ) (l : List ℕ) → n < length l → word_put n (f n) (filled (tab n f) l) ≡ filled (tab (suc n) f) l
put_tab n f l h = put_filled (tab n f) l (f n) n (length_tab n f) h ∙ ap (λ (ws : List ℕ). filled ws l) (sym (tab_last n f))

-- any number of words
pub puts_filled : (a ws l : List ℕ) → length a + length ws ≤ length l → words_put (length a) ws (filled a l) ≡ filled (a ++ ws) l
puts_filled a [] l h = rw (append-nil a)
puts_filled a (x ∷ ws) l h =
    let b = a ++ (x ∷ []) in
    let n : length b ≡ suc (length a) = simp length-append (omega arith) in
    let f = put_filled a l x (length a) refl (omega arith) in
    rw f (rw (n, append_assoc) at (puts_filled b ws l (omega (arith, n))))

pub all_filled : (ws l : List ℕ) → length ws ≤ length l → words_put 0 ws l ≡ filled ws l
all_filled ws l h = rw (filled_none l) at (puts_filled [] ws l (omega arith))

module _ (ws l : List ℕ) (n : ℕ) (e : length ws ≡ n) where
  bit_filled : (k : ℕ) → k < 64 * words_for n - n → bit_of (get_or (filled ws l) (n + k) 0) ≡ 0
  bit_filled k h =
      ⊎_elim
      (λ (p : n + k < length l). rw (filled_even ws l (n + k) p (omega arith) (rw e (omega arith))) (even_bit (get_or l (n + k) 0)))
      (λ (p : length l ≤ n + k). rw (get_or-eq_default (filled ws l) 0 {n = n + k} (omega (arith, length_filled ws l))) (bit_other 0 (omega arith)))
      (lt_or_le (n + k) (length l))

  pub strays_filled : strays n (filled ws l) ≡ 0
  unfolding strays
  strays_filled = sum_none (64 * words_for n - n) _ bit_filled

  pub held_filled : ((j : ℕ) → j < n → get_or ws j 0 < 1099511627776) → n ≤ held (filled ws l)
  held_filled f = held_all n (filled ws l) (omega (arith, length_filled ws l)) (λ j h. rw (filled_in ws l j (omega arith)) (f j h))
