-- Of three words that have the majority w, turned somehow, no two differ from w at once; so words that fit no such three are of no majority. From the
-- laws on bits, and from what a majority over a triple says of values.
use mathlib.Core.Path.{◌≡◌, sym, ◌∙◌}
use mathlib.Core.Bool.{Bool, true, false, true≢false}
use mathlib.Core.Logic.{⊎_elim, ◌≢◌}
use mathlib.Core.List.{List}
use Prim.Native.Nat.{ℕ, zero, suc, ◌+◌, ◌*◌, ◌/◌, ◌%◌, ◌^◌, ◌≤◌, ◌<◌}
use native.Mathlib.Nat.{mod-eq_of_lt, mod-one}
use native.Mathlib.Omega.{arith}
use borrow.Author.Tests.{eq-eqb}
use lib.Bits.{bit_and, bit_or, bit_xor, and_lt, or_lt}
use lib.Dec.{T, eqb, leb, leb→le}
use lib.Pow.{mod-pow-add}
use Rattle.graph.specs.Admission.{Admitted}
use Rattle.graph.specs.Graph.{Graph, node}
use Rattle.graph.specs.Literals.{bit}
use Rattle.graph.specs.Value.{majority}
use Rattle.graph.proofs.Bits.{bit_xor_lem, bit_le}
use Rattle.graph.proofs.Cases.{true_or_false}
use Rattle.evaluation.proofs.Bits.{bit_and_lem, bit_or_lem}
use Rattle.moves.proofs.Flags.{all, all3_at}
use Rattle.hidden.specs.Truth.{Triple, truth}
use Rattle.hidden.specs.Majority.{is_majority, complements}
use Rattle.hidden.specs.Inner.{Rising}
use Rattle.hidden.proofs.Made.{value_majority}
use Rattle.finder.specs.Signs.{signing, Signed, sign_of, TurnedWord, Never₃, Votes}
use Rattle.finder.proofs.Signatures.{sign_is}

-- a word of 32 bits none of which is set
none_set : (w k : ℕ) → ((j : ℕ) → j < k → bit j w ≡ 0) → w % 2 ^ k ≡ 0
unfolding bit
none_set w zero f = mod-one w
none_set w (suc k) f =
    let m : w % 2 ^ (1 + k) ≡ (w / 2 ^ k % 2) * 2 ^ k + w % 2 ^ k = mod-pow-add w 1 k in
    let e : 1 + k ≡ suc k = omega arith in
    let n = f k (omega arith) in
    let o = none_set w k (λ j h. f j (omega arith)) in
    (rw e at m) ∙ rw (n, o) (omega arith)

pub zero_word : (w : ℕ) → w < 4294967296 → ((j : ℕ) → j < 32 → bit j w ≡ 0) → w ≡ 0
zero_word w h f = sym (mod-eq_of_lt h) ∙ none_set w 32 f

-- words that are never set at once
pub both_none : (p q : ℕ) → p < 4294967296 → q < 4294967296 → ((j : ℕ) → j < 32 → bit j p + bit j q ≤ 1) → bit_and p q ≡ 0
both_none p q hp hq f = zero_word (bit_and p q) (and_lt 32 p q hp hq) (λ j h. omega (arith, bit_and_lem j p q, f j h))

-- two of three, the third or its complement
module _ (p q r : ℕ) (hp : p < 4294967296) (hq : q < 4294967296) (hr : r < 4294967296) where
  pub fits_two : (c : ℕ) → Never₃ 0 0 c p q r → bit_and p q ≡ 0
  fits_two c f = both_none p q hp hq (λ j h. omega (arith, f j h, bit_le j p, bit_le j q))

  pub fits_all : (z : ℕ) → z < 4294967296 → TurnedWord r 1 z → bit_and (bit_or p q) r ≢ 0 → (c : ℕ) → c ≤ 1 → Never₃ 0 0 c p q r → eqb (bit_and (bit_or p q) z) 0 ≡ true
  fits_all z hz tz n zero k f =
      absurd (n (both_none (bit_or p q) r (or_lt 32 p q hp hq) hr (λ j h. omega (arith, bit_or_lem j p q, f j h, bit_le j p, bit_le j q, bit_le j r))))
  fits_all z hz tz n (suc zero) k f =
      eq-eqb (bit_and (bit_or p q) z) 0 (both_none (bit_or p q) z (or_lt 32 p q hp hq) hz (λ j h. omega (arith, bit_or_lem j p q, f j h, bit_le j p, bit_le j q, tz j h)))
  fits_all z hz tz n (suc (suc c)) k f = absurd (omega arith)

-- of three bits with the majority w at most one differs from it
differing : ℕ → ℕ → ℕ → ℕ
differing x y z = (x + majority x y z) % 2 + (y + majority x y z) % 2 + (z + majority x y z) % 2

all_lone : T (all 2 (λ x. all 2 (λ y. all 2 (λ z. leb (differing x y z) 1))))
unfolding differing majority
all_lone = tt

lone : (x y z w : ℕ) → x < 2 → y < 2 → z < 2 → majority x y z ≡ w → (x + w) % 2 + (y + w) % 2 + (z + w) % 2 ≤ 1
unfolding differing
lone x y z w hx hy hz e = rw (← e) (leb→le _ _ (all3_at 2 2 2 (λ x y z. leb (differing x y z) 1) all_lone x y z hx hy hz))

swap : (x a w p : ℕ) → p ≡ (x + w) % 2 → (p + a) % 2 ≡ ((x + a) % 2 + w) % 2
swap x a w p e = rw e (omega arith)

pub votes_never : (c w x y z : ℕ) → Votes c w x y z → Never₃ (bit 0 c) (bit 1 c) (bit 2 c) (bit_xor x w) (bit_xor y w) (bit_xor z w)
votes_never c w x y z f j h =
    rw (
      swap (bit j x) (bit 0 c) (bit j w) (bit j (bit_xor x w)) (bit_xor_lem j x w),
      swap (bit j y) (bit 1 c) (bit j w) (bit j (bit_xor y w)) (bit_xor_lem j y w),
      swap (bit j z) (bit 2 c) (bit j w) (bit j (bit_xor z w)) (bit_xor_lem j z w),
    )
    (lone ((bit j x + bit 0 c) % 2) ((bit j y + bit 1 c) % 2) ((bit j z + bit 2 c) % 2) (bit j w) (omega arith) (omega arith) (omega arith) (f j h))

pub could_all : (p q r x y : ℕ) → TurnedWord p 1 x → TurnedWord q 1 y → (a b c : ℕ) → a ≤ 1 → b ≤ 1 → Never₃ a b c p q r → (t₁ t₂ t₃ t₄ : Bool)
    → (Never₃ 0 0 c p q r → t₁ ≡ true) → (Never₃ 0 0 c x q r → t₂ ≡ true) → (Never₃ 0 0 c p y r → t₃ ≡ true) → (Never₃ 0 0 c x y r → t₄ ≡ true)
    → t₁ ≡ false → t₂ ≡ false → t₃ ≡ false → t₄ ≡ true
could_all p q r x y tx ty zero zero c ha hb f t₁ t₂ t₃ t₄ s₁ s₂ s₃ s₄ n₁ n₂ n₃ = absurd (true≢false (sym (s₁ f) ∙ n₁))
could_all p q r x y tx ty (suc zero) zero c ha hb f t₁ t₂ t₃ t₄ s₁ s₂ s₃ s₄ n₁ n₂ n₃ =
    absurd (true≢false (sym (s₂ (λ j h. omega (arith, f j h, tx j h))) ∙ n₂))
could_all p q r x y tx ty zero (suc zero) c ha hb f t₁ t₂ t₃ t₄ s₁ s₂ s₃ s₄ n₁ n₂ n₃ =
    absurd (true≢false (sym (s₃ (λ j h. omega (arith, f j h, ty j h))) ∙ n₃))
could_all p q r x y tx ty (suc zero) (suc zero) c ha hb f t₁ t₂ t₃ t₄ s₁ s₂ s₃ s₄ n₁ n₂ n₃ = s₄ (λ j h. omega (arith, f j h, tx j h, ty j h))
could_all p q r x y tx ty (suc (suc a)) b c ha hb f t₁ t₂ t₃ t₄ s₁ s₂ s₃ s₄ n₁ n₂ n₃ = absurd (omega arith)
could_all p q r x y tx ty zero (suc (suc b)) c ha hb f t₁ t₂ t₃ t₄ s₁ s₂ s₃ s₄ n₁ n₂ n₃ = absurd (omega arith)
could_all p q r x y tx ty (suc zero) (suc (suc b)) c ha hb f t₁ t₂ t₃ t₄ s₁ s₂ s₃ s₄ n₁ n₂ n₃ = absurd (omega arith)

-- a triple over which node v is a majority votes for it by the complements, so one whose signatures do not fit is passed over
module _ (g : Graph) (adm : Admitted g) (t : Triple) (v : ℕ) (within : v < g.N) (r : Rising t (node g v)) (sc : List ℕ) (s : Signed g (v + 1) sc) where
  votes : is_majority (truth g t (node g v)) ≡ true
      → Votes (complements (truth g t (node g v))) (sign_of g.I sc (node g v)) (sign_of g.I sc t.one) (sign_of g.I sc t.two) (sign_of g.I sc t.three)
  votes is j low =
      let at = sign_is g (v + 1) sc s j low in
      rw (
        at t.one (omega (arith, r.second, r.third, r.below)),
        at t.two (omega (arith, r.third, r.below)),
        at t.three (omega (arith, r.below)),
        at (node g v) (omega arith),
      )
      (value_majority g adm t v within r is (signing j))

  pub could_passed : (b : Bool)
      → ((c : ℕ) → Votes c (sign_of g.I sc (node g v)) (sign_of g.I sc t.one) (sign_of g.I sc t.two) (sign_of g.I sc t.three) → b ≡ true)
      → b ≡ false → is_majority (truth g t (node g v)) ≡ false
  could_passed b f e =
      ⊎_elim (λ (is : is_majority (truth g t (node g v)) ≡ true). absurd (true≢false (sym (f _ (votes is)) ∙ e))) (λ (is : is_majority (truth g t (node g v)) ≡ false). is)
      (true_or_false (is_majority (truth g t (node g v))))
