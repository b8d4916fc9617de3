-- The six rows.
use Rattle.std.proofs.Common.{◌≡◌, ℕ, zero, suc, ◌+◌, ◌%◌, ◌<◌, ◌≤◌, Bool, true, false, ◌&&◌, T, eqb, leb, refl, ⊎_elim, le_of_suc-le-suc, not-suc-le-zero, eq-or-lt_of_le, arith, eqb→eq, leb→le, le-ltb}
use Rattle.graph.proofs.Cases.{lt_or_le}
use Rattle.graph.specs.Finite.{if_less}
use Rattle.moves.specs.Rows.{first_row, flag, rows, arity}
use Rattle.moves.specs.Compose.{combined}

-- a test of every number below n
abbrev pub all : ℕ → (ℕ → Bool) → Bool
all zero p = true
all (suc n) p = p n && all n p

and_left : (a b : Bool) → T (a && b) → T a
and_left true b t = tt
and_left false b t = t

and_right : (a b : Bool) → T (a && b) → T b
and_right true b t = t
and_right false b t = absurd t

pub all_at : (n : ℕ) (p : ℕ → Bool) → T (all n p) → (i : ℕ) → i < n → T (p i)
all_at zero p t i h = absurd (not-suc-le-zero h)
all_at (suc n) p t i h =
    ⊎_elim
    (λ (e : i ≡ n). rw e (and_left (p n) (all n p) t))
    (λ (l : i < n). all_at n p (and_right (p n) (all n p) t) i l)
    (eq-or-lt_of_le (le_of_suc-le-suc h))

pub all3_at : (a b c : ℕ) (p : ℕ → ℕ → ℕ → Bool) → T (all a (λ m. all b (λ n. all c (λ k. p m n k)))) → (m n k : ℕ) → m < a → n < b → k < c → T (p m n k)
all3_at a b c p t m n k hm hn hk = all_at c (λ k. p m n k) (all_at b (λ n. all c (λ k. p m n k)) (all_at a (λ m. all b (λ n. all c (λ k. p m n k))) t m hm) n hn) k hk

right : Bool → ℕ → ℕ → ℕ → Bool
right x m n k = eqb (flag x (combined x m n) k) ((flag x m k + flag x n k) % 2)

all_right : (x : Bool) → T (all (arity x) (λ m. all (arity x) (λ n. all 4 (λ k. right x m n k))))
unfolding first_row if_less flag rows arity combined right
all_right false = tt
all_right true = tt

pub flag_both : (x : Bool) (m n k : ℕ) → m < arity x → n < arity x → k < 4 → flag x (combined x m n) k ≡ (flag x m k + flag x n k) % 2
unfolding right
flag_both x m n k hm hn hk = eqb→eq _ _ (all3_at (arity x) (arity x) 4 (right x) (all_right x) m n k hm hn hk)

-- a move that the kind lacks turns nothing
pub flag_past : (x : Bool) (m k : ℕ) → arity x ≤ m → flag x m k ≡ 0
unfolding flag if_less
flag_past x m k h = rw (le-ltb m (arity x) h)

-- a majority's move turns all its words and its readers, or none
pub flag_maj : (m : ℕ) → (flag false m 0 ≡ flag false m 3) × (flag false m 1 ≡ flag false m 3) × (flag false m 2 ≡ flag false m 3) × (flag false m 3 ≤ 1)
unfolding flag rows first_row arity if_less
flag_maj zero = omega arith
flag_maj (suc zero) = omega arith
flag_maj (suc (suc m)) = let p : (k : ℕ) → flag false (suc (suc m)) k ≡ 0 = λ k. flag_past false (suc (suc m)) k (omega arith) in omega (arith, p 0, p 1, p 2, p 3)

-- an XOR's move turns its readers where it turns one of its two words
pub flag_xor : (m : ℕ) → (flag true m 0 + flag true m 1) % 2 ≡ flag true m 3
unfolding flag rows first_row arity if_less
flag_xor zero = refl
flag_xor (suc zero) = refl
flag_xor (suc (suc zero)) = refl
flag_xor (suc (suc (suc zero))) = refl
flag_xor (suc (suc (suc (suc m)))) = let p : (k : ℕ) → flag true (suc (suc (suc (suc m)))) k ≡ 0 = λ k. flag_past true (suc (suc (suc (suc m)))) k (omega arith) in omega (arith, p 0, p 1, p 3)

bit_right : Bool → ℕ → ℕ → Bool
bit_right x m k = leb (flag x m k) 1

all_bits : (x : Bool) → T (all (arity x) (λ m. all 4 (λ k. bit_right x m k)))
unfolding first_row if_less flag rows arity bit_right
all_bits false = tt
all_bits true = tt

-- a flag is 0 or 1
pub flag_bit : (x : Bool) (m k : ℕ) → k < 4 → flag x m k ≤ 1
unfolding bit_right
flag_bit x m k h =
    ⊎_elim
    (λ (l : m < arity x). leb→le _ _ (all_at 4 (λ k. bit_right x m k) (all_at (arity x) (λ m. all 4 (λ k. bit_right x m k)) (all_bits x) m l) k h))
    (λ (l : arity x ≤ m). omega (arith, flag_past x m k l))
    (lt_or_le m (arity x))

-- what holds for 0 and for 1 holds for a flag
pub by_flag : (P : ℕ → Type 0) → P 0 → P 1 → (x : Bool) (m k : ℕ) → k < 4 → P (flag x m k)
by_flag P zeroth first x m k h = go (flag x m k) (flag_bit x m k h)
  where
    go : (f : ℕ) → f ≤ 1 → P f
    go zero l = zeroth
    go (suc zero) l = first
    go (suc (suc f)) l = absurd (omega arith)
