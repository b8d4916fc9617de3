-- Finite tables and sums, the first fault of several, differences and decimal text.
use Rattle.std.specs.Prelude.{◌+◌, ◌/◌, ◌%◌, ◌∷◌, ◌++◌}
use Rattle.graph.specs.Words.{ℕ, zero, suc, Bool, cond, List, [], eqb, ltb, ℤ, sub_ℕ}

-- the list f 0, f 1, .., f (n - 1)
unfoldable pub tab : ℕ → (ℕ → ℕ) → List ℕ
tab zero f = []
tab (suc n) f = f 0 ∷ tab n (λ j. f (suc j))

-- f 0 + .. + f (n - 1)
unfoldable pub sum : ℕ → (ℕ → ℕ) → ℕ
sum zero f = 0
sum (suc n) f = sum n f + f n

-- how many of the first n numbers pass the test
unfoldable pub count : ℕ → (ℕ → Bool) → ℕ
count n t = sum n (λ j. cond (t j) 1 0)

-- x where a is less than b, else y
unfoldable pub if_less {ℓ} : {A : Type ℓ} → ℕ → ℕ → A → A → A
if_less a b x y = cond (ltb a b) x y

-- x where a equals b, else y
unfoldable pub if_equal {ℓ} : {A : Type ℓ} → ℕ → ℕ → A → A → A
if_equal a b x y = cond (eqb a b) x y

-- the first fault of two, by number; 0 is none
unfoldable pub first : ℕ → ℕ → ℕ
first zero b = b
first (suc a) b = suc a

-- the first fault of f 0, .., f (n - 1)
unfoldable pub first_of : ℕ → (ℕ → ℕ) → ℕ
first_of zero f = 0
first_of (suc n) f = first (first_of n f) (f n)

-- a signed number: a less b
unfoldable pub difference : ℕ → ℕ → ℤ
difference a b = sub_ℕ a b

-- the digits of n, in at most f places, as bytes ("0" is 48)
unfoldable pub decimal_in : ℕ → ℕ → List ℕ
decimal_in zero n = []
decimal_in (suc f) n = let rest = decimal_in f (n / 10) in if_less n 10 ((48 + n) ∷ []) (rest ++ ((48 + n % 10) ∷ []))

-- the decimal digits of n, the highest first, without leading zeros
unfoldable pub decimal : ℕ → List ℕ
decimal n = decimal_in (suc n) n
