-- Lines of numbers as they are written are read back, each at its place. From the law on one number.
use Prim.Native.Nat.{ℕ, zero, suc, ◌+◌, ◌*◌, ◌<◌, ◌≤◌}
use mathlib.Core.Path.{◌≡◌, refl, sym, ap, ◌∙◌}
use mathlib.Core.List.{List, [], ◌∷◌}
use native.Mathlib.Omega.{arith}
use native.Mathlib.Nat.{not-suc-le-zero, le_of_suc-le-suc}
use lib.ListN.{length, get_or, drop}
use lib.Seq.{drop-cons}
use Rattle.graph.proofs.Tests.{none}
use Rattle.aiger.specs.Lines.{number, next, skip, number_at, line_number}
use Rattle.aiger.specs.Import.{head_m, head_i, head_l, head_o, head_a, body, aag_number}
use Rattle.aiger.specs.Export.{ended, ones, threes, header}
use Rattle.aiger.proofs.ReadNumber.{number_ended, next_ended, fault_ended}

-- a line of one number, and of three
pub record OneRead (s : List ℕ) (x : ℕ) : Type 0 where
  pub fine : line_number 0 s ≡ 0
  pub one : number s ≡ x

pub record ThreeRead (s : List ℕ) (x y z : ℕ) : Type 0 where
  pub fine : line_number 2 s ≡ 0
  pub one : number s ≡ x
  pub two : number_at s 1 ≡ y
  pub three : number_at s 2 ≡ z

line_last : (x : ℕ) (rest : List ℕ) → x < 4294967296 → line_number 0 (ended x 10 rest) ≡ 0
unfolding line_number
line_last x rest h = fault_ended x 10 rest (omega arith) h

line_more : (k x : ℕ) (rest : List ℕ) → x < 4294967296 → line_number k rest ≡ 0 → line_number (suc k) (ended x 32 rest) ≡ 0
unfolding line_number
line_more k x rest h e = rw (next_ended x 32 rest (omega arith)) (sym (none _ _ (fault_ended x 32 rest (omega arith) h) (sym e)))

one_read : (x : ℕ) (rest : List ℕ) → x < 4294967296 → OneRead (ended x 10 rest) x
one_read x rest h = record { fine = line_last x rest h; one = number_ended x 10 rest (omega arith) }

three_read : (x y z : ℕ) (rest : List ℕ) → x < 4294967296 → y < 4294967296 → z < 4294967296
    → ThreeRead (ended x 32 (ended y 32 (ended z 10 rest))) x y z
three_read x y z rest hx hy hz =
    let t : List ℕ = ended z 10 rest in
    let u : List ℕ = ended y 32 t in
    record {
      fine = line_more 1 x u hx (line_more 0 y t hy (line_last z rest hz));
      one = number_ended x 32 u (omega arith);
      two = rw (next_ended x 32 u (omega arith)) (number_ended y 32 t (omega arith));
      three = rw (next_ended x 32 u (omega arith), next_ended y 32 t (omega arith)) (number_ended z 10 rest (omega arith));
    }

-- one number to a line
ones_at : (l rest : List ℕ) (k : ℕ) → k < length l → skip k (ones l rest) ≡ ended (get_or l k 0) 10 (ones (drop (suc k) l) rest)
unfolding ones
ones_at [] rest k h = absurd (not-suc-le-zero h)
ones_at (x ∷ l) rest zero h = refl
ones_at (x ∷ l) rest (suc k) h = rw (next_ended x 10 (ones l rest) (omega arith)) (ones_at l rest k (le_of_suc-le-suc h))

pub ones_after : (l rest : List ℕ) → skip (length l) (ones l rest) ≡ rest
unfolding ones
ones_after [] rest = refl
ones_after (x ∷ l) rest = ap (skip (length l)) (next_ended x 10 (ones l rest) (omega arith)) ∙ ones_after l rest

pub ones_read : (l rest : List ℕ) (k : ℕ) → k < length l → get_or l k 0 < 4294967296 → OneRead (skip k (ones l rest)) (get_or l k 0)
ones_read l rest k h b = rw (ones_at l rest k h) (one_read (get_or l k 0) (ones (drop (suc k) l) rest) b)

-- three to a line
threes_line : (x y z : ℕ) (l : List ℕ) → threes (x ∷ y ∷ z ∷ l) ≡ ended x 32 (ended y 32 (ended z 10 (threes l)))
unfolding threes
threes_line x y z l = refl

threes_next : (x y z : ℕ) (l : List ℕ) → next (next (next (threes (x ∷ y ∷ z ∷ l)))) ≡ threes l
threes_next x y z l =
    let t : List ℕ = ended z 10 (threes l) in
    let u : List ℕ = ended y 32 t in
    rw (threes_line x y z l, next_ended x 32 u (omega arith), next_ended y 32 t (omega arith)) (next_ended z 10 (threes l) (omega arith))

threes_skip : (k : ℕ) (l : List ℕ) → 3 * k ≤ length l → skip (3 * k) (threes l) ≡ threes (drop (3 * k) l)
threes_skip zero l h = refl
threes_skip (suc k) [] h = absurd (omega arith)
threes_skip (suc k) (x ∷ []) h = absurd (omega arith)
threes_skip (suc k) (x ∷ y ∷ []) h = absurd (omega arith)
threes_skip (suc k) (x ∷ y ∷ z ∷ l) h =
    let e : 3 * suc k ≡ suc (suc (suc (3 * k))) = omega arith in
    rw e (ap (skip (3 * k)) (threes_next x y z l) ∙ threes_skip k l (omega arith))

drop_three : (l : List ℕ) (m : ℕ) → m + 3 ≤ length l → drop m l ≡ get_or l m 0 ∷ get_or l (m + 1) 0 ∷ get_or l (m + 2) 0 ∷ drop (m + 3) l
drop_three l m h =
    let e₁ : m + 1 ≡ suc m = omega arith in
    let e₂ : m + 2 ≡ suc (suc m) = omega arith in
    let e₃ : m + 3 ≡ suc (suc (suc m)) = omega arith in
    rw (e₁, e₂, e₃)
    (drop-cons l m 0 (omega arith)
    ∙ ap (λ (t : List ℕ). get_or l m 0 ∷ t)
    (drop-cons l (suc m) 0 (omega arith) ∙ ap (λ (t : List ℕ). get_or l (suc m) 0 ∷ t) (drop-cons l (suc (suc m)) 0 (omega arith))))

threes_at : (k : ℕ) (l : List ℕ) → 3 * k + 3 ≤ length l
    → skip (3 * k) (threes l) ≡ ended (get_or l (3 * k) 0) 32 (ended (get_or l (3 * k + 1) 0) 32 (ended (get_or l (3 * k + 2) 0) 10 (threes (drop (3 * k + 3) l))))
threes_at k l h = threes_skip k l (omega arith) ∙ ap threes (drop_three l (3 * k) h) ∙ threes_line _ _ _ _

pub threes_read : (l : List ℕ) (k : ℕ) → 3 * k + 3 ≤ length l
    → get_or l (3 * k) 0 < 4294967296 → get_or l (3 * k + 1) 0 < 4294967296 → get_or l (3 * k + 2) 0 < 4294967296
    → ThreeRead (skip (3 * k) (threes l)) (get_or l (3 * k) 0) (get_or l (3 * k + 1) 0) (get_or l (3 * k + 2) 0)
threes_read l k h a b c = rw (threes_at k l h) (three_read _ _ _ (threes (drop (3 * k + 3) l)) a b c)

-- the header
pub record HeadRead (s : List ℕ) (i n o : ℕ) (rest : List ℕ) : Type 0 where
  pub aag : aag_number s ≡ 0
  pub fine : line_number 4 (drop 4 s) ≡ 0
  pub m : head_m s ≡ i + n
  pub inputs : head_i s ≡ i
  pub latches : head_l s ≡ 0
  pub outputs : head_o s ≡ o
  pub gates : head_a s ≡ n
  pub after : body s ≡ rest

module _ (i n o : ℕ) (rest : List ℕ) where
  head_aag : aag_number (header i n o rest) ≡ 0
  unfolding aag_number header Rattle.graph.specs.Finite.if_equal
  head_aag = refl

  head_rest : drop 4 (header i n o rest) ≡ ended (i + n) 32 (ended i 32 (ended 0 32 (ended o 32 (ended n 10 rest))))
  unfolding header
  head_rest = refl

  pub head_read : i < 1000000 → n < 1000000 → o < 1000000 → HeadRead (header i n o rest) i n o rest
  head_read hi hn ho =
      let t₄ : List ℕ = ended n 10 rest in
      let t₃ : List ℕ = ended o 32 t₄ in
      let t₂ : List ℕ = ended 0 32 t₃ in
      let t₁ : List ℕ = ended i 32 t₂ in
      let n₀ = next_ended (i + n) 32 t₁ (omega arith) in
      let n₁ = next_ended i 32 t₂ (omega arith) in
      let n₂ = next_ended 0 32 t₃ (omega arith) in
      let n₃ = next_ended o 32 t₄ (omega arith) in
      let n₄ = next_ended n 10 rest (omega arith) in
      record {
        aag = head_aag;
        fine =
            rw head_rest
            (line_more 3 (i + n) t₁ (omega arith) (line_more 2 i t₂ (omega arith) (line_more 1 0 t₃ (omega arith) (line_more 0 o t₄ (omega arith) (line_last n rest (omega arith))))));
        m = rw head_rest (number_ended (i + n) 32 t₁ (omega arith));
        inputs = rw (head_rest, n₀) (number_ended i 32 t₂ (omega arith));
        latches = rw (head_rest, n₀, n₁) (number_ended 0 32 t₃ (omega arith));
        outputs = rw (head_rest, n₀, n₁, n₂) (number_ended o 32 t₄ (omega arith));
        gates = rw (head_rest, n₀, n₁, n₂, n₃) (number_ended n 10 rest (omega arith));
        after = rw (head_rest, n₀, n₁, n₂, n₃) n₄;
      }
