-- A number read digit by digit, and what then is known of it. From the laws on walking over digits.
use Prim.Native.Nat.{ℕ, suc, ◌+◌, ◌-◌, ◌*◌, ◌<◌, ◌≤◌}
use mathlib.Core.Path.{◌≡◌, refl, sym, ap, ◌∙◌}
use mathlib.Core.Logic.{◌⊎◌, ⊎_elim, ◌≢◌}
use mathlib.Core.List.{List}
use native.Mathlib.Omega.{arith}
use native.Mathlib.Numerals.{add-one}
use lib.ListN.{length, get_or, drop, get_or-eq_default}
use Rattle.graph.specs.Finite.{if_less, if_equal}
use Rattle.graph.proofs.Cases.{lt_or_le, eq_or_ne}
use Rattle.graph.proofs.Tests.{less, no_less, equal, unequal}
use Rattle.aiger.specs.Lines.{digits, worth, number, ended_number}
use Rattle.aiger.proofs.Walk.{worth_step, digits_step, worth_low, worth_high, worth_end, digits_low, digits_high, digits_end, worth_grows}
use Rattle.aiger_import.specs.Reading.{DigitsRead, NumberIs, NumberRead, NumberThere}
use Rattle.aiger_import.specs.declared.lines.Number.{Number}
use Rattle.graph.specs.declared.Refusal.{Refusal}
use Rattle.graph.specs.declared.Refusal.TheVariants.{BadText}
use Rattle.std.proofs.Common.{Result, Ok, Err}

-- the first digits read, worth a value below the limit
pub record Reading (s : List ℕ) (value count : ℕ) : Type 0 where
  pub within : count ≤ length s
  pub low : value < 4294967296
  pub worth_left : worth value (drop count s) ≡ number s
  pub digits_left : count + digits (drop count s) ≡ digits s

pub reading_start : (s : List ℕ) → Reading s 0 0
unfolding number
reading_start s = record { within = omega arith; low = omega arith; worth_left = refl; digits_left = omega arith }

module _ (s : List ℕ) (value count : ℕ) (r : Reading s value count) where
  -- no more digits
  stops : worth value (drop count s) ≡ value → digits (drop count s) ≡ 0 → DigitsRead s value count
  stops w d = record { known = λ h. (sym w ∙ r.worth_left, omega (arith, r.digits_left)); over = λ h. absurd (omega (arith, r.low)) }

  pub reading_end : length s ≤ count → DigitsRead s value count
  reading_end h = stops (worth_end s count value h) (digits_end s count value h)

  module _ (h : count < length s) where
    pub reading_none : (get_or s count 0 < 48) ⊎ (58 ≤ get_or s count 0) → DigitsRead s value count
    reading_none t =
        ⊎_elim
        (λ (l : get_or s count 0 < 48). stops (worth_low s count value h l) (digits_low s count value h l))
        (λ (l : 58 ≤ get_or s count 0). stops (worth_high s count value h l) (digits_high s count value h l))
        t

    module _ (d : ℕ) (t : (48 ≤ get_or s count 0) × (get_or s count 0 < 58) × (d ≡ get_or s count 0 - 48)) where
      next_worth : worth (10 * value + d) (drop (count + 1) s) ≡ number s
      next_worth = rw (t.2, add-one count) (worth_step s count value h t.0 t.1 ∙ r.worth_left)

      pub reading_more : 10 * value + d < 4294967296 → Reading s (10 * value + d) (count + 1)
      reading_more l =
          let k = digits_step s count value h t.0 t.1 in
          let q : digits (drop (count + 1) s) ≡ digits (drop (suc count) s) = ap (λ (m : ℕ). digits (drop m s)) (add-one count) in
          record { within = omega arith; low = l; worth_left = next_worth; digits_left = omega (arith, r.digits_left) }

      pub reading_over : 4294967296 ≤ 10 * value + d → DigitsRead s (10 * value + d) (count + 1)
      reading_over l =
          let g = worth_grows (drop (count + 1) s) (10 * value + d) in
          record { known = λ h. absurd (omega arith); over = λ h. omega (arith, next_worth) }

-- a number that is known to be there: a byte from 48 on is one of its digits
module _ (s : List ℕ) (value count : ℕ) (r : Reading s value count) (t : NumberThere s) where
  pub known_room : count < length s
  known_room = omega (arith, r.digits_left, t.within)

  module _ (h : 48 ≤ get_or s count 0) where
    inside : count < digits s
    inside =
        ⊎_elim
        (λ (e : count ≡ digits s). absurd (omega (arith, rw (← e) at t.stop)))
        (λ (n : count ≢ digits s). omega (arith, r.digits_left))
        (eq_or_ne count (digits s))

    pub known_digit : get_or s count 0 < 58
    known_digit =
        ⊎_elim
        (λ (l : get_or s count 0 < 58). l)
        (λ (l : 58 ≤ get_or s count 0). absurd (omega (arith, r.digits_left, inside, digits_high s count value known_room l)))
        (lt_or_le (get_or s count 0) 58)

    pub known_low : 10 * value + (get_or s count 0 - 48) < 4294967296
    known_low =
        let d = get_or s count 0 - 48 in
        omega (arith, worth_grows (drop (count + 1) s) (10 * value + d), next_worth s value count r known_room d (h, known_digit, refl), t.fits)

    pub known_more : Reading s (10 * value + (get_or s count 0 - 48)) (count + 1)
    known_more = reading_more s value count r known_room (get_or s count 0 - 48) (h, known_digit, refl) known_low

  pub known_end : get_or s count 0 < 48 → (value ≡ number s) × (count ≡ digits s)
  known_end l =
      (sym (worth_low s count value known_room l) ∙ r.worth_left, omega (arith, r.digits_left, digits_low s count value known_room l))

-- a fact on what was returned
ok_is : {s : List ℕ} {m : Number} (n : Number) → ◌≡◌ {A = Result Number Refusal} (Ok m) (Ok n) → NumberIs s m → NumberIs s n
ok_is {s} {m} n e f = let q : m ≡ n = cc in rw (← q) f

-- the number that the digits make, and the byte after them
module _ (end : ℕ) (s : List ℕ) (value count : ℕ) (d : DigitsRead s value count) where
  refused : ended_number end s ≡ 10 → NumberRead end s (Err BadText)
  refused e = record { fault_is = sym e; is = λ n h. absurd (cc) }

  pub too_large : 4294967296 ≤ value → NumberRead end s (Err BadText)
  unfolding ended_number
  too_large h =
      let o = d.over h in
      refused
      (⊎_elim
      (λ (l : 0 < digits s). sym (less 0 (digits s) _ _ l (no_less (number s) 4294967296 _ _ o refl)))
      (λ (l : digits s ≤ 0). sym (no_less 0 (digits s) _ _ l refl))
      (lt_or_le 0 (digits s)))

  module _ (h : value < 4294967296) where
    pub no_digits : count ≡ 0 → NumberRead end s (Err BadText)
    unfolding ended_number
    no_digits z =
        let k = d.known h in
        refused (sym (no_less 0 (digits s) _ _ (omega arith) refl))

    module _ (z : count ≡ 0 → ⊥) where
      -- the rest of the tests
      ended_is : ended_number end s ≡ if_equal (get_or s count 0) end (if_equal (get_or s 0 0) 48 (if_less 1 count 10 0) 0) 10
      unfolding ended_number
      ended_is =
          let k = d.known h in
          sym (less 0 (digits s) _ _ (omega arith) (less (number s) 4294967296 _ _ (omega arith) (rw k.1 refl)))

      pub no_end : 0 < end → length s ≤ count → NumberRead end s (Err BadText)
      no_end p l = refused (ended_is ∙ sym (unequal (get_or s count 0) end _ _ (λ q. omega (arith, q, get_or-eq_default s 0 {n = count} l)) refl))

      pub other_end : (get_or s count 0 ≡ end → ⊥) → NumberRead end s (Err BadText)
      other_end q = refused (ended_is ∙ sym (unequal (get_or s count 0) end _ _ q refl))

      module _ (q : get_or s count 0 ≡ end) where
        last_is : (x : ℕ) → x ≡ if_equal (get_or s 0 0) 48 (if_less 1 count 10 0) 0 → ended_number end s ≡ x
        last_is x f = ended_is ∙ sym (equal (get_or s count 0) end _ _ q f)

        pub leading : get_or s 0 0 ≡ 48 → 1 < count → NumberRead end s (Err BadText)
        leading a l = refused (last_is 10 (equal _ _ _ _ a (less _ _ _ _ l refl)))

        pub whole : ((get_or s 0 0 ≡ 48) → count ≤ 1) → count < length s → NumberRead end s (Ok (record { value = value; size = count + 1 }))
        whole f l =
            let k = d.known h in
            record {
              fault_is =
                  sym
                  (last_is 0
                  (⊎_elim
                  (λ (a : get_or s 0 0 ≡ 48). equal _ _ _ _ a (no_less _ _ _ _ (f a) refl))
                  (λ (a : get_or s 0 0 ≢ 48). unequal _ _ _ _ a refl)
                  (eq_or_ne (get_or s 0 0) 48)));
              is = λ n e. ok_is n e (record { value_is = k.0; size_is = omega arith; within = omega arith });
            }
