-- What a field has that is accepted, and one step of each walk. From the laws on tests.
use Prim.Native.Nat.{ℕ, zero, suc, ◌+◌, ◌-◌, ◌<◌, ◌≤◌}
use mathlib.Core.Path.{◌≡◌, refl, sym, ap, ◌∙◌}
use mathlib.Core.List.{List, [], ◌∷◌}
use native.Mathlib.Omega.{arith}
use native.Mathlib.Nat.{eq-or-lt_of_le}
use mathlib.Core.Logic.{⊎_elim, ◌≢◌}
use lib.ListN.{length, get_or, take, drop, length-drop}
use lib.Seq.{take_all}
use Rattle.std.proofs.Common.{Result}
use Rattle.std.specs.Result.{IsErrAnd}
use Rattle.graph.specs.Answer.{number_of, refusal_number}
use Rattle.graph.specs.declared.Refusal.{Refusal}
use Rattle.graph.proofs.Answers.{ends_row}
use Rattle.graph.proofs.Admit.{Rooms, rooms}
use Rattle.graph.proofs.Cases.{eq_or_ne}
use Rattle.graph.proofs.Tests.{less, equal, unequal, off, on, is, both}
use Rattle.file_checks.specs.Walk.{NodeRoom, LockRoom}
use Rattle.graph.specs.Finite.{if_less, if_equal, first}
use Rattle.graph.specs.Graph.{mark, index}
use Rattle.file_checks.specs.File.{be2, be4, payload_of, due_number, node_size, third, head_number, node_field_number, output_field_number, lock_field_number, end_number, locks_within, lock_count, lock_fields_number, output_fields_number, node_fields_number}

-- what an accepted field has
pub record Due (low high : ℕ) (s : List ℕ) : Type 0 where
  pub head : 3 ≤ length s
  pub least : low ≤ get_or s 0 0
  pub most : get_or s 0 0 ≤ high
  pub size : be2 s 1 ≡ payload_of (get_or s 0 0)
  pub whole : 3 + payload_of (get_or s 0 0) ≤ length s

pub due_is : (low high : ℕ) (s : List ℕ) → due_number low high s ≡ 0 → Due low high s
unfolding due_number
due_is low high s e =
    let a = off _ _ _ _ e in
    let b = off _ _ _ _ a.1 in
    let d = off _ _ _ _ b.1 in
    let f = is _ _ _ _ d.1 in
    let g = off _ _ _ _ f.1 in
    record { head = a.0; least = b.0; most = d.0; size = f.0; whole = g.0 }

-- a walk that is refused at its next step, by that step's fault
pub stops_row : {T : Type 0} {W D : ℕ} (r : Result T Refusal) (x : Refusal) (a R : ℕ) → W ≡ D → W ≡ first a R → IsErrAnd r (λ y. y ≡ x) → number_of x ≡ a
    → refusal_number r ≡ D
stops_row r x a R w s e n = ends_row r x a R e n ∙ sym s ∙ w

-- one step of each walk, and its end
pub outputs_step : (n m : ℕ) (s : List ℕ) (low top : ℕ) → n ≡ suc m
    → output_fields_number n s low top ≡ first (output_field_number s top) (output_fields_number m (drop 7 s) low top)
outputs_step n m s low top e = rw e

pub outputs_done : (n : ℕ) (s : List ℕ) (low top : ℕ) → n ≡ 0 → output_fields_number n s low top ≡ lock_fields_number (lock_count s) s low top
outputs_done n s low top e = rw e

pub nodes_step : (n m o : ℕ) (s : List ℕ) (low v : ℕ) → n ≡ suc m
    → node_fields_number n o s low v ≡ first (node_field_number s v) (node_fields_number m o (drop (node_size s) s) low (v + 1))
nodes_step n m o s low v e = rw e

pub nodes_done : (n o : ℕ) (s : List ℕ) (low v : ℕ) → n ≡ 0 → node_fields_number n o s low v ≡ output_fields_number o s low v
nodes_done n o s low v e = rw e

-- how many locks there are: the bytes are always enough to count by
enough : (k m : ℕ) (s : List ℕ) → length s ≤ k → length s ≤ m → locks_within k s ≡ locks_within m s
enough zero zero s h l = refl
enough zero (suc m) [] h l = unequal 0 6 _ _ (λ e. omega arith) refl
enough zero (suc m) (b ∷ s) h l = absurd (omega arith)
enough (suc k) zero [] h l = sym (unequal 0 6 _ _ (λ e. omega arith) refl)
enough (suc k) zero (b ∷ s) h l = absurd (omega arith)
enough (suc k) (suc m) s h l =
    let d = length-drop 7 s in
    ap (λ (more : ℕ). if_equal (get_or s 0 0) 6 (suc more) 0) (enough k m (drop 7 s) (omega arith) (omega arith))

pub lock_there : (s : List ℕ) → get_or s 0 0 ≡ 6 → lock_count s ≡ suc (lock_count (drop 7 s))
unfolding lock_count
lock_there [] e = absurd (omega arith)
lock_there (b ∷ s) e =
    let d = length-drop 7 (b ∷ s) in
    sym (equal _ _ _ _ e (ap suc (enough (length (drop 7 (b ∷ s))) (length s) (drop 7 (b ∷ s)) (omega arith) (omega arith))))

pub no_lock : (s : List ℕ) → (get_or s 0 0 ≡ 6 → ⊥) → lock_count s ≡ 0
unfolding lock_count
no_lock [] n = refl
no_lock (b ∷ s) n = sym (unequal _ _ _ _ n refl)

pub locks_step : (s : List ℕ) (low top : ℕ) → get_or s 0 0 ≡ 6
    → lock_fields_number (lock_count s) s low top ≡ first (lock_field_number s low top) (lock_fields_number (lock_count (drop 7 s)) (drop 7 s) (be4 s 3 + 1) top)
locks_step s low top e = rw (lock_there s e) refl

pub locks_done : (s : List ℕ) (low top : ℕ) → (get_or s 0 0 ≡ 6 → ⊥) → lock_fields_number (lock_count s) s low top ≡ end_number s
locks_done s low top n = rw (no_lock s n) refl

pub part : (s : List ℕ) (n : ℕ) → n ≡ be2 s 1 → take (3 + n - 3) (drop 3 s) ≡ take (be2 s 1) (drop 3 s)
part s n e = let q : 3 + n - 3 ≡ be2 s 1 = omega arith in rw q

-- what `&s[k..]` is
pub rest : (k : ℕ) (s : List ℕ) → take (length s - k) (drop k s) ≡ drop k s
rest k s = take_all (length s - k) (drop k s) (omega (arith, length-drop k s))

pub rest_at : (k m : ℕ) (s : List ℕ) → k ≡ m → take (length s - k) (drop k s) ≡ drop m s
rest_at k m s e = rest k s ∙ ap (λ (j : ℕ). drop j s) e

-- the payload of each tag
pub payload_one : payload_of 1 ≡ 12
unfolding payload_of if_equal
payload_one = refl

pub payload_two : payload_of 2 ≡ 12
unfolding payload_of if_equal
payload_two = refl

pub payload_three : payload_of 3 ≡ 8
unfolding payload_of if_equal
payload_three = refl

pub payload_four : payload_of 4 ≡ 4
unfolding payload_of if_equal
payload_four = refl

pub payload_five : payload_of 5 ≡ 0
unfolding payload_of if_equal
payload_five = refl

pub payload_six : payload_of 6 ≡ 4
unfolding payload_of if_equal
payload_six = refl

-- how much an accepted field of each kind has
pub size_at : (t k n : ℕ) → payload_of k ≡ n → t ≡ k → payload_of t ≡ n
size_at t k n e q = ap payload_of q ∙ e

room_of : (tag n : ℕ) (s : List ℕ) → payload_of tag ≡ n → due_number tag tag s ≡ 0 → 3 + n ≤ length s
room_of tag n s p e = let d = due_is tag tag s e in omega (arith, size_at (get_or s 0 0) tag n p (omega arith))

pub head_room : (s : List ℕ) → due_number 1 1 s ≡ 0 → 15 ≤ length s
head_room s e = room_of 1 12 s payload_one e

pub out_room : (s : List ℕ) → due_number 4 4 s ≡ 0 → 7 ≤ length s
out_room s e = room_of 4 4 s payload_four e

pub lock_room_lem : (s : List ℕ) → due_number 6 6 s ≡ 0 → 7 ≤ length s
lock_room_lem s e = room_of 6 4 s payload_six e

pub node_room_lem : (s : List ℕ) → due_number 2 3 s ≡ 0 → NodeRoom s
unfolding node_size
node_room_lem s e =
    let d = due_is 2 3 s e in
    ⊎_elim
    (λ q.
    let z = size_at (get_or s 0 0) 2 12 payload_two (sym q) in
    record { two = omega arith; whole = omega arith; size = unequal (get_or s 0 0) 3 11 15 (λ t. omega arith) (omega arith) })
    (λ q.
    let z = size_at (get_or s 0 0) 3 8 payload_three (omega arith) in
    record { two = omega arith; whole = omega arith; size = equal (get_or s 0 0) 3 11 15 (omega arith) (omega arith) })
    (eq-or-lt_of_le d.least)

-- its size, by its kind
module _ (s : List ℕ) (r : NodeRoom s) where
  pub size_xor : get_or s 0 0 ≡ 3 → node_size s ≡ 11
  size_xor e = r.size ∙ sym (equal (get_or s 0 0) 3 11 15 e refl)

  pub size_majority : (get_or s 0 0 ≡ 3 → ⊥) → node_size s ≡ 15
  size_majority n = r.size ∙ sym (unequal (get_or s 0 0) 3 11 15 n refl)

-- the number that it ends with, from place `at` on: an XOR's second
module _ (s : List ℕ) (at : ℕ) (e : at ≡ if_equal (get_or s 0 0) 3 7 11) where
  ends_xor : get_or s 0 0 ≡ 3 → at ≡ 7
  ends_xor t = e ∙ sym (equal (get_or s 0 0) 3 7 11 t refl)

  ends_majority : get_or s 0 0 ≢ 3 → at ≡ 11
  ends_majority n = e ∙ sym (unequal (get_or s 0 0) 3 7 11 n refl)

  pub third_last : if_equal (get_or s 0 0) 3 mark (be4 s at) ≡ third s
  unfolding third
  third_last =
      ⊎_elim
      (λ (t : get_or s 0 0 ≡ 3). sym (equal (get_or s 0 0) 3 mark (be4 s at) t refl) ∙ equal (get_or s 0 0) 3 mark (be4 s 11) t refl)
      (λ (n : get_or s 0 0 ≢ 3). rw (ends_majority n))
      (eq_or_ne (get_or s 0 0) 3)

pub last_below : (s : List ℕ) (v at : ℕ) → at ≡ if_equal (get_or s 0 0) 3 7 11 → index (be4 s 7) < v
    → ◌≡◌ {A = ℕ} (if_less (index (be4 s at)) v 0 5) (if_equal (get_or s 0 0) 3 0 (if_less (index (be4 s 11)) v 0 5))
last_below s v at e h =
    ⊎_elim
    (λ (t : get_or s 0 0 ≡ 3).
    equal (get_or s 0 0) 3 0 (if_less (index (be4 s 11)) v 0 5) t (rw (ends_xor s at e t) (sym (less (index (be4 s 7)) v 0 5 h refl))))
    (λ (n : get_or s 0 0 ≢ 3). unequal (get_or s 0 0) 3 0 (if_less (index (be4 s 11)) v 0 5) n (rw (ends_majority s at e n)))
    (eq_or_ne (get_or s 0 0) 3)

pub out_passed : (s : List ℕ) (i : ℕ) → output_field_number s i ≡ 0 → 7 ≤ length s
unfolding output_field_number
out_passed s i e = out_room s (both _ _ e).0

pub node_passed : (s : List ℕ) (i : ℕ) → node_field_number s i ≡ 0 → NodeRoom s
unfolding node_field_number
node_passed s i e = node_room_lem s (both _ _ e).0

pub lock_passed : (s : List ℕ) (low top : ℕ) → lock_field_number s low top ≡ 0 → LockRoom s low top
unfolding lock_field_number
lock_passed s low top e =
    let f = both _ _ e in
    let l = off _ _ _ _ f.1 in
    record { whole = lock_room_lem s f.0; least = l.0; below = (on _ _ _ _ l.1).0 }

pub record HeadPassed (s : List ℕ) (a b l : ℕ) : Type 0 where
  pub room : 15 ≤ length s
  pub rooms : Rooms (be4 s 3) (be4 s 7) (be4 s 11) a b l

pub head_passed : (s : List ℕ) (a b l : ℕ) → head_number s a b l ≡ 0 → HeadPassed s a b l
unfolding head_number
head_passed s a b l e = let h = both _ _ e in record { room = head_room s h.0; rooms = rooms _ _ _ _ _ _ h.1 }
