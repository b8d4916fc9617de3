-- What an entry's outcome tells of one call, the numbers of its saving, and that only the length of scratch matters. From the laws on
-- tests.
use Rattle.std.proofs.Common.{Result, Ok, Err}
use Rattle.std.specs.Result.{MatchResult, IsOkAnd, result_unwrap_or}
use mathlib.Core.Path.{◌≡◌, refl, sym, ap, ◌∙◌, subst}
use mathlib.Core.Bool.{Bool, true, false, cond}
use mathlib.Core.List.{List, [], ◌∷◌}
use Prim.Native.Nat.{ℕ, ◌+◌, ◌<◌}
use native.Mathlib.Omega.{arith}
use lib.Dec.{ltb, eqb}
use lib.IntN.{ℤ, pos}
use lib.ListN.{length, get_or, take, drop}
use Rattle.graph.specs.Finite.{if_less, if_equal}
use Rattle.graph.specs.Graph.{Graph, graph_of}
use Rattle.graph.specs.Answer.{Answer, accepted, own_of, others_of, refused, number_of, answer_by, count_answer, outcome, LockedOutcome, locked_outcome}
use Rattle.graph.specs.declared.Refusal.{Refusal}
use Rattle.graph.proofs.Tests.{less, no_less, unequal}
use Rattle.moves.specs.Call.{node_call, pair_call, tree_call, saving_answer}
use Rattle.moves.specs.declared.Saving.{Saving}
use Rattle.many.specs.Many.{many_call}
use Rattle.rounds.specs.Settle.{settle_call}
use Rattle.resistive.specs.Resistive.{resistive_call}
use Rattle.answers.specs.Told.{told_by, told_signed}
use Rattle.hidden.specs.Truth.{Triple, triple}
use Rattle.hidden.specs.Call.{majority_call, find_call, found_answer, nodes_after_answer}
use Rattle.promises.specs.Demand.{Call, node_at, pair_at, tree_at, settling, many_at, majority_at, finding, resistive_at, Locked, with_locks, beside, step, left, rewires}
use Rattle.replay.specs.Replay.{Lent, lent, part, three_at, moving_of, call_of, value_of, second_of}
use Rattle.replay.specs.Inner.{Answers, Tells}
use Rattle.replay.specs.Kind.{word_of, Decodes}
use Rattle.replay.specs.declared.calls.CallAnswer.{CallAnswer}
use Rattle.replay.specs.declared.CallsFault.{CallsFault}
use Rattle.replay.specs.declared.kind.Kind.{Kind}
use Rattle.replay.specs.declared.kind.Kind.TheVariants.{Node, Pair, Tree, Settling, Many, Majority, Finder, Resistive}

-- an entry's outcome is the step's
tells : (d h : Locked) (c : Call) (a : Answer) (t : CallAnswer) → locked_outcome a h.graph h.locks ≡ step d c → Answers (second_of c) a h.graph.N t
    → Tells d c h t
tells d h c a t e q =
    record { answer = subst (λ (x : Answer). Answers (second_of c) x h.graph.N t) (ap (λ (o : LockedOutcome). o.answer) e) q; leaves = ap left e }

-- the call of each kind that makes moves
module _ (g h : Graph) (ls sc us ms : List ℕ) (k : Kind) (u w : ℕ) (a : Answer) (t : CallAnswer) where
  abbrev Told : Type 0
  Told = Tells (with_locks g ls) (moving_of (lent sc us ms) (word_of k) u w) (with_locks h ls) t

  pub told_node : k ≡ Node → outcome a h ≡ node_call g ls u → Answers own_of a h.N t → Told
  unfolding moving_of if_equal
  told_node z e q = rw z (tells (with_locks g ls) (with_locks h ls) (node_at u) a t (ap (beside (with_locks g ls)) e) q)

  pub told_pair : k ≡ Pair → outcome a h ≡ pair_call g ls u w → Answers own_of a h.N t → Told
  unfolding moving_of if_equal
  told_pair z e q = rw z (tells (with_locks g ls) (with_locks h ls) (pair_at u w) a t (ap (beside (with_locks g ls)) e) q)

  pub told_tree : k ≡ Tree → outcome a h ≡ tree_call g ls (length sc) u → Answers own_of a h.N t → Told
  unfolding moving_of if_equal
  told_tree z e q = rw z (tells (with_locks g ls) (with_locks h ls) (tree_at u sc) a t (ap (beside (with_locks g ls)) e) q)

  pub told_settling : k ≡ Settling → outcome a h ≡ settle_call g ls (length sc) → Answers own_of a h.N t → Told
  unfolding moving_of if_equal
  told_settling z e q = rw z (tells (with_locks g ls) (with_locks h ls) (settling sc) a t (ap (beside (with_locks g ls)) e) q)

pub told_part : (d h : Locked) (sc us ms : List ℕ) (k : Kind) (u w : ℕ) (t : CallAnswer) → (k ≡ Node → ⊥) → (k ≡ Pair → ⊥) → (k ≡ Tree → ⊥) → (k ≡ Settling → ⊥) → Tells d (many_at (part u w us) (part u w ms)) h t
    → Tells d (moving_of (lent sc us ms) (word_of k) u w) h t
unfolding moving_of if_equal
told_part d h sc us ms Node u w t a b c e q = absurd (a refl)
told_part d h sc us ms Pair u w t a b c e q = absurd (b refl)
told_part d h sc us ms Tree u w t a b c e q = absurd (c refl)
told_part d h sc us ms Settling u w t a b c e q = absurd (e refl)
told_part d h sc us ms Many u w t a b c e q = q
told_part d h sc us ms Majority u w t a b c e q = q
told_part d h sc us ms Finder u w t a b c e q = q
told_part d h sc us ms Resistive u w t a b c e q = q

-- many moves at a part of what is lent
pub told_many : (g h : Graph) (ls us ms vs ns : List ℕ) (s n : ℕ) (a : Answer) (t : CallAnswer) → outcome a h ≡ many_call g ls us ms → us ≡ take n (drop s vs) → ms ≡ take n (drop s ns) → Answers own_of a h.N t
    → Tells (with_locks g ls) (many_at (part s n vs) (part s n ns)) (with_locks h ls) t
unfolding part
told_many g h ls us ms vs ns s n a t e p q r = rw (← p, ← q) (tells (with_locks g ls) (with_locks h ls) (many_at us ms) a t (ap (beside (with_locks g ls)) e) r)

-- three entries of a list, each by its place
pub three_entries : (w : ℕ) (l : List ℕ) (x y z : ℕ) → x ≡ get_or l w 0 → y ≡ get_or l (w + 1) 0 → z ≡ get_or l (w + 2) 0 → triple x y z ≡ three_at w l
unfolding three_at
three_entries w l x y z p q r = λ i. triple (p i) (q i) (r i)

-- the calls that may rewire
pub told_majority : (g h : Graph) (ls sc l : List ℕ) (u w : ℕ) (t : Triple) (a : Answer) (r : CallAnswer) → t ≡ three_at w l → outcome a h ≡ majority_call g ls (length sc) t u
    → Answers value_of a h.N r → Tells (with_locks g ls) (majority_at u (three_at w l) sc) (with_locks h ls) r
told_majority g h ls sc l u w t a r p e q = rw (← p) (tells (with_locks g ls) (with_locks h ls) (majority_at u t sc) a r (ap (beside (with_locks g ls)) e) q)

pub told_finding : (g h : Graph) (ls ls' sc : List ℕ) (a : Answer) (r : CallAnswer) → locked_outcome a h ls' ≡ find_call g ls (length sc) → Answers value_of a h.N r
    → Tells (with_locks g ls) (finding sc) (with_locks h ls') r
told_finding g h ls ls' sc a r e q = tells (with_locks g ls) (with_locks h ls') (finding sc) a r e q

-- the call on a tree for resistive memory
pub told_memory : (g h : Graph) (ls sc : List ℕ) (u : ℕ) (a : Answer) (r : CallAnswer) → outcome a h ≡ resistive_call g ls (length sc) u → Answers own_of a h.N r
    → Tells (with_locks g ls) (resistive_at u sc) (with_locks h ls) r
told_memory g h ls sc u a r e q = tells (with_locks g ls) (with_locks h ls) (resistive_at u sc) a r (ap (beside (with_locks g ls)) e) q

-- the word of a kind that makes moves
moving_word : (k : Kind) → (k ≡ Majority → ⊥) → (k ≡ Finder → ⊥) → (k ≡ Resistive → ⊥) → word_of k < 5
moving_word Node a b c = omega arith
moving_word Pair a b c = omega arith
moving_word Tree a b c = omega arith
moving_word Settling a b c = omega arith
moving_word Many a b c = omega arith
moving_word Majority a b c = absurd (a refl)
moving_word Finder a b c = absurd (b refl)
moving_word Resistive a b c = absurd (c refl)

-- the call of a kind: one that makes moves, a majority call, the finder, one for resistive memory
module _ (d h : Locked) (sc us ms : List ℕ) (k : Kind) (u w : ℕ) (t : CallAnswer) where
  abbrev Told_call : Type 0
  Told_call = Tells d (call_of (lent sc us ms) (word_of k) u w) h t

  pub told_moving : (k ≡ Majority → ⊥) → (k ≡ Finder → ⊥) → (k ≡ Resistive → ⊥) → Tells d (moving_of (lent sc us ms) (word_of k) u w) h t → Told_call
  unfolding call_of
  told_moving a b c q = rw (← less (word_of k) 5 (moving_of (lent sc us ms) (word_of k) u w) _ (moving_word k a b c) refl) q

  pub told_five : k ≡ Majority → Tells d (majority_at u (three_at w us) sc) h t → Told_call
  unfolding call_of if_less if_equal
  told_five e q = rw e q

  pub told_six : k ≡ Finder → Tells d (finding sc) h t → Told_call
  unfolding call_of if_less if_equal
  told_six e q = rw e q

  pub told_seven : k ≡ Resistive → Tells d (resistive_at u sc) h t → Told_call
  unfolding call_of if_less if_equal
  told_seven e q = rw e q

-- a word that is no kind's makes the last kind's call
last_kind : (t : Lent) (u w : ℕ) → call_of t 7 u w ≡ resistive_at u t.scratch
unfolding call_of if_less if_equal
last_kind t u w = refl

no_kind : (t : Lent) (n u w : ℕ) → 7 < n → resistive_at u t.scratch ≡ call_of t n u w
unfolding call_of
no_kind t n u w l = no_less n 5 _ _ (omega arith) (unequal n 5 _ _ (λ z. omega arith) (unequal n 6 _ _ (λ z. omega arith) refl))

-- so that each word's call is that of the kind decoded from it, or else of the last kind
pub decoded_or : (d h : Locked) (t : Lent) (n u w : ℕ) (k : Kind) (a : CallAnswer) (r : Result Kind CallsFault) → Decodes n r → k ≡ result_unwrap_or r Resistive
    → Tells d (call_of t (word_of k) u w) h a → Tells d (call_of t n u w) h a
decoded_or d h t n u w k a (Ok c) e q s = subst (λ (x : ℕ). Tells d (call_of t x u w) h a) (ap word_of q ∙ e) s
decoded_or d h t n u w k a (Err f) e q s =
    subst (λ (c : Call). Tells d c h a) (ap (λ (x : Kind). call_of t (word_of x) u w) q ∙ last_kind t u w ∙ no_kind t n u w e.1) s

-- the number of nodes is the one that it answers
pub by_answer : (d : Locked) (c : Call) (i n o : ℕ) (ns os ls : List ℕ) (t : CallAnswer) → Tells d c (with_locks (graph_of i n o ns os) ls) t
    → Tells d c (with_locks (graph_of i t.nodes o ns os) ls) t
by_answer d c i n o ns os ls t q = subst (λ (x : ℕ). Tells d c (with_locks (graph_of i x o ns os) ls) t) (sym q.answer.nodes) q

-- both numbers of an answer, told where there were zeros
two_told_by : (zs : List ℤ) → let l = told_by zs (pos 0 ∷ pos 0 ∷ []) in (get_or l 0 (pos 0) ≡ get_or zs 0 (pos 0)) × (get_or l 1 (pos 0) ≡ get_or zs 1 (pos 0))
two_told_by [] = (refl, refl)
two_told_by (z ∷ zs) = (refl, refl)

pub answers_told : (a : Answer) (n : ℕ) (l : List ℤ) (m : ℕ) → n ≡ a.number → l ≡ told_signed a (pos 0 ∷ pos 0 ∷ [])
    → Answers own_of a m (record { number = n; own = get_or l 0 (pos 0); others = get_or l 1 (pos 0); nodes = m })
answers_told a n l m e q = let t = two_told_by a.signed in record { number = e; own = rw q t.0; others = rw q t.1; nodes = refl }

-- an answer told as a saving: what `map` makes of it
pub by_map : {T : Type 0} {P : T → Saving → Type 0} (second : Answer → ℤ) (f : T → Answer) (r : Result T Refusal) (b : Result Saving Refusal) (n : ℕ) (t : CallAnswer) → MatchResult r (λ x. IsOkAnd b (P x)) (λ e. b ≡ Err e)
    → ((k : ℕ) → second (refused k) ≡ pos 0) → ((x : T) (s : Saving) → P x s → record { number : (f x).number ≡ 0; own : s.own ≡ second (f x); others : s.others ≡ others_of (f x) })
    → Answers own_of (saving_answer b) n t → Answers second (answer_by f r) n t
by_map second f (Ok x) (Ok s) n t m z h q =
    let e = h x s m in
    record { number = q.number ∙ sym e.number; own = q.own ∙ e.own; others = q.others ∙ e.others; nodes = q.nodes }
by_map second f (Ok x) (Err r) n t m z h q = absurd m
by_map second f (Err r) b n t m z h q =
    let p = rw m at q in
    record { number = p.number; own = p.own ∙ sym (z (number_of r)); others = p.others; nodes = p.nodes }

-- and an answer told as a value
pub by_value : {T : Type 0} {P : T → ℕ → Type 0} (f : T → Answer) (r : Result T Refusal) (b : Result ℕ Refusal) (n : ℕ) (t : CallAnswer) → MatchResult r (λ x. IsOkAnd b (P x)) (λ e. b ≡ Err e)
    → ((x : T) (v : ℕ) → P x v → f x ≡ accepted (v ∷ [])) → Answers value_of (count_answer b) n t → Answers value_of (answer_by f r) n t
by_value f (Ok x) (Ok v) n t m h q = rw (h x v m) q
by_value f (Ok x) (Err r) n t m h q = absurd m
by_value f (Err r) b n t m h q = rw m at q

-- the nodes that a finder leaves
pub nodes_left : (r : Result ℕ Refusal) (n : ℕ) → result_unwrap_or r n ≡ nodes_after_answer n (found_answer r)
nodes_left (Ok x) n = refl
nodes_left (Err r) n = refl

-- calls that differ in their scratch, of the same length, are the same
record Alike (d : Locked) (c c' : Call) : Type 0 where
  steps : step d c ≡ step d c'
  words : rewires c ≡ rewires c'

alike : (b x y z a m f : Bool) (d : Locked) (sc sc' us ms : List ℕ) (u w : ℕ) (v : Triple) → length sc ≡ length sc'
    → let c = cond b (cond x (node_at u) (cond y (pair_at u w) (cond z (tree_at u sc) (cond a (settling sc) (many_at us ms))))) (cond m (majority_at u v sc) (cond f (finding sc) (resistive_at u sc))) in
    let c' = cond b (cond x (node_at u) (cond y (pair_at u w) (cond z (tree_at u sc') (cond a (settling sc') (many_at us ms))))) (cond m (majority_at u v sc') (cond f (finding sc') (resistive_at u sc'))) in
    Alike d c c'
alike true true y z a m f d sc sc' us ms u w v e = record { steps = refl; words = refl }
alike true false true z a m f d sc sc' us ms u w v e = record { steps = refl; words = refl }
alike true false false true a m f d sc sc' us ms u w v e = record { steps = ap (λ (n : ℕ). beside d (tree_call d.graph d.locks n u)) e; words = refl }
alike true false false false true m f d sc sc' us ms u w v e = record { steps = ap (λ (n : ℕ). beside d (settle_call d.graph d.locks n)) e; words = refl }
alike true false false false false m f d sc sc' us ms u w v e = record { steps = refl; words = refl }
alike false x y z a true f d sc sc' us ms u w v e = record { steps = ap (λ (n : ℕ). beside d (majority_call d.graph d.locks n v u)) e; words = refl }
alike false x y z a false true d sc sc' us ms u w v e = record { steps = ap (λ (n : ℕ). find_call d.graph d.locks n) e; words = refl }
alike false x y z a false false d sc sc' us ms u w v e = record { steps = ap (λ (n : ℕ). beside d (resistive_call d.graph d.locks n u)) e; words = refl }

module _ (d h : Locked) (sc sc' us ms : List ℕ) (k u w : ℕ) (t : CallAnswer) (e : length sc ≡ length sc') where
  same_call : Alike d (call_of (lent sc us ms) k u w) (call_of (lent sc' us ms) k u w)
  unfolding call_of moving_of if_less if_equal
  same_call = alike (ltb k 5) (eqb k 0) (eqb k 1) (eqb k 2) (eqb k 3) (eqb k 5) (eqb k 6) d sc sc' (part u w us) (part u w ms) u w (three_at w us) e

  pub tells_alike : Tells d (call_of (lent sc us ms) k u w) h t → Tells d (call_of (lent sc' us ms) k u w) h t
  tells_alike q =
      let s = same_call in
      let second : Bool → Answer → ℤ = λ b a. cond b (value_of a) (own_of a) in
      let p = subst (λ (b : Bool). Answers (second b) (step d (call_of (lent sc us ms) k u w)).answer h.graph.N t) s.words q.answer in
      record {
        answer = subst (λ (o : LockedOutcome). Answers (second_of (call_of (lent sc' us ms) k u w)) o.answer h.graph.N t) s.steps p;
        leaves = q.leaves ∙ ap left s.steps;
      }
