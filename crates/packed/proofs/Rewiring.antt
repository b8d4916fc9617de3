-- The majority call and the finder on a trimmed graph: truth values, what is near, the pass and which nodes live are the same, and they leave graphs that
-- are the same but for tails. From what is read of a trimmed graph.
use mathlib.Core.Path.{◌≡◌, refl, sym, ap, ◌∙◌, fun_ext}
use mathlib.Core.Bool.{Bool, true, false, cond, ◌&&◌, ◌||◌}
use mathlib.Core.Logic.{⊎_elim}
use mathlib.Core.List.{List, [], ◌∷◌, map}
use Prim.Native.Nat.{ℕ, zero, suc, ◌+◌, ◌-◌, ◌*◌, ◌/◌, ◌%◌, ◌≤◌, ◌<◌}
use native.Mathlib.Omega.{arith}
use borrow.Author.Tests.{le-ltb}
use lib.Dec.{eqb}
use lib.ListN.{length, get_or, take, set}
use lib.Seq.{ext_get_or, get_or-take, length-take-le, take-set-lt}
use Rattle.graph.specs.Admission.{Admitted, admission_number}
use Rattle.graph.specs.Answer.{accepted, refused, outcome, LockedOutcome, locked_outcome, guarded_locks}
use Rattle.graph.specs.Count.{named, output_named}
use Rattle.graph.specs.Finite.{if_equal}
use Rattle.graph.specs.Graph.{Graph, node, word, output, index, is_edge}
use Rattle.graph.specs.Literals.{bit}
use Rattle.graph.specs.Value.{node_value}
use Rattle.graph.proofs.Cases.{lt_or_le, true_or_false}
use Rattle.graph.proofs.Finite.{length_tab, get_d_tab}
use Rattle.graph.proofs.Tests.{less, both}
use Rattle.graph.proofs.Turned.{same_graph}
use Rattle.evaluation.proofs.Gather.{gather_same}
use Rattle.moves.specs.Rows.{lock_at}
use Rattle.moves.specs.Call.{node_fault}
use Rattle.hidden.specs.Truth.{Triple, leak, leaks, node_byte, over, truth}
use Rattle.hidden.specs.Majority.{is_majority, rewired, majority_of, made}
use Rattle.hidden.specs.Find.{reaches, near_below, near, triples, first_made, is_locked, is_plain, passed}
use Rattle.hidden.specs.Drop.{lives_by, lives, live, kept, new_literal, new_word, new_nodes, new_outputs, new_locks, keeping, dropped, dropped_locks, renumbered}
use Rattle.hidden.specs.Call.{lock_fault, majority_number, majority_outcome, majority_call, find_number, found, find_call}
use Rattle.hidden.proofs.Kept.{rank, rank_le, stands}
use Rattle.hidden.proofs.Live.{some_same}
use Rattle.hidden.proofs.MajorityCall.{node_is}
use Rattle.hidden.proofs.Pass.{passed_same}
use Rattle.packed.specs.Old.{trimmed}
use Rattle.packed.proofs.Admitting.{admission_in}
use Rattle.packed.proofs.Calls.{node_fault_in, scratch_fault_in}
use Rattle.packed.proofs.Choosing.{trimmed_outcome, cond_outcome, guarded_when}
use Rattle.packed.proofs.Reading.{node_value_in}
use Rattle.packed.proofs.Trimmed.{word_in, output_in, edge_in, xor_in, named_in, output_named_in}

-- a trimmed graph has no more to trim
take_twice : (n : ℕ) (l : List ℕ) → take n (take n l) ≡ take n l
take_twice zero l = refl
take_twice (suc n) [] = refl
take_twice (suc n) (x ∷ l) = ap (λ (r : List ℕ). x ∷ r) (take_twice n l)

pub trimmed_twice : (g : Graph) → trimmed (trimmed g) ≡ trimmed g
trimmed_twice g = same_graph g.I g.N g.O (take_twice (3 * g.N) g.nodes) (take_twice g.O g.outputs)

-- truth values
module _ (g : Graph) where
  leaks_in : (bs : List ℕ) (j : ℕ) → j < 3 * g.N → leaks (trimmed g) bs j ≡ leaks g bs j
  unfolding leaks
  leaks_in bs j h = rw (edge_in g j h, word_in g j h)

  byte_in : (bs : List ℕ) (v : ℕ) → v < g.N → node_byte (trimmed g) bs v ≡ node_byte g bs v
  unfolding node_byte
  byte_in bs v h =
      rw (
        leaks_in bs (3 * v + 0) (omega arith),
        leaks_in bs (3 * v + 1) (omega arith),
        leaks_in bs (3 * v + 2) (omega arith),
        gather_same (λ k. node_value (trimmed g) (map (bit k) bs) v) (λ k. node_value g (map (bit k) bs) v) 8 (λ k l. node_value_in g (map (bit k) bs) v h),
      )

  over_in : (t : Triple) (n : ℕ) → n ≤ g.N → over (trimmed g) t n ≡ over g t n
  unfolding over
  over_in t zero h = refl
  over_in t (suc n) h = rw (over_in t n (omega arith), byte_in (over g t n) n h)

  pub truth_in : (t : Triple) (u : ℕ) → truth (trimmed g) t u ≡ truth g t u
  unfolding truth
  truth_in t u = ap (λ (l : List ℕ). get_or l u 0) (over_in t g.N (omega arith))

  -- a node made
  set_in : (v x y z : ℕ) → v < g.N
      → set (set (set (take (3 * g.N) g.nodes) (3 * v) x) (3 * v + 1) y) (3 * v + 2) z ≡ take (3 * g.N) (set (set (set g.nodes (3 * v) x) (3 * v + 1) y) (3 * v + 2) z)
  set_in v x y z h =
      let n : ℕ = 3 * g.N in
      let l : List ℕ = set g.nodes (3 * v) x in
      let m : List ℕ = set l (3 * v + 1) y in
      rw (take-set-lt n m (3 * v + 2) z (omega arith), take-set-lt n l (3 * v + 1) y (omega arith), take-set-lt n g.nodes (3 * v) x (omega arith))

  made_in : (t : Triple) (u : ℕ) → g.I < u → u < node g g.N → made (trimmed g) t u ≡ trimmed (made g t u)
  unfolding made majority_of rewired
  made_in t u lo hi = rw (truth_in t u) (same_graph g.I g.N g.O (set_in (u - (g.I + 1)) _ _ _ (omega arith)) refl)

  outcome_in : (t : Triple) (u : ℕ) → g.I < u → u < node g g.N → majority_outcome (trimmed g) t u ≡ trimmed_outcome (majority_outcome g t u)
  unfolding majority_outcome if_equal
  outcome_in t u lo hi =
      rw (truth_in t u)
      (cond_outcome (eqb (truth g t u) leak) _ _ _ _ (λ e. refl)
      (cond_outcome (is_majority (truth g t u)) _ _ _ _ (λ e. ap (outcome (accepted (0 ∷ []))) (made_in t u lo hi)) refl))

module _ (g : Graph) (adm : Admitted g) (ls : List ℕ) (s : ℕ) (t : Triple) (u : ℕ) where
  majority_number_in : majority_number (trimmed g) ls s t u ≡ majority_number g ls s t u
  unfolding majority_number lock_fault lock_at
  majority_number_in = rw (admission_in g adm ls, node_fault_in g u, scratch_fault_in g s)

  node_of : majority_number g ls s t u ≡ 0 → (g.I < u) × (u < node g g.N)
  unfolding majority_number
  node_of e = node_is g u (both (node_fault g u) _ (both (admission_number g ls) _ e).1).0

  pub majority_in : majority_call (trimmed g) ls s t u ≡ trimmed_outcome (majority_call g ls s t u)
  unfolding majority_call
  majority_in =
      rw majority_number_in
      (guarded_when (majority_number g ls s t u) g _ _ (λ e. let n = node_of e in outcome_in g t u n.0 n.1))

-- what is near
module _ (g : Graph) (adm : Admitted g) where
  abbrev by : Graph → ℕ → ℕ → ℕ → Bool
  by h k i j = is_edge h j && (eqb (index (word h j)) i || reaches h k (index (word h j)) i)

  by_in : (k i j : ℕ) → ((u : ℕ) → u < node g g.N → reaches (trimmed g) k u i ≡ reaches g k u i) → j < 3 * g.N → by (trimmed g) k i j ≡ by g k i j
  by_in k i j ih h =
      rw (edge_in g j h, word_in g j h)
      (⊎_elim
      (λ (e : is_edge g j ≡ true). rw (e, ih (index (word g j)) (omega (arith, adm.below j h e))))
      (λ (e : is_edge g j ≡ false). rw e)
      (true_or_false (is_edge g j)))

  reaches_in : (k u i : ℕ) → u < node g g.N → reaches (trimmed g) k u i ≡ reaches g k u i
  unfolding reaches
  reaches_in zero u i h = refl
  reaches_in (suc k) u i h =
      ⊎_elim
      (λ (l : g.I < u).
      let v : ℕ = u - (g.I + 1) in
      let ih : (w : ℕ) → w < node g g.N → reaches (trimmed g) k w i ≡ reaches g k w i = λ w b. reaches_in k w i b in
      rw (by_in k i (3 * v) ih (omega arith), by_in k i (3 * v + 1) ih (omega arith), by_in k i (3 * v + 2) ih (omega arith)))
      (λ (l : u ≤ g.I). rw (le-ltb g.I u l))
      (lt_or_le g.I u)

  near_below_in : (u n : ℕ) → u < node g g.N → near_below (trimmed g) u n ≡ near_below g u n
  unfolding near_below
  near_below_in u zero h = refl
  near_below_in u (suc n) h = rw (reaches_in 3 u (suc n) h, near_below_in u n h)

  near_in : (u : ℕ) → u < node g g.N → near (trimmed g) u ≡ near g u
  unfolding near
  near_in u h = near_below_in u (u - 1) h

  -- the pass
  plain_in : (v : ℕ) → v < g.N → is_plain (trimmed g) v ≡ is_plain g v
  unfolding is_plain
  plain_in v h = rw (xor_in g v h, word_in g (3 * v + 0) (omega arith), word_in g (3 * v + 1) (omega arith), word_in g (3 * v + 2) (omega arith))

first_in : (g : Graph) (u : ℕ) → g.I < u → u < node g g.N → (ts : List Triple) → first_made (trimmed g) u ts ≡ trimmed (first_made g u ts)
unfolding first_made
first_in g u lo hi [] = refl
first_in g u lo hi (t ∷ ts) =
    rw (truth_in g t u)
    (⊎_elim
    (λ (e : is_majority (truth g t u) ≡ true). rw e (made_in g t u lo hi))
    (λ (e : is_majority (truth g t u) ≡ false). rw e (first_in g u lo hi ts))
    (true_or_false (is_majority (truth g t u))))

-- one node of it
passed_one : (h : Graph) (ls : List ℕ) (n : ℕ) → Admitted h → n < h.N
    → cond (is_locked ls n || is_plain (trimmed h) n) (trimmed h) (first_made (trimmed h) (node h n) (triples (near (trimmed h) (node h n))))
    ≡ trimmed (cond (is_locked ls n || is_plain h n) h (first_made h (node h n) (triples (near h (node h n)))))
passed_one h ls n adm b =
    rw (plain_in h adm n b, near_in h adm (node h n) (omega arith))
    (⊎_elim
    (λ (e : (is_locked ls n || is_plain h n) ≡ true). rw e)
    (λ (e : (is_locked ls n || is_plain h n) ≡ false). rw e (first_in h (node h n) (omega arith) (omega arith) (triples (near h (node h n)))))
    (true_or_false (is_locked ls n || is_plain h n)))

passed_in : (g : Graph) (ls : List ℕ) → Admitted g → (n : ℕ) → n ≤ g.N → passed (trimmed g) ls n ≡ trimmed (passed g ls n)
unfolding passed
passed_in g ls adm zero h = refl
passed_in g ls adm (suc n) h =
    let s = passed_same g ls adm n (omega arith) in
    rw (passed_in g ls adm n (omega arith)) (passed_one (passed g ls n) ls n s.keeps.admitted (omega (arith, s.nodes)))

-- which nodes live
module _ (g : Graph) (ls : List ℕ) where
  by_rule_in : (l : ℕ → Bool) (v : ℕ) → lives_by (trimmed g) ls l v ≡ lives_by g ls l v
  unfolding lives_by
  by_rule_in l v =
      rw (
        some_same g.O (output_named (trimmed g) (node g v)) (output_named g (node g v)) (output_named_in g (node g v)),
        some_same (3 * g.N) (λ j. named (trimmed g) (node g v) j && l (j / 3)) (λ j. named g (node g v) j && l (j / 3))
            (λ j h. ap (λ (b : Bool). b && l (j / 3)) (named_in g (node g v) j h)),
      )

  lives_in : (k : ℕ) → lives (trimmed g) ls k ≡ lives g ls k
  unfolding lives
  lives_in zero = refl
  lives_in (suc k) = rw (lives_in k, by_rule_in)

  live_in : live (trimmed g) ls ≡ live g ls
  unfolding live
  live_in = fun_ext (λ v. ap (λ (l : List ℕ). eqb (get_or l (g.N - suc v) 0) 1) (lives_in g.N))

-- the graph with only some nodes kept
module _ (g : Graph) (adm : Admitted g) (l : ℕ → Bool) where
  abbrev n : ℕ
  n = length (kept l g.N)

  few : n ≤ g.N
  unfolding rank
  few = rank_le l g.N

  new_in : (j : ℕ) → j < 3 * g.N → new_word (trimmed g) l j ≡ new_word g l j
  unfolding new_word new_literal renumbered
  new_in j h = rw (edge_in g j h, word_in g j h)

  was_below : (v : ℕ) → v < n → get_or (kept l g.N) v 0 < g.N
  unfolding rank
  was_below v h = (stands l g.N v h).within

  long : length (take (3 * g.N) g.nodes) ≡ 3 * g.N
  long = length-take-le (3 * g.N) g.nodes adm.long_nodes

  outputs_long : length (take g.O g.outputs) ≡ g.O
  outputs_long = length-take-le g.O g.outputs adm.long_outputs

  new_at : (h : Graph) → h.N ≡ g.N → (j : ℕ) → j < 3 * n → 3 * n ≤ length h.nodes → get_or (new_nodes h l) j 0 ≡ new_word h l (3 * get_or (kept l g.N) (j / 3) 0 + j % 3)
  unfolding new_nodes
  new_at h e j b c = rw e (get_d_tab _ _ j (omega arith) ∙ sym (less j (3 * length (kept l g.N)) _ _ b refl))

  new_long : (h : Graph) → length (new_nodes h l) ≡ length h.nodes
  unfolding new_nodes
  new_long h = length_tab _ _

  outputs_new : (h : Graph) → length (new_outputs h l) ≡ length h.outputs
  unfolding new_outputs
  outputs_new h = length_tab _ _

  output_new : (h : Graph) → h.O ≡ g.O → (j : ℕ) → j < g.O → g.O ≤ length h.outputs → get_or (new_outputs h l) j 0 ≡ new_literal h l (output h j)
  unfolding new_outputs
  output_new h e j b c = rw e (get_d_tab _ _ j (omega arith) ∙ sym (less j g.O _ _ b refl))

  literal_in : (x : ℕ) → new_literal (trimmed g) l x ≡ new_literal g l x
  unfolding new_literal renumbered
  literal_in x = refl

  nodes_in : take (3 * n) (new_nodes (trimmed g) l) ≡ take (3 * n) (new_nodes g l)
  nodes_in =
      ext_get_or 0 (take (3 * n) (new_nodes (trimmed g) l)) (take (3 * n) (new_nodes g l)) (same_length (trimmed g) (rw long (omega (arith, few))) ∙ sym (same_length g (omega (arith, few, adm.long_nodes))))
      (λ j b.
      let c : j < 3 * n = rw (same_length (trimmed g) (rw long (omega (arith, few)))) at b in
      get_or-take (3 * n) (new_nodes (trimmed g) l) j 0 c
      ∙ new_at (trimmed g) refl j c (rw long (omega (arith, few)))
      ∙ new_in (3 * get_or (kept l g.N) (j / 3) 0 + j % 3) (omega (arith, was_below (j / 3) (omega arith)))
      ∙ sym (new_at g refl j c (omega (arith, few, adm.long_nodes)))
      ∙ sym (get_or-take (3 * n) (new_nodes g l) j 0 c))
    where
      same_length : (h : Graph) → 3 * n ≤ length h.nodes → length (take (3 * n) (new_nodes h l)) ≡ 3 * n
      same_length h b = length-take-le (3 * n) (new_nodes h l) (rw (new_long h) b)

  outputs_in : take g.O (new_outputs (trimmed g) l) ≡ take g.O (new_outputs g l)
  outputs_in =
      ext_get_or 0 _ _ (same_length (trimmed g) (omega (arith, outputs_long)) ∙ sym (same_length g adm.long_outputs))
      (λ j b.
      let c : j < g.O = rw (same_length (trimmed g) (omega (arith, outputs_long))) at b in
      get_or-take g.O (new_outputs (trimmed g) l) j 0 c
      ∙ output_new (trimmed g) refl j c (omega (arith, outputs_long))
      ∙ literal_in (output (trimmed g) j)
      ∙ ap (new_literal g l) (output_in g j c)
      ∙ sym (output_new g refl j c adm.long_outputs)
      ∙ sym (get_or-take g.O (new_outputs g l) j 0 c))
    where
      same_length : (h : Graph) → g.O ≤ length h.outputs → length (take g.O (new_outputs h l)) ≡ g.O
      same_length h b = length-take-le g.O (new_outputs h l) (rw (outputs_new h) b)

  keeping_in : trimmed (keeping (trimmed g) l) ≡ trimmed (keeping g l)
  unfolding keeping
  keeping_in = same_graph g.I n g.O nodes_in outputs_in

-- a locked outcome, trimmed
abbrev pub trimmed_left : LockedOutcome → LockedOutcome
trimmed_left o = locked_outcome o.answer (trimmed o.graph) o.locks

module _ (g : Graph) (adm : Admitted g) (ls : List ℕ) where
  dropped_in : trimmed_left (locked_outcome (accepted ((dropped (trimmed g) ls).N ∷ [])) (dropped (trimmed g) ls) (dropped_locks (trimmed g) ls))
      ≡ trimmed_left (locked_outcome (accepted ((dropped g ls).N ∷ [])) (dropped g ls) (dropped_locks g ls))
  unfolding dropped dropped_locks new_locks keeping
  dropped_in =
      rw (live_in g ls)
      (ap (λ (h : Graph). locked_outcome (accepted (length (kept (live g ls) g.N) ∷ [])) h (new_locks g ls (live g ls))) (keeping_in g adm (live g ls)))

pub found_in : (g : Graph) (ls : List ℕ) → Admitted g → trimmed_left (found (trimmed g) ls) ≡ trimmed_left (found g ls)
unfolding found
found_in g ls adm =
    let h : Graph = passed g ls g.N in
    rw (passed_in g ls adm g.N (omega arith)) (dropped_in h (passed_same g ls adm g.N (omega arith)).keeps.admitted ls)

left_when : (k : ℕ) (g : Graph) (ls : List ℕ) (o p : LockedOutcome) → trimmed_left p ≡ trimmed_left o → trimmed_left (guarded_locks k (trimmed g) ls p) ≡ trimmed_left (guarded_locks k g ls o)
unfolding guarded_locks
left_when zero g ls o p e = e
left_when (suc k) g ls o p e = ap (λ (h : Graph). locked_outcome (refused (suc k)) h ls) (trimmed_twice g)

pub find_in : (g : Graph) → Admitted g → (ls : List ℕ) (s : ℕ) → trimmed_left (find_call (trimmed g) ls s) ≡ trimmed_left (find_call g ls s)
unfolding find_call find_number
find_in g adm ls s = rw (admission_in g adm ls, scratch_fault_in g s) (left_when (find_number g ls s) g ls (found g ls) (found (trimmed g) ls) (found_in g ls adm))
