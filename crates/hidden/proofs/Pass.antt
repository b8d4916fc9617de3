-- The finder's pass keeps every value, the number of nodes, and that the graph is admitted: each triple near a node rises and lies below it.
use mathlib.Core.Path.{◌≡◌, refl, sym, ap, ◌∙◌}
use mathlib.Core.Bool.{true, false, true≢false, ◌||◌}
use mathlib.Core.Logic.{⊎_elim, ◌≢◌}
use mathlib.Core.List.{List, [], ◌∷◌, ◌++◌, map}
use Prim.Native.Nat.{ℕ, zero, suc, ◌+◌, ◌-◌, ◌/◌, ◌≤◌, ◌<◌}
use native.Mathlib.Omega.{arith}
use Rattle.graph.specs.Graph.{Graph, word}
use Rattle.graph.specs.Admission.{Admitted}
use Rattle.graph.proofs.Cases.{true_or_false}
use Rattle.hidden.specs.Truth.{Triple, triple, truth}
use Rattle.hidden.specs.Majority.{is_majority, majority_of, made}
use Rattle.hidden.specs.Find.{reaches, near_below, near, pairs, triples, first_made, is_locked, is_plain, passed}
use Rattle.hidden.specs.Keeps.{Keeps, Same}
use Rattle.hidden.specs.Inner.{Rising, Between}
use Rattle.hidden.specs.Promises.{LockedPassed}
use Rattle.hidden.proofs.Bools.{none_true}
use Rattle.hidden.proofs.Rewired.{rewired_other}
use Rattle.hidden.proofs.MajorityCall.{same_itself, made_same}

between_snoc : (lo hi : ℕ) (l : List ℕ) → lo < hi → Between lo hi l → Between lo (suc hi) (l ++ (hi ∷ []))
between_snoc lo hi [] h b = (h, omega arith, tt)
between_snoc lo hi (x ∷ xs) h b = (b.0, omega arith, between_snoc x hi xs b.1 b.2)

between_up : (lo hi : ℕ) (l : List ℕ) → Between lo hi l → Between lo (suc hi) l
between_up lo hi [] b = tt
between_up lo hi (x ∷ xs) b = (b.0, omega arith, between_up x hi xs b.2)

pub between_down : (lo mi hi : ℕ) (l : List ℕ) → lo ≤ mi → Between mi hi l → Between lo hi l
between_down lo mi hi [] h b = tt
between_down lo mi hi (x ∷ xs) h b = (omega arith, b.1, b.2)

pub near_between : (g : Graph) (u n : ℕ) → Between 0 (suc n) (near_below g u n)
unfolding near_below
near_between g u zero = tt
near_between g u (suc n) =
    ⊎_elim
    (λ (e : reaches g 3 u (suc n) ≡ true). rw e (between_snoc 0 (suc n) (near_below g u n) (omega arith) (near_between g u n)))
    (λ (e : reaches g 3 u (suc n) ≡ false). rw e (between_up 0 (suc n) (near_below g u n) (near_between g u n)))
    (true_or_false (reaches g 3 u (suc n)))

-- each triple of a list rises and lies below u
abbrev Fit : ℕ → List Triple → Type 0
Fit u [] = Unit {0}
Fit u (t ∷ ts) = Rising t u × Fit u ts

fit_append : (u : ℕ) (ts ss : List Triple) → Fit u ts → Fit u ss → Fit u (ts ++ ss)
fit_append u [] ss a b = b
fit_append u (t ∷ ts) ss a b = (a.0, fit_append u ts ss a.1 b)

fit_last : (u x y : ℕ) → 0 < x → x < y → (zs : List ℕ) → Between y u zs → Fit u (map (λ z. triple x y z) zs)
fit_last u x y p h [] b = tt
fit_last u x y p h (z ∷ zs) b =
    (record { positive = p; second = h; third = b.0; below = b.1 }, fit_last u x y p h zs (between_down y z u zs (omega arith) b.2))

fit_pairs : (u x : ℕ) → 0 < x → (ys : List ℕ) → Between x u ys → Fit u (pairs x ys)
unfolding pairs
fit_pairs u x p [] b = tt
fit_pairs u x p (y ∷ ys) b =
    fit_append u (map (λ z. triple x y z) ys) (pairs x ys) (fit_last u x y p b.0 ys b.2) (fit_pairs u x p ys (between_down x y u ys (omega arith) b.2))

fit_triples : (u : ℕ) (xs : List ℕ) → Between 0 u xs → Fit u (triples xs)
unfolding triples
fit_triples u [] b = tt
fit_triples u (x ∷ xs) b =
    fit_append u (pairs x xs) (triples xs) (fit_pairs u x b.0 xs b.2) (fit_triples u xs (between_down 0 x u xs (omega arith) b.2))

fit_near : (g : Graph) (u : ℕ) → 0 < u → Fit u (triples (near g u))
unfolding near
fit_near g u h = let e : suc (u - 1) ≡ u = omega arith in fit_triples u (near_below g u (u - 1)) (rw e at (near_between g u (u - 1)))

first_same : (g : Graph) → Admitted g → (u : ℕ) → g.I < u → u < g.I + 1 + g.N → (ts : List Triple) → Fit u ts → Same g (first_made g u ts)
unfolding first_made
first_same g adm u lo hi [] f = same_itself g adm
first_same g adm u lo hi (t ∷ ts) f =
    ⊎_elim
    (λ (e : is_majority (truth g t u) ≡ true). rw e (made_same g adm t u lo hi f.0 e))
    (λ (e : is_majority (truth g t u) ≡ false). rw e (first_same g adm u lo hi ts f.1))
    (true_or_false (is_majority (truth g t u)))

pub keeps_both : (g h k : Graph) → Keeps g h → Keeps h k → Keeps g k
keeps_both g h k a b =
    record {
      inputs = b.inputs ∙ a.inputs;
      outputs = b.outputs ∙ a.outputs;
      fewer = omega (arith, a.fewer, b.fewer);
      admitted = b.admitted;
      same = λ e j l. b.same e j (omega (arith, a.outputs)) ∙ a.same e j l;
    }

same_both : (g h k : Graph) → Same g h → Same h k → Same g k
same_both g h k a b =
    record {
      keeps = keeps_both g h k a.keeps b.keeps;
      nodes = b.nodes ∙ a.nodes;
      all = λ e i l. b.all e i (omega (arith, a.nodes, a.keeps.inputs)) ∙ a.all e i l;
    }

pub passed_same : (g : Graph) (ls : List ℕ) → Admitted g → (n : ℕ) → n ≤ g.N → Same g (passed g ls n)
unfolding passed
passed_same g ls adm zero l = same_itself g adm
passed_same g ls adm (suc n) l =
    let h : Graph = passed g ls n in
    let s : Same g h = passed_same g ls adm n (omega arith) in
    let u : ℕ = h.I + 1 + n in
    ⊎_elim
    (λ (e : (is_locked ls n || is_plain h n) ≡ true). rw e s)
    (λ (e : (is_locked ls n || is_plain h n) ≡ false).
    rw e (same_both g h _ s (first_same h s.keeps.admitted u (omega arith) (omega (arith, s.nodes)) (triples (near h u)) (fit_near h u (omega arith)))))
    (true_or_false (is_locked ls n || is_plain h n))

-- the pass leaves the words of a locked node
made_other : (g : Graph) (t : Triple) (u j : ℕ) → j / 3 ≢ u - (g.I + 1) → word (made g t u) j ≡ word g j
unfolding made majority_of
made_other g t u j n = rewired_other g (u - (g.I + 1)) _ _ _ j n

first_other : (g : Graph) (u j : ℕ) → j / 3 ≢ u - (g.I + 1) → (ts : List Triple) → word (first_made g u ts) j ≡ word g j
unfolding first_made
first_other g u j n [] = refl
first_other g u j n (t ∷ ts) =
    ⊎_elim
    (λ (e : is_majority (truth g t u) ≡ true). rw e (made_other g t u j n))
    (λ (e : is_majority (truth g t u) ≡ false). rw e (first_other g u j n ts))
    (true_or_false (is_majority (truth g t u)))

pub locked_passed : (g : Graph) (ls : List ℕ) (n j : ℕ) → LockedPassed g ls n j
unfolding passed
locked_passed g ls zero j e = refl
locked_passed g ls (suc n) j e =
    let h : Graph = passed g ls n in
    let u : ℕ = h.I + 1 + n in
    ⊎_elim
    (λ (q : (is_locked ls n || is_plain h n) ≡ true). rw q (locked_passed g ls n j e))
    (λ (q : (is_locked ls n || is_plain h n) ≡ false).
    let d : n ≡ u - (h.I + 1) = omega arith in
    rw q (first_other h u j (λ r. true≢false (sym e ∙ ap (is_locked ls) (r ∙ sym d) ∙ (none_true (is_locked ls n) (is_plain h n) q).0)) (triples (near h u))
    ∙ locked_passed g ls n j e))
    (true_or_false (is_locked ls n || is_plain h n))
