-- Both parts of a saving add to the whole: C before less C after, of any two graphs. From sums and differences.
use Rattle.std.proofs.Common.{◌≡◌, ℕ, ◌+◌, ◌*◌, ◌/◌, Bool, true, false, cond, List, [], ℤ, pos, sym, refl, ap, ◌∙◌, arith}
use Rattle.graph.specs.Graph.{Graph, node}
use Rattle.graph.specs.Count.{C, node_adds}
use Rattle.graph.specs.Finite.{difference}
use Rattle.graph.specs.Answer.{gained, others_of, outcome}
use Rattle.graph.proofs.Difference.{same_difference}
use Rattle.graph.proofs.DifferenceSum.{sum_is, part_by, no_difference}
use Rattle.graph.proofs.Finite.{sum_same}
use Rattle.moves.specs.Call.{moved, best_at, rewrite_by, rewrite, among, own_adds, other_adds, split}
use Rattle.moves.specs.Outside.{saved_by}
use Rattle.moves.specs.Promises.{SplitWhole}
use Rattle.moves.proofs.Count.{sum_add}

pub parts_whole : (g : Graph) (us : List ℕ) → own_adds g us + other_adds g us ≡ C g
unfolding own_adds other_adds C
parts_whole g us =
    let f : ℕ → ℕ = λ j. cond (among us (node g (j / 3))) (node_adds g j) 0 in
    let k : ℕ → ℕ = λ j. cond (among us (node g (j / 3))) 0 (node_adds g j) in
    omega (arith, sum_add (3 * g.N) f k, sum_same (3 * g.N) (λ j. f j + k j) (node_adds g) (λ j h. go (among us (node g (j / 3))) (node_adds g j)))
  where
    go : (b : Bool) (x : ℕ) → cond b x 0 + cond b 0 x ≡ x
    go true x = omega arith
    go false x = omega arith

-- M-104: the two numbers add to the saving
pub split_whole : (us : List ℕ) (g h : Graph) → SplitWhole us g h
unfolding split
split_whole us g h =
    sum_is (own_adds g us) (own_adds h us) (other_adds g us) (other_adds h us) (C g) (C h) (omega (arith, parts_whole g us, parts_whole h us))

-- so the first is known from the whole and the second
pub own_by : (us : List ℕ) (g h : Graph) (c d : ℕ) → (split us g h).others ≡ difference c d → (split us g h).own ≡ difference (C g + d) (C h + c)
own_by us g h c d e = part_by (split us g h).own (split us g h).others (C g) (C h) c d (split_whole us g h) e

-- the answer by counts is that of the moves made, whatever chose them, and so of the rewriting
pub saved_by_lem : (g : Graph) (us ms : List ℕ) (h : Graph) (b a o l : ℕ) → h ≡ moved g us ms → C g + a ≡ C h + b
    → (split us g h).others ≡ difference o l → outcome (saved_by b a o l) h ≡ rewrite_by g us ms
saved_by_lem g us ms h b a o l e c q =
    rw (← e)
    (ap (λ (x : ℤ). outcome (gained [] x (difference o l)) h) (same_difference (b + l) (a + o) (C g + l) (C h + o) (omega arith) ∙ sym (own_by us g h o l q))
    ∙ ap (λ (x : ℤ). outcome (gained [] (split us g h).own x) h) (sym q))

pub saved_outcome : (g : Graph) (ls us : List ℕ) (h : Graph) (b a o l : ℕ) → h ≡ moved g us (best_at g ls us) → C g + a ≡ C h + b
    → (split us g h).others ≡ difference o l → outcome (saved_by b a o l) h ≡ rewrite g ls us
unfolding rewrite
saved_outcome g ls us = saved_by_lem g us (best_at g ls us)

-- and a call that changes nothing saves nothing in either part
pub split_none : (us : List ℕ) (g : Graph) → ((split us g g).own ≡ pos 0) × ((split us g g).others ≡ pos 0)
unfolding split
split_none us g = (no_difference (own_adds g us), no_difference (other_adds g us))

pub rewrite_others : (g : Graph) (ls us : List ℕ) → others_of (rewrite g ls us).answer ≡ (split us g (moved g us (best_at g ls us))).others
unfolding rewrite
rewrite_others g ls us = refl
