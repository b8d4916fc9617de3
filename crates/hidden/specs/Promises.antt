-- What the majority call and the finder promise beside their definitions (M-107).
use Rattle.std.specs.Prelude.{◌≡◌, ◌+◌, ◌*◌, ◌/◌, ◌<◌}
use Rattle.graph.specs.All.{Bool, true, List, ℕ, eqb, get_or, count, Graph, node, word, bit, Assignment, value, Admitted}
use Rattle.hidden.specs.Truth.{Triple, leak, truth}
use Rattle.hidden.specs.Class.{class_of, classes}
use Rattle.hidden.specs.Majority.{majority_class, majority_byte, is_majority}
use Rattle.hidden.specs.Find.{is_locked, passed}
use Rattle.hidden.specs.Drop.{lives_by, live}
use Rattle.hidden.specs.Call.{majority_number, majority_call, find_number, find_call}
use Rattle.hidden.specs.Keeps.{Same, Finds}
use Rattle.hidden.specs.Ways.{MissedWay}
use Rattle.hidden.specs.Worked.{Worked}

-- each entry of the table is the least of its class; 14 are their own; and majority's class is of its eight bytes
pub record ClassTable : Type 0 where
  pub class_is : (f : ℕ) → f < 256 → get_or classes f 0 ≡ class_of f
  pub fourteen : count 256 (λ f. eqb (get_or classes f 0) f) ≡ 14
  pub majority_class_lem : class_of (majority_byte 0) ≡ majority_class
  pub majority_only : (c : ℕ) → c < 8 → is_majority (majority_byte c) ≡ true

-- the bit that a byte has where its three variables are x, y and z
abbrev pub pick : ℕ → ℕ → ℕ → ℕ
pick x y z = x + 2 * y + 4 * z

-- a truth value holds: under every assignment the index has the bit that the values of the three pick
abbrev pub TruthHolds : Graph → Triple → ℕ → Type 0
TruthHolds g t i =
    i < node g g.N → (truth g t i ≡ leak → ⊥) → (a : Assignment)
    → value g a i ≡ bit (pick (value g a t.one) (value g a t.two) (value g a t.three)) (truth g t i)

-- an index leaks just where some way down from it to an input misses all three
pub record NotCovered (g : Graph) (t : Triple) (i : ℕ) : Type 0 where
  pub leaks : MissedWay g t i → truth g t i ≡ leak
  pub missed : truth g t i ≡ leak → MissedWay g t i

-- an accepted majority call, and an accepted finder
abbrev pub MajorityKeeps : Graph → List ℕ → ℕ → Triple → ℕ → Type 0
MajorityKeeps g ls s t u = majority_number g ls s t u ≡ 0 → Same g (majority_call g ls s t u).graph

abbrev pub FinderKeeps : Graph → List ℕ → ℕ → Type 0
FinderKeeps g ls s = find_number g ls s ≡ 0 → Finds g (find_call g ls s)

-- the pass leaves the words of locked nodes
abbrev pub LockedPassed : Graph → List ℕ → ℕ → ℕ → Type 0
LockedPassed g ls n j = is_locked ls (j / 3) ≡ true → word (passed g ls n) j ≡ word g j

-- which nodes live is told by the rule alone: the set goes by it, and no other does
pub record LivesByRule (g : Graph) (ls : List ℕ) : Type 0 where
  pub live_is : (v : ℕ) → v < g.N → live g ls v ≡ lives_by g ls (live g ls) v
  pub live_only : (l : ℕ → Bool) → ((v : ℕ) → v < g.N → l v ≡ lives_by g ls l v) → (v : ℕ) → v < g.N → l v ≡ live g ls v

pub record Promises : Type 0 where
  pub class_table : ClassTable
  pub truth_holds : (g : Graph) → Admitted g → (t : Triple) (i : ℕ) → TruthHolds g t i
  pub not_covered : (g : Graph) → Admitted g → (t : Triple) (i : ℕ) → i < node g g.N → NotCovered g t i
  pub majority_keeps : (g : Graph) (ls : List ℕ) (s : ℕ) (t : Triple) (u : ℕ) → MajorityKeeps g ls s t u
  pub finder_keeps : (g : Graph) (ls : List ℕ) (s : ℕ) → FinderKeeps g ls s
  pub locked_passed : (g : Graph) (ls : List ℕ) (n j : ℕ) → LockedPassed g ls n j
  pub lives_by_rule : (g : Graph) (ls : List ℕ) → Admitted g → LivesByRule g ls
  pub worked : Worked
