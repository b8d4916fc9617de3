-- A triple whose signatures do not fit, or that leaks, is passed over as one that was tried and gives no majority, and so are all with two indices of which each
-- does. From the laws on votes and on trials.
use mathlib.Core.Path.{◌≡◌, refl, sym, ap, ◌∙◌}
use mathlib.Core.Bool.{Bool, true, false}
use mathlib.Core.Logic.{⊎_elim}
use mathlib.Core.List.{List, []}
use Prim.Native.Nat.{ℕ, zero, suc, ◌+◌, ◌-◌, ◌<◌}
use native.Mathlib.Omega.{arith}
use lib.ListN.{get_or, take}
use Rattle.graph.specs.Admission.{Admitted}
use Rattle.graph.specs.Graph.{Graph, node}
use Rattle.hidden.specs.Truth.{Triple, triple, leak, truth}
use Rattle.hidden.specs.Majority.{is_majority}
use Rattle.hidden.specs.Find.{triples, first_made}
use Rattle.hidden.specs.Inner.{Rising, left₁, left₂, left₃}
use Rattle.hidden.proofs.Order.{left_all, passed_over}
use Rattle.majority_call.specs.Valuing.{Facts, Framed}
use Rattle.finder.specs.Signs.{Signed, sign_of, Votes}
use Rattle.finder.specs.Trying.{Ready, SignsRead, Tried, Sought}
use Rattle.finder.specs.Meeting.{three_of, Lacks, Missed, Unmet, NoneAt, WaysKnown}
use Rattle.finder.proofs.Fitting.{could_passed}
use Rattle.finder.proofs.Meets.{missed_leaks}
use Rattle.finder.proofs.Trials.{third_step, thirds_end, second_step, seconds_next, seconds_begin, seconds_end, firsts_next, firsts_end, tried_other, no_leak}

untouched : (v : ℕ) (sc : List ℕ) → Framed v sc sc
untouched v sc = record { same = refl; above = λ j h. refl; first = λ w. refl; last = λ w f h k. refl }

-- one triple
pub unfit_tried : (g : Graph) → Admitted g → (v : ℕ) → v < g.N → (sc : List ℕ) → Facts g sc → Signed g (v + 1) sc → (t : Triple) → Rising t (node g v) → (b : Bool)
    → ((c : ℕ) → Votes c (sign_of g.I sc (node g v)) (sign_of g.I sc t.one) (sign_of g.I sc t.two) (sign_of g.I sc t.three) → b ≡ true)
    → b ≡ false → Tried g t v 256 sc sc
unfit_tried g adm v within sc facts s t r b f e =
    record {
      value = λ h. absurd (omega arith);
      majority = λ h. absurd (omega arith);
      none = λ h. could_passed g adm t v within r sc s b f e;
      framed = untouched v sc;
      facts = facts;
    }

-- by what is read of signatures
pub unfit_read : (g : Graph) → Admitted g → (v : ℕ) → v < g.N → (sc : List ℕ) → Facts g sc → (t : Triple) → Rising t (node g v) → (w x y z : ℕ)
    → SignsRead g v t.one t.two w x y sc → z ≡ sign_of g.I sc t.three → (b : Bool) → ((c : ℕ) → Votes c w x y z → b ≡ true) → b ≡ false → Tried g t v 256 sc sc
unfit_read g adm v within sc facts t r w x y z k e b f n =
    unfit_tried g adm v within sc facts k.signed t r b (rw (← k.here, ← k.first, ← k.second, ← e) f) n

-- all with the indices at places a and b of a list
module _ (g : Graph) (v m : ℕ) (list sc : List ℕ) (ready : Ready g v m list sc) (a b : ℕ) (h : a < b) (k : b < m)
    (none_here : (c : ℕ) → b < c → c < m → is_majority (truth g (triple (get_or list a 0) (get_or list b 0) (get_or list c 0)) (node g v)) ≡ false) where
  none_left : (n c : ℕ) → c + n ≡ m → b < c → first_made g (node g v) (left₃ (take m list) a b c) ≡ first_made g (node g v) (left₂ (take m list) a (suc b))
  none_left zero c q l = ap (first_made g (node g v)) (thirds_end m list ready.listed a b c (omega arith))
  none_left (suc n) c q l =
      ap (first_made g (node g v)) (third_step m list ready.listed a b c h l (omega arith))
      ∙ passed_over g (node g v) (triple (get_or list a 0) (get_or list b 0) (get_or list c 0)) (left₃ (take m list) a b (c + 1)) (none_here c l (omega arith))
      ∙ none_left n (c + 1) (omega arith) (omega arith)

  pub unmet_sought : (t : Triple) → Sought g v (left₃ (take m list) a b (suc b)) (left₂ (take m list) a (suc b)) 256 t sc sc
  unmet_sought t =
      record {
        gives = λ z. absurd (omega arith);
        found = λ z. absurd (omega arith);
        left = λ z. sym (none_left (m - suc b) (suc b) (omega arith) (omega arith));
        framed = untouched v sc;
        facts = ready.facts;
      }

-- all of a list
module _ (g : Graph) (v m : ℕ) (list sc : List ℕ) (ready : Ready g v m list sc)
    (none : (a b c : ℕ) → a < b → b < c → c < m → is_majority (truth g (triple (get_or list a 0) (get_or list b 0) (get_or list c 0)) (node g v)) ≡ false) where
  seconds_left : (a n b : ℕ) → b + n ≡ m → a < b → first_made g (node g v) (left₂ (take m list) a b) ≡ first_made g (node g v) (left₁ (take m list) (suc a))
  seconds_left a zero b q l = ap (first_made g (node g v)) (seconds_end m list ready.listed a b (omega arith))
  seconds_left a (suc n) b q l =
      ap (first_made g (node g v)) (second_step m list ready.listed a b (omega arith))
      ∙ none_left g v m list sc ready a b l (omega arith) (λ c. none a b c l) (m - suc b) (suc b) (omega arith) (omega arith)
      ∙ ap (first_made g (node g v)) (seconds_next m list ready.listed a b)
      ∙ seconds_left a n (b + 1) (omega arith) (omega arith)

  firsts_left : (n a : ℕ) → a + n ≡ m → first_made g (node g v) (left₁ (take m list) a) ≡ first_made g (node g v) []
  firsts_left zero a q = ap (first_made g (node g v)) (firsts_end m list ready.listed a (omega arith))
  firsts_left (suc n) a q =
      ap (first_made g (node g v)) (seconds_begin m list ready.listed a (omega arith))
      ∙ seconds_left a n (a + 1) (omega arith) (omega arith)
      ∙ ap (first_made g (node g v)) (firsts_next m list ready.listed a)
      ∙ firsts_left n (a + 1) (omega arith)

  pub none_sought : (t : Triple) → Sought g v (triples (take m list)) [] 256 t sc sc
  none_sought t =
      record {
        gives = λ z. absurd (omega arith);
        found = λ z. absurd (omega arith);
        left = λ z. sym (ap (first_made g (node g v)) (left_all (take m list)) ∙ firsts_left m 0 (omega arith));
        framed = untouched v sc;
        facts = ready.facts;
      }

-- a triple that gives none
pub none_tried : (g : Graph) (v : ℕ) (sc : List ℕ) → Facts g sc → (t : Triple) → is_majority (truth g t (node g v)) ≡ false → Tried g t v 256 sc sc
none_tried g v sc facts t e = tried_other g t v (truth g t (node g v)) sc sc refl (untouched v sc) facts e

pub leak_passed : (g : Graph) (t : Triple) (u : ℕ) → truth g t u ≡ leak → is_majority (truth g t u) ≡ false
leak_passed g t u e = ap is_majority e ∙ no_leak

-- three that are not all allowed, or that miss a way
pub unmet_passed : (g : Graph) (v m : ℕ) (list : List ℕ) (allowed n : ℕ) (ws : List ℕ) → WaysKnown g v m list allowed n ws → (a b c : ℕ) → a < b → b < c → c < m → Unmet allowed n ws a b c → NoneAt g v list a b c
unmet_passed g v m list allowed n ws w a b c h k q u =
    ⊎_elim (λ (z : Lacks allowed a b c). w.allows a b c h k q z)
    (λ (z : Missed n ws a b c). leak_passed g (three_of list a b c) (node g v) (missed_leaks g list m n (node g v) ws w.bars a b c h k q z))
    u
