-- What calls leave: scratch that is kept, the tables of an answered load or replay, the stretch of a field. From the laws on answers
-- and tests.
use Rattle.std.proofs.Common.{Result, Ok, Err}
use mathlib.Core.Path.{◌≡◌, refl, sym, ap, ◌∙◌}
use mathlib.Core.List.{List, [], ◌∷◌}
use Prim.Native.Nat.{ℕ, zero, suc}
use native.Mathlib.Omega.{arith}
use lib.IntN.{ℤ}
use lib.ListN.{length, get_or, take, drop}
use Rattle.graph.specs.Graph.{Graph, graph_of}
use Rattle.graph.specs.Answer.{Answer, Outcome, LockedOutcome, outcome, locked_outcome, accepted, unless, ScratchKept}
use Rattle.tagged_file.specs.Write.{WriteOutcome, write_outcome}
use Rattle.graph.proofs.Tests.{equal}
use Rattle.graph.proofs.Answers.{accepted_is}
use Rattle.file_checks.specs.File.{be2, field_number, field_payload}
use Rattle.graph.specs.declared.Refusal.{Refusal}
use Rattle.tagged_file.specs.declared.Sizes.{Sizes}
use Rattle.tagged_file.specs.Load.{loaded_graph}
use Rattle.class_figures.specs.Call.{ClassOutcome, class_outcome}
use Rattle.answers.specs.Told.{told, told_one, told_signed}
use Rattle.answers.proofs.Same.{same_told, same_one, same_signed}
use Rattle.hidden.specs.Call.{nodes_after_answer}
use Rattle.promises.specs.Demand.{Call, Locked, with_locks}
use Rattle.replay.specs.declared.ReplayFault.{ReplayFault}
use Rattle.replay.specs.declared.ReplayFault.TheVariants.{NotCalls, Refused}
use Rattle.replay.specs.declared.CallsFault.TheVariants.{LeftOver, UnknownKind, PartOutside}
use Rattle.replay.specs.Replay.{replayed_answer, replayed_graph, DemandMet}
use Rattle.graph.proofs.Answers.{number_some}
use Rattle.graph.specs.Literals.{literals}
use Rattle.reducer.specs.Interface.{Lent, SavingLeft, TextLeft, GraphLeft, FoundLeft, ClassLeft, FiguresLeft}

-- equal answers keep the same scratch
pub same_kept : {a b : Answer} (s t : List ℕ) → a ≡ b → ScratchKept a s t → ScratchKept b s t
same_kept s t e k n = k (λ z. n (ap (λ (a : Answer). a.number) (sym e) ∙ z))

-- an answer without values has the number that it is given
pub number_is : (n : ℕ) → (unless n (accepted [])).number ≡ n
unfolding unless
number_is zero = refl
number_is (suc n) = refl

-- what is left and told of an outcome o, from what a call answers and leaves, which is o
module _ (r : ℕ) (a : Answer) (number : r ≡ a.number) where
  pub saving_left : (o : Outcome) (k : Graph) (saving : Lent (List ℤ)) → saving.exit.now ≡ told_signed a saving.entry.now → outcome a k ≡ o → SavingLeft o r k saving
  saving_left o k saving t e =
      record { number = number ∙ ap (λ (x : Outcome). x.answer.number) e; graph = ap (λ (x : Outcome). x.graph) e; tells = t ∙ same_signed (ap (λ (x : Outcome). x.answer) e) refl }

  pub text_left : (o : WriteOutcome) (buffer : Lent (List ℕ)) (size : Lent ℕ) → size.exit.now ≡ told_one a size.entry.now → write_outcome a buffer.exit.now ≡ o → TextLeft o r buffer size
  text_left o buffer size t e =
      record { number = number ∙ ap (λ (x : WriteOutcome). x.answer.number) e; bytes = ap (λ (x : WriteOutcome). x.buffer) e; tells = t ∙ same_one _ (ap (λ (x : WriteOutcome). x.answer) e) }

  pub graph_left : (o : LockedOutcome) (g : Graph) (us bs vs ds ls numbers : Lent (List ℕ)) → numbers.exit.now ≡ told a numbers.entry.now → literals us.exit.now bs.exit.now ≡ g.nodes → literals vs.exit.now ds.exit.now ≡ g.outputs
      → locked_outcome a g ls.exit.now ≡ o → GraphLeft o r us bs vs ds ls numbers
  graph_left o g us bs vs ds ls numbers t p q e =
      record {
        number = number ∙ ap (λ (x : LockedOutcome). x.answer.number) e;
        nodes = p ∙ ap (λ (x : LockedOutcome). x.graph.nodes) e;
        outputs = q ∙ ap (λ (x : LockedOutcome). x.graph.outputs) e;
        locks = ap (λ (x : LockedOutcome). x.locks) e;
        tells = t ∙ same_told _ (ap (λ (x : LockedOutcome). x.answer) e);
      }

  pub found_left : (o : LockedOutcome) (i n q : ℕ) (ns os ls : List ℕ) (was is : ℕ) → is ≡ told_one a was → locked_outcome a (graph_of i (nodes_after_answer n a) q ns os) ls ≡ o
      → FoundLeft o r (graph_of i (nodes_after_answer n o.answer) q ns os) ls was is
  found_left o i n q ns os ls was is t e =
      let p = ap (λ (x : LockedOutcome). x.answer) e in
      record {
        number = number ∙ ap (λ (x : LockedOutcome). x.answer.number) e;
        graph = sym (ap (λ (x : Answer). graph_of i (nodes_after_answer n x) q ns os) p) ∙ ap (λ (x : LockedOutcome). x.graph) e;
        locks = ap (λ (x : LockedOutcome). x.locks) e;
        tells = t ∙ same_one _ p;
      }

  pub class_left : (o : ClassOutcome) (k : Graph) (sheet figures : Lent (List ℕ)) (savings : Lent (List ℤ)) → figures.exit.now ≡ told a figures.entry.now
      → savings.exit.now ≡ told_signed a savings.entry.now → class_outcome a k sheet.exit.now ≡ o → ClassLeft o r k sheet figures savings
  class_left o k sheet figures savings t s e =
      let p = ap (λ (x : ClassOutcome). x.answer) e in
      record {
        number = number ∙ ap (λ (x : ClassOutcome). x.answer.number) e;
        graph = ap (λ (x : ClassOutcome). x.graph) e;
        book = ap (λ (x : ClassOutcome). x.book) e;
        tells = t ∙ same_told _ p;
        saves = s ∙ same_signed p refl;
      }

  pub figures_left : (b : Answer) (figures : Lent (List ℕ)) (improvement : Lent (List ℤ)) → figures.exit.now ≡ told a figures.entry.now
      → improvement.exit.now ≡ told_signed a improvement.entry.now → a ≡ b → FiguresLeft b r figures improvement
  figures_left b figures improvement t s e =
      record { number = number ∙ ap (λ (x : Answer). x.number) e; tells = t ∙ same_told _ e; improves = s ∙ same_signed e refl }

-- the tables that an answered load leaves are those of its graph
pub loaded_nodes : (r : Result Sizes Refusal) (ns os : List ℕ) → ns ≡ (loaded_graph r ns os).nodes
loaded_nodes (Ok z) ns os = refl
loaded_nodes (Err r) ns os = refl

pub loaded_outputs : (r : Result Sizes Refusal) (ns os : List ℕ) → os ≡ (loaded_graph r ns os).outputs
loaded_outputs (Ok z) ns os = refl
loaded_outputs (Err r) ns os = refl

-- the same of a replay
pub replayed_nodes : (r : Result Sizes ReplayFault) (ns os : List ℕ) → ns ≡ (replayed_graph r ns os).nodes
replayed_nodes (Ok z) ns os = refl
replayed_nodes (Err f) ns os = refl

pub replayed_outputs : (r : Result Sizes ReplayFault) (ns os : List ℕ) → os ≡ (replayed_graph r ns os).outputs
replayed_outputs (Ok z) ns os = refl
replayed_outputs (Err f) ns os = refl

-- the graph of an accepted replay is that of the numbers told
pub replayed_demand : (r : Result Sizes ReplayFault) (d : Locked) (cs : List Call) (ns os ls : List ℕ) (l : List ℤ) (before m : List ℕ) → m ≡ told (replayed_answer r) before
    → ((replayed_answer r).number ≡ 0 → DemandMet d cs (with_locks (replayed_graph r ns os) ls) l) → (replayed_answer r).number ≡ 0
    → DemandMet d cs (with_locks (graph_of (get_or m 0 0) (get_or m 1 0) (get_or m 2 0) ns os) ls) l
replayed_demand (Ok z) d cs ns os ls l before m e h n = rw e (h n)
replayed_demand (Err (NotCalls LeftOver)) d cs ns os ls l before m e h n = absurd (omega arith)
replayed_demand (Err (NotCalls UnknownKind)) d cs ns os ls l before m e h n = absurd (omega arith)
replayed_demand (Err (NotCalls PartOutside)) d cs ns os ls l before m e h n = absurd (omega arith)
replayed_demand (Err (Refused r)) d cs ns os ls l before m e h n = absurd (number_some r n)

-- the stretch that a field call tells of is the payload
take_again : (m : ℕ) (l : List ℕ) → take (length (take m l)) l ≡ take m l
take_again zero l = refl
take_again (suc m) [] = refl
take_again (suc m) (x ∷ l) = ap (λ t. x ∷ t) (take_again m l)

payload_is : (s : List ℕ) → field_number s ≡ 0 → take (be2 s 1) (drop 3 s) ≡ field_payload s
unfolding field_payload
payload_is s z = equal (field_number s) 0 (take (be2 s 1) (drop 3 s)) [] z refl

pub stretch_told : (s p q : List ℕ) → q ≡ told (unless (field_number s) (accepted (3 ∷ length (field_payload s) ∷ []))) p → field_number s ≡ 0
    → take (get_or q 1 0) (drop (get_or q 0 0) s) ≡ field_payload s
stretch_told s p q e z =
    let a = accepted_is (field_number s) (accepted (3 ∷ length (field_payload s) ∷ [])) z in
    let t : q ≡ 3 ∷ length (field_payload s) ∷ [] = e ∙ sym (same_told p a) in
    let w : take (length (field_payload s)) (drop 3 s) ≡ field_payload s = rw (← payload_is s z) (take_again (be2 s 1) (drop 3 s)) in
    ap (λ (l : List ℕ). take (get_or l 1 0) (drop (get_or l 0 0) s)) t ∙ w
