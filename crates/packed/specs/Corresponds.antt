-- M-108: every call answers on an admitted packed graph as on its old one, and the two graphs afterwards correspond.
use Rattle.std.specs.Prelude.{◌≡◌, ◌∷◌}
use Rattle.graph.specs.All.{ℕ, false, List, [], length, ℤ, Graph, admission_number, Answer, accepted, unless, C, LockedOutcome, literals, graph_in, held}
use Rattle.tagged_file.specs.All.{write_call, load_call}
use Rattle.aiger.specs.All.{export_call, import_call}
use Rattle.join.specs.All.{join_call}
use Rattle.evaluation.specs.All.{evaluate_number, results_after}
use Rattle.moves.specs.All.{trial_call}
use Rattle.preview.specs.All.{preview_answer, preview_bytes}
use Rattle.promises.specs.All.{Call, Locked, with_locks, step, left, run, rewires, NoneRewires}
use Rattle.report.specs.All.{settled_file, report_call}
use Rattle.replay.specs.All.{Lent, replay_call, answers_after}
use Rattle.packed.specs.Old.{ToldAlike, InStep, InGraph, Indices, old_graph, trimmed}

-- what a list of calls answers, each made on what the one before left
abbrev pub answers : Locked → List Call → List Answer
answers d [] = []
answers d (c ∷ cs) = (step d c).answer ∷ answers (left (step d c)) cs

-- with any locks ls
pub record Corresponds (ls : List ℕ) : Type 0 where
  -- the node, pair, tree, settling and many calls and those for resistive memory, which do not rewire, and every list of them
  pub each : (c : Call) → rewires c ≡ false → InStep (λ g. (step (with_locks g ls) c).answer) (λ g. (step (with_locks g ls) c).graph)
  pub lists : (cs : List Call) → NoneRewires cs → InStep (λ g. answers (with_locks g ls) cs) (λ g. (run (with_locks g ls) cs).graph)
  -- and every list with majority and finder calls among them, by what belongs to the graphs, and by the locks
  pub all : (cs : List Call) → InGraph (λ g. answers (with_locks g ls) cs) (λ g. (run (with_locks g ls) cs).graph)
  pub locks : (cs : List Call) → ToldAlike (λ g. (run (with_locks g ls) cs).locks)
  -- the calls that are lent a graph to be read
  pub admission : ToldAlike (λ g. admission_number g ls)
  pub count : ToldAlike (λ g. unless (admission_number g ls) (accepted (C g ∷ [])))
  pub evaluation : (w s r : ℕ) → ToldAlike (λ g. evaluate_number g ls w s r)
  pub results : (words : List ℕ) (s : ℕ) (before : List ℕ) → ToldAlike (λ g. results_after g ls words s before)
  pub trial : (u k a m : ℕ) → ToldAlike (λ g. trial_call g ls u k a m)
  pub preview : (b s r : ℕ) → ToldAlike (λ g. preview_answer g ls b s r)
  pub preview_bytes_lem : (before : List ℕ) (s r : ℕ) → ToldAlike (λ g. preview_bytes g ls before s r)
  pub write : (buffer : List ℕ) → ToldAlike (λ g. write_call g ls buffer)
  pub export : (scratch buffer : List ℕ) → ToldAlike (λ g. export_call g ls scratch buffer)

-- Of the calls that fill lent tables, a load, an import, a replay and a report: what they do in packed tables, and what in tables of literals ms and ps.
-- A table of literals: words of 32 bits, as many as the packed table holds literals
pub record AsLong (ms us bs : List ℕ) : Type 0 where
  pub words : Indices ms
  pub long : length ms ≡ held (literals us bs)

-- what is told after filling the one is told after filling the other
abbrev pub FilledAlike : {A : Type 0} → (List ℕ → List ℕ → List ℕ → A) → Type 0
FilledAlike tells = (us bs vs ds ms ps ls : List ℕ) → AsLong ms us bs → AsLong ps vs ds → tells ms ps ls ≡ tells (literals us bs) (literals vs ds) ls

-- the same answer and the same locks; and where the call is accepted, it leaves in ms and ps the old graph of the packed one
pub record FillsAlike (fill : List ℕ → List ℕ → List ℕ → LockedOutcome) : Type 0 where
  pub answer : FilledAlike (λ ns os ls. (fill ns os ls).answer)
  pub locks : FilledAlike (λ ns os ls. (fill ns os ls).locks)
  pub graph : (us bs vs ds ms ps ls : List ℕ) → AsLong ms us bs → AsLong ps vs ds → (i n o : ℕ) (xs cs ys es : List ℕ)
      → (fill (literals us bs) (literals vs ds) ls).answer.number ≡ 0 → (fill (literals us bs) (literals vs ds) ls).graph ≡ graph_in i n o xs cs ys es
      → trimmed (fill ms ps ls).graph ≡ old_graph i n o xs cs ys es

-- of the file or text s: loaded, imported, loaded with calls made on it that `words` say, and settled and reported
pub record FillsCorrespond (s words : List ℕ) (lent : Lent) (before : List ℤ) (room scratch : ℕ) (buffer : List ℕ) : Type 0 where
  pub load : FillsAlike (load_call s)
  pub import : FillsAlike (import_call s)
  pub replay : FillsAlike (λ ns os ls. replay_call s words lent ns os ls room)
  pub replay_answers : FilledAlike (λ ns os ls. answers_after s words lent ns os ls before)
  pub settled : FillsAlike (λ ns os ls. settled_file s ns os ls scratch)
  pub report : FilledAlike (λ ns os ls. (report_call s ns os ls scratch buffer).answer)
  pub report_locks : FilledAlike (λ ns os ls. (report_call s ns os ls scratch buffer).locks)
  pub report_text : FilledAlike (λ ns os ls. (report_call s ns os ls scratch buffer).buffer)

-- a join (M-113), with any locks of both parts: either part may be the old graph of an admitted one, and it fills tables as a load does
pub record JoinsCorrespond (ls ks : List ℕ) : Type 0 where
  pub first : (h : Graph) (ns os rs : List ℕ) → ToldAlike (λ g. join_call g ls h ks ns os rs)
  pub second : (g : Graph) (ns os rs : List ℕ) → ToldAlike (λ h. join_call g ls h ks ns os rs)
  pub joined : (g h : Graph) → FillsAlike (join_call g ls h ks)
