-- A load, an import, a replay and a report go by how much the tables hold, and leave the old graph of what they leave in packed ones. From
-- the calls on a trimmed graph.
use mathlib.Core.Path.{◌≡◌, refl, sym, ap, ap₂, ◌∙◌}
use mathlib.Core.Bool.{Bool, true, false, cond}
use mathlib.Core.List.{List, [], ◌∷◌, ◌++◌}
use Prim.Native.Nat.{ℕ, zero, suc, ◌+◌, ◌*◌, ◌/◌, ◌<◌}
use native.Mathlib.Omega.{arith}
use borrow.Author.Tests.{eqb-true}
use lib.Dec.{eqb}
use lib.IntN.{ℤ, pos}
use lib.Seq.{take-append_seam}
use lib.ListN.{length, get_or, take, drop}
use Rattle.graph.specs.Admission.{Admitted}
use Rattle.graph.specs.Answer.{Answer, others_of, Outcome, LockedOutcome, locked_outcome, accepted, guarded_locks}
use Rattle.graph.specs.Finite.{tab, if_equal, first}
use Rattle.graph.specs.Graph.{Graph}
use Rattle.graph.specs.Literals.{literals, held, filled, words_for, cleared}
use Rattle.graph.proofs.Finite.{length_tab}
use Rattle.graph.proofs.Literals.{held_all, held_le}
use Rattle.graph.proofs.Tests.{both}
use Rattle.graph.proofs.Turned.{same_graph}
use Rattle.promises.specs.Demand.{Call, Locked, step, left, run}
use Rattle.file_checks.specs.File.{be4, file_number, node_words, single_words, after_nodes}
use Rattle.tagged_file.specs.Load.{blank, graph_read, locks_read, free_locks, load_call}
use Rattle.tagged_file.specs.Write.{in_order}
use Rattle.tagged_file.proofs.Filled.{length_node_words, length_single_words}
use Rattle.tagged_file.proofs.RoundTrip.{load_admitted}
use Rattle.aiger.specs.Import.{head_i, head_a, head_o, body, gate_word, import_number, graph_imported, import_call}
use Rattle.aiger.specs.Lines.{number_at}
use Rattle.aiger.proofs.Imported.{import_admitted}
use Rattle.replay.specs.Replay.{Lent, decode, second_of, answers_of, code_number, replay_number, replay_call, answers_after}
use Rattle.report.specs.Report.{node_line_at, output_line_at, settled_text, text_of, then_settle, settled_file, ReportOutcome, printed, report_call}
use Rattle.packed.specs.Old.{trimmed}
use Rattle.packed.specs.Corresponds.{AsLong, FillsAlike, FillsCorrespond}
use Rattle.packed.proofs.Choosing.{cond_ap, if_equal_when, if_equal_read}
use Rattle.packed.proofs.Corresponds.{trimmed_locked, settle_keeps, step_keeps, step_alike, run_keeps, run_alike}
use Rattle.packed.proofs.Old.{old_is}
use Rattle.packed.proofs.Settling.{settle_call_in}
use Rattle.packed.proofs.Trimmed.{word_in, output_in}

-- filled tables, trimmed: what filled them
pub take_filled : (n : ℕ) (ws l : List ℕ) → length ws ≡ n → take n (filled ws l) ≡ ws
unfolding filled
take_filled n ws l e = rw (← e) (take-append_seam ws (drop (length ws) (cleared (words_for (length ws)) l)))

read_same : (s ns os ms ps : List ℕ) → trimmed (graph_read s ns os) ≡ trimmed (graph_read s ms ps)
unfolding graph_read
read_same s ns os ms ps =
    let n : ℕ = be4 s 7 in
    let o : ℕ = be4 s 11 in
    let x = take_filled (3 * n) (node_words n (drop 15 s)) in
    let y = take_filled o (single_words o (after_nodes n (drop 15 s))) in
    let p = length_node_words n (drop 15 s) in
    let q = length_single_words o (after_nodes n (drop 15 s)) in
    same_graph (be4 s 3) n o (x ns p ∙ sym (x ms p)) (y os q ∙ sym (y ps q))

imported_same : (s ns os ms ps : List ℕ) → trimmed (graph_imported s ns os) ≡ trimmed (graph_imported s ms ps)
unfolding graph_imported
imported_same s ns os ms ps =
    let n : ℕ = head_a s in
    let o : ℕ = head_o s in
    let f : ℕ → ℕ = gate_word (body s) (head_i s + o) in
    let h : ℕ → ℕ = λ j. number_at (body s) (head_i s + j) in
    let x = take_filled (3 * n) (tab (3 * n) f) in
    let y = take_filled o (tab o h) in
    same_graph (head_i s) n o (x ns (length_tab (3 * n) f) ∙ sym (x ms (length_tab (3 * n) f))) (y os (length_tab o h) ∙ sym (y ps (length_tab o h)))

-- what a call that fills tables leaves, trimmed: tables that hold no graph have nothing left
abbrev pub trimmed_fill : LockedOutcome → LockedOutcome
trimmed_fill o = locked_outcome o.answer (trimmed o.graph) o.locks

pub guarded_fill : (k : ℕ) (ns os ms ps ls : List ℕ) (x y : LockedOutcome) → (k ≡ 0 → trimmed_fill x ≡ trimmed_fill y)
    → trimmed_fill (guarded_locks k (blank ns os) ls x) ≡ trimmed_fill (guarded_locks k (blank ms ps) ls y)
unfolding guarded_locks
guarded_fill zero ns os ms ps ls x y e = e refl
guarded_fill (suc k) ns os ms ps ls x y e = refl

guarded_admits : (k : ℕ) (g : Graph) (ls : List ℕ) (o : LockedOutcome) → (k ≡ 0 → Admitted o.graph) → (guarded_locks k g ls o).answer.number ≡ 0 → Admitted (guarded_locks k g ls o).graph
unfolding guarded_locks
guarded_admits zero g ls o h z = h refl
guarded_admits (suc k) g ls o h z = absurd (omega arith)

-- what the file s gives after a load, settled
then_settle_in : (o : LockedOutcome) (s : ℕ) → (o.answer.number ≡ 0 → Admitted o.graph) → then_settle (trimmed_fill o) s ≡ trimmed_fill (then_settle o s)
unfolding then_settle if_equal
then_settle_in o s adm =
    cond_ap trimmed_fill (eqb o.answer.number 0) _ o _
    (λ e. ap (λ (c : Outcome). locked_outcome c.answer c.graph o.locks) (settle_call_in o.graph (adm (eqb-true _ _ e)) o.locks s))

cond_admits : (t : Bool) (x y : LockedOutcome) → (t ≡ true → Admitted x.graph) → (y.answer.number ≡ 0 → Admitted y.graph)
    → (cond t x y).answer.number ≡ 0 → Admitted (cond t x y).graph
cond_admits true x y h k z = h refl
cond_admits false x y h k z = k z

then_settle_admits : (o : LockedOutcome) (s : ℕ) → (o.answer.number ≡ 0 → Admitted o.graph) → (then_settle o s).answer.number ≡ 0 → Admitted (then_settle o s).graph
unfolding then_settle if_equal
then_settle_admits o s adm =
    cond_admits (eqb o.answer.number 0) _ o (λ e. settle_keeps o.graph (adm (eqb-true _ _ e)) o.locks s) adm

-- the answers of a replay
answers_alike : (d e : Locked) → Admitted d.graph → Admitted e.graph → trimmed_locked d ≡ trimmed_locked e → (cs : List Call) → answers_of d cs ≡ answers_of e cs
answers_alike d e x y p [] = refl
answers_alike d e x y p (c ∷ cs) =
    let s = step_alike d e x y p c in
    ap₂ (λ (a : Answer) (l : List ℤ). pos a.number ∷ second_of c a ∷ others_of a ∷ l) (ap (λ (o : LockedOutcome). o.answer) s)
    (answers_alike (left (step d c)) (left (step e c)) (step_keeps d x c) (step_keeps e y c) (ap left s) cs)

-- the text of a report
in_order_same : (f h : ℕ → List ℕ) (v n : ℕ) → ((j : ℕ) → j < v + n → f j ≡ h j) → in_order f v n ≡ in_order h v n
in_order_same f h v zero e = refl
in_order_same f h v (suc n) e = rw (e v (omega arith), in_order_same f h (v + 1) n (λ j l. e j (omega arith)))

module _ (g : Graph) where
  node_line_in : (v : ℕ) → v < g.N → node_line_at g.I (trimmed g).nodes v ≡ node_line_at g.I g.nodes v
  unfolding node_line_at
  node_line_in v l = rw (word_in g (3 * v) (omega arith), word_in g (3 * v + 1) (omega arith), word_in g (3 * v + 2) (omega arith))

  output_line_in : (j : ℕ) → j < g.O → output_line_at (trimmed g).outputs j ≡ output_line_at g.outputs j
  unfolding output_line_at
  output_line_in j l = rw (output_in g j l)

  settled_text_in : (r b a : ℕ) → settled_text r b a (trimmed g) ≡ settled_text r b a g
  unfolding settled_text
  settled_text_in r b a =
      rw (in_order_same (node_line_at g.I (trimmed g).nodes) (node_line_at g.I g.nodes) 0 g.N (λ j l. node_line_in j (omega arith)), in_order_same (output_line_at (trimmed g).outputs) (output_line_at g.outputs) 0 g.O (λ j l. output_line_in j (omega arith)))

text_in : (o : LockedOutcome) → text_of (trimmed_fill o) ≡ text_of o
unfolding text_of
text_in o = rw (settled_text_in o.graph (get_or o.answer.values 0 0) (get_or o.answer.values 1 0) (get_or o.answer.values 2 0))

-- the calls, by tables that hold as many
module _ (ns os ms ps ls : List ℕ) (a : held ms ≡ held ns) (b : held ps ≡ held os) where
  load_same : (s : List ℕ) → trimmed_fill (load_call s ms ps ls) ≡ trimmed_fill (load_call s ns os ls)
  unfolding load_call
  load_same s =
      rw (a, b)
      (guarded_fill (file_number s (held ns) (held os) (length ls)) ms ps ns os ls _ _
      (λ z. ap (λ (g : Graph). locked_outcome (accepted (be4 s 3 ∷ be4 s 7 ∷ be4 s 11 ∷ [])) g (locks_read s ls)) (read_same s ms ps ns os)))

  import_same : (s : List ℕ) → trimmed_fill (import_call s ms ps ls) ≡ trimmed_fill (import_call s ns os ls)
  unfolding import_call
  import_same s =
      rw (a, b)
      (guarded_fill (import_number s (held ns) (held os) (length ls)) ms ps ns os ls _ _
      (λ z. ap (λ (g : Graph). locked_outcome (accepted (head_i s ∷ head_a s ∷ head_o s ∷ [])) g (free_locks (head_a s) ls)) (imported_same s ms ps ns os)))

  settled_same : (s : List ℕ) (scratch : ℕ) → trimmed_fill (settled_file s ms ps ls scratch) ≡ trimmed_fill (settled_file s ns os ls scratch)
  unfolding settled_file
  settled_same s scratch =
      sym (then_settle_in (load_call s ms ps ls) scratch (load_admitted s ms ps ls))
      ∙ ap (λ (o : LockedOutcome). then_settle o scratch) (load_same s)
      ∙ then_settle_in (load_call s ns os ls) scratch (load_admitted s ns os ls)

  module _ (s words : List ℕ) (t : Lent) where
    number_same : (n room : ℕ) → replay_number s words n ms ps ls room ≡ replay_number s words n ns os ls room
    unfolding replay_number
    number_same n room = ap (λ (o : LockedOutcome). first (code_number words n room) o.answer.number) (load_same s)

    -- both loads are accepted where the replay is
    accepted_both : (n room : ℕ) → replay_number s words n ns os ls room ≡ 0 → ((load_call s ms ps ls).answer.number ≡ 0) × ((load_call s ns os ls).answer.number ≡ 0)
    unfolding replay_number
    accepted_both n room z = let e = (both _ _ z).1 in (ap (λ (o : LockedOutcome). o.answer.number) (load_same s) ∙ e, e)

    left_same : trimmed_locked (left (load_call s ms ps ls)) ≡ trimmed_locked (left (load_call s ns os ls))
    left_same = ap left (load_same s)

    module _ (x : (load_call s ms ps ls).answer.number ≡ 0) (y : (load_call s ns os ls).answer.number ≡ 0) (cs : List Call) where
      run_same : trimmed_locked (run (left (load_call s ms ps ls)) cs) ≡ trimmed_locked (run (left (load_call s ns os ls)) cs)
      run_same = run_alike (left (load_call s ms ps ls)) (left (load_call s ns os ls)) (load_admitted s ms ps ls x) (load_admitted s ns os ls y) left_same cs

      told_same : answers_of (left (load_call s ms ps ls)) cs ≡ answers_of (left (load_call s ns os ls)) cs
      told_same = answers_alike (left (load_call s ms ps ls)) (left (load_call s ns os ls)) (load_admitted s ms ps ls x) (load_admitted s ns os ls y) left_same cs

    replay_same : (room : ℕ) → trimmed_fill (replay_call s words t ms ps ls room) ≡ trimmed_fill (replay_call s words t ns os ls room)
    unfolding replay_call
    replay_same room =
        rw (number_same (length t.list) room)
        (guarded_fill (replay_number s words (length t.list) ns os ls room) ms ps ns os ls _ _
        (λ z k.
        let p = accepted_both (length t.list) room z in
        let d = run_same p.0 p.1 (decode t words) k in
        locked_outcome (accepted (d.graph.I ∷ d.graph.N ∷ d.graph.O ∷ [])) d.graph d.locks))

    answers_same : (before : List ℤ) → answers_after s words t ms ps ls before ≡ answers_after s words t ns os ls before
    unfolding answers_after
    answers_same before =
        rw (number_same (length t.list) (length before))
        (if_equal_when (replay_number s words (length t.list) ns os ls (length before)) 0 _ _ before
        (λ z.
        let p = accepted_both (length t.list) (length before) z in
        ap (λ (l : List ℤ). l ++ drop (3 * (length words / 3)) before) (told_same p.0 p.1 (decode t words))))

  -- a report, by what is read of its outcome
  module _ (s : List ℕ) (scratch : ℕ) (buffer : List ℕ) where
    text_same : text_of (settled_file s ms ps ls scratch) ≡ text_of (settled_file s ns os ls scratch)
    text_same = sym (text_in (settled_file s ms ps ls scratch)) ∙ ap text_of (settled_same s scratch) ∙ text_in (settled_file s ns os ls scratch)

    report_answer : (report_call s ms ps ls scratch buffer).answer ≡ (report_call s ns os ls scratch buffer).answer
    unfolding report_call printed
    report_answer = rw (a, b) (if_equal_read (λ (o : ReportOutcome). o.answer) _ 0 _ _ _ _ (rw text_same) refl)

    report_locks : (report_call s ms ps ls scratch buffer).locks ≡ (report_call s ns os ls scratch buffer).locks
    unfolding report_call printed
    report_locks = rw (a, b) (if_equal_read (λ (o : ReportOutcome). o.locks) _ 0 _ _ _ _ (ap (λ (o : LockedOutcome). o.locks) (settled_same s scratch)) refl)

    report_text : (report_call s ms ps ls scratch buffer).buffer ≡ (report_call s ns os ls scratch buffer).buffer
    unfolding report_call printed
    report_text = rw (a, b) (if_equal_read (λ (o : ReportOutcome). o.buffer) _ 0 _ _ _ _ (rw text_same) refl)

-- accepted replays and reports leave admitted graphs
replay_admits : (s words : List ℕ) (t : Lent) (room : ℕ) (ns os ls : List ℕ) → (replay_call s words t ns os ls room).answer.number ≡ 0
    → Admitted (replay_call s words t ns os ls room).graph
unfolding replay_call replay_number
replay_admits s words t room ns os ls =
    guarded_admits _ (blank ns os) ls _ (λ z. run_keeps (left (load_call s ns os ls)) (load_admitted s ns os ls (both _ _ z).1) (decode t words))

settled_admits : (s : List ℕ) (scratch : ℕ) (ns os ls : List ℕ) → (settled_file s ns os ls scratch).answer.number ≡ 0 → Admitted (settled_file s ns os ls scratch).graph
unfolding settled_file
settled_admits s scratch ns os ls = then_settle_admits (load_call s ns os ls) scratch (load_admitted s ns os ls)

-- a table of literals holds as many as it has words
as_held : (ms us bs : List ℕ) → AsLong ms us bs → held ms ≡ held (literals us bs)
as_held ms us bs e = let h = held_all (length ms) ms (omega arith) (λ j l. omega (arith, e.words j)) in omega (arith, held_le ms, e.long)

module _ (us bs vs ds ms ps ls : List ℕ) (x : AsLong ms us bs) (y : AsLong ps vs ds) where
  -- a law by what tables hold, at these
  at_these : {A : Type 0} (f : List ℕ → List ℕ → List ℕ → A)
      → ((ns os ms ps ls : List ℕ) → held ms ≡ held ns → held ps ≡ held os → f ms ps ls ≡ f ns os ls) → f ms ps ls ≡ f (literals us bs) (literals vs ds) ls
  at_these f same = same (literals us bs) (literals vs ds) ms ps ls (as_held ms us bs x) (as_held ps vs ds y)

pub fills : (fill : List ℕ → List ℕ → List ℕ → LockedOutcome)
    → ((ns os ms ps ls : List ℕ) → held ms ≡ held ns → held ps ≡ held os → trimmed_fill (fill ms ps ls) ≡ trimmed_fill (fill ns os ls))
    → ((ns os ls : List ℕ) → (fill ns os ls).answer.number ≡ 0 → Admitted (fill ns os ls).graph) → FillsAlike fill
fills fill same adm =
    let f : List ℕ → List ℕ → List ℕ → LockedOutcome = λ ns os ls. trimmed_fill (fill ns os ls) in
    record {
      answer = λ us bs vs ds ms ps ls x y. ap (λ (o : LockedOutcome). o.answer) (at_these us bs vs ds ms ps ls x y f same);
      locks = λ us bs vs ds ms ps ls x y. ap (λ (o : LockedOutcome). o.locks) (at_these us bs vs ds ms ps ls x y f same);
      graph = λ us bs vs ds ms ps ls x y i n o xs cs ys es z e.
          ap (λ (o : LockedOutcome). o.graph) (at_these us bs vs ds ms ps ls x y f same)
          ∙ ap trimmed e
          ∙ old_is i n o xs cs ys es (rw e at (adm (literals us bs) (literals vs ds) ls z));
    }

pub fills_correspond : (s words : List ℕ) (t : Lent) (before : List ℤ) (room scratch : ℕ) (buffer : List ℕ) → FillsCorrespond s words t before room scratch buffer
fills_correspond s words t before room scratch buffer =
    record {
      load = fills (load_call s) (λ ns os ms ps ls a b. load_same ns os ms ps ls a b s) (load_admitted s);
      import = fills (import_call s) (λ ns os ms ps ls a b. import_same ns os ms ps ls a b s) (import_admitted s);
      replay = fills (λ ns os ls. replay_call s words t ns os ls room) (λ ns os ms ps ls a b. replay_same ns os ms ps ls a b s words t room) (replay_admits s words t room);
      replay_answers = λ us bs vs ds ms ps ls x y. at_these us bs vs ds ms ps ls x y _ (λ ns os ms ps ls a b. answers_same ns os ms ps ls a b s words t before);
      settled = fills (λ ns os ls. settled_file s ns os ls scratch) (λ ns os ms ps ls a b. settled_same ns os ms ps ls a b s scratch) (settled_admits s scratch);
      report = λ us bs vs ds ms ps ls x y. at_these us bs vs ds ms ps ls x y _ (λ ns os ms ps ls a b. report_answer ns os ms ps ls a b s scratch buffer);
      report_locks = λ us bs vs ds ms ps ls x y. at_these us bs vs ds ms ps ls x y _ (λ ns os ms ps ls a b. report_locks ns os ms ps ls a b s scratch buffer);
      report_text = λ us bs vs ds ms ps ls x y. at_these us bs vs ds ms ps ls x y _ (λ ns os ms ps ls a b. report_text ns os ms ps ls a b s scratch buffer);
    }
