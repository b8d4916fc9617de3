-- Importing an export finds no fault in its lines: only a limit or a short table can refuse it. From the laws on lines and gates.
use Prim.Native.Nat.{ℕ, ◌+◌, ◌*◌, ◌/◌, ◌<◌, ◌≤◌}
use mathlib.Core.Path.{◌≡◌, refl, sym, ap, ◌∙◌}
use mathlib.Core.Logic.{◌⊎◌, inl, inr, ⊎_elim}
use mathlib.Core.List.{List}
use native.Mathlib.Omega.{arith}
use lib.ListN.{length, get_or}
use Rattle.graph.specs.Finite.{if_less}
use Rattle.graph.specs.Graph.{Graph, output}
use Rattle.graph.specs.Admission.{Admitted, room_number}
use Rattle.graph.proofs.Cases.{lt_or_le}
use Rattle.graph.proofs.Finite.{length_tab, get_d_tab}
use Rattle.graph.proofs.Tests.{less, no_less, equal, none, all_none}
use Rattle.tagged_file.proofs.Named.{first_none}
use Rattle.aiger.specs.Lines.{number, skip, number_at}
use Rattle.aiger.specs.Import.{header_number, input_line_number, output_line_number, gate_line_number, input_lines_number, output_lines_number, gate_lines_number, body_number, import_number}
use Rattle.aiger.specs.Export.{gates_before, exported, gates, ones, threes, inputs, outputs, export_text}
use Rattle.aiger.proofs.Gates.{before_most, exported_below, length_gates, gates_fine}
use Rattle.aiger.proofs.Imported.{skip_add}
use Rattle.aiger.proofs.ReadText.{OneRead, ThreeRead, HeadRead, ones_after, ones_read, threes_read, head_read}

-- lines that are read
input_none : (s : List ℕ) (k : ℕ) → OneRead s (2 * (1 + k)) → input_line_number s k ≡ 0
unfolding input_line_number
input_none s k r = sym (none _ _ r.fine (equal (number s) (2 * (1 + k)) _ _ r.one refl))

output_none : (s : List ℕ) (v x : ℕ) → OneRead s x → x / 2 < v → output_line_number s v ≡ 0
unfolding output_line_number
output_none s v x r h = sym (none _ _ r.fine (less (number s / 2) v _ _ (omega (arith, r.one)) refl))

gate_none : (s : List ℕ) (v x y z : ℕ) → ThreeRead s x y z → x ≡ 2 * v → y / 2 < v → z / 2 < v → gate_line_number s v ≡ 0
unfolding gate_line_number
gate_none s v x y z r hx hy hz =
    sym (none _ _ r.fine
    (equal (number s) (2 * v) _ _ (r.one ∙ hx)
    (less (number_at s 1 / 2) v _ _ (rw r.two hy)
    (less (number_at s 2 / 2) v _ _ (rw r.three hz) refl))))

-- the lines after the header
abbrev pub body_text : Graph → List ℕ
body_text g = ones (inputs g) (ones (outputs g) (threes (gates g g.N)))

length_inputs : (g : Graph) → length (inputs g) ≡ g.I
unfolding inputs
length_inputs g = length_tab g.I (λ k. 2 * (1 + k))

length_outputs : (g : Graph) → length (outputs g) ≡ g.O
unfolding outputs
length_outputs g = length_tab g.O (λ j. exported g (output g j))

input_at : (g : Graph) (k : ℕ) → k < g.I → get_or (inputs g) k 0 ≡ 2 * (1 + k)
unfolding inputs
input_at g k h = get_d_tab g.I (λ j. 2 * (1 + j)) k h

output_at : (g : Graph) (j : ℕ) → j < g.O → get_or (outputs g) j 0 ≡ exported g (output g j)
unfolding outputs
output_at g j h = get_d_tab g.O (λ k. exported g (output g k)) j h

after_inputs : (g : Graph) → skip g.I (body_text g) ≡ ones (outputs g) (threes (gates g g.N))
after_inputs g = rw length_inputs at (ones_after (inputs g) (ones (outputs g) (threes (gates g g.N))))

after_outputs : (g : Graph) → skip (g.I + g.O) (body_text g) ≡ threes (gates g g.N)
after_outputs g =
    sym (skip_add g.I g.O (body_text g)) ∙ ap (skip g.O) (after_inputs g)
    ∙ (rw length_outputs at (ones_after (outputs g) (threes (gates g g.N))))

module _ (g : Graph) (adm : Admitted g) where
  pub few_gates : gates_before g g.N ≤ 400000
  few_gates = omega (arith, before_most g g.N, adm.few_nodes)

  pub output_below : (j : ℕ) → j < g.O → exported g (output g j) / 2 < g.I + 1 + gates_before g g.N
  output_below j h = exported_below g (output g j) g.N (adm.output_below j h)

  input_line_lem : (k : ℕ) → k < g.I → OneRead (skip k (body_text g)) (2 * (1 + k))
  input_line_lem k h =
      let e = input_at g k h in
      rw e at (ones_read (inputs g) (ones (outputs g) (threes (gates g g.N))) k (omega (arith, length_inputs g)) (omega (arith, adm.few_inputs)))

  pub output_line_lem : (j : ℕ) → j < g.O → OneRead (skip (g.I + j) (body_text g)) (exported g (output g j))
  output_line_lem j h =
      let e = output_at g j h in
      let b = output_below j h in
      let p : skip (g.I + j) (body_text g) ≡ skip j (ones (outputs g) (threes (gates g g.N))) = sym (skip_add g.I j (body_text g)) ∙ ap (skip j) (after_inputs g) in
      rw (p, ← e) (ones_read (outputs g) (threes (gates g g.N)) j (omega (arith, length_outputs g)) (omega (arith, few_gates, adm.few_inputs)))

  pub gate_line : (q : ℕ) → q < gates_before g g.N
      → ThreeRead (skip (g.I + g.O + 3 * q) (body_text g)) (get_or (gates g g.N) (3 * q) 0) (get_or (gates g g.N) (3 * q + 1) 0) (get_or (gates g g.N) (3 * q + 2) 0)
  gate_line q h =
      let f = gates_fine g adm g.N (omega arith) q h in
      let l = length_gates g g.N in
      let few = few_gates in
      let i = adm.few_inputs in
      let p : skip (g.I + g.O + 3 * q) (body_text g) ≡ skip (3 * q) (threes (gates g g.N)) = sym (skip_add (g.I + g.O) (3 * q) (body_text g)) ∙ ap (skip (3 * q)) (after_outputs g) in
      rw p (threes_read (gates g g.N) q (omega arith) (omega (arith, f.own)) (omega (arith, f.left)) (omega (arith, f.right)))

  body_none : body_number (body_text g) g.I (gates_before g g.N) g.O ≡ 0
  unfolding body_number input_lines_number output_lines_number gate_lines_number
  body_none =
      sym (none _ _ (all_none g.I _ (λ k h. input_none _ k (input_line_lem k h)))
      (none _ _ (all_none g.O _ (λ j h. rw (skip_add g.I j (body_text g)) (output_none _ _ _ (output_line_lem j h) (output_below j h))))
      (sym (all_none (gates_before g g.N) _ (λ q h.
      let f = gates_fine g adm g.N (omega arith) q h in
      rw (skip_add (g.I + g.O) (3 * q) (body_text g)) (gate_none _ (g.I + 1 + q) _ _ _ (gate_line q h) f.own f.left f.right))))))

  pub export_read : HeadRead (export_text g) g.I (gates_before g g.N) g.O (body_text g)
  unfolding export_text
  export_read =
      head_read g.I (gates_before g g.N) g.O (body_text g) (omega (arith, adm.few_inputs)) (omega (arith, few_gates)) (omega (arith, adm.few_outputs))

head_room : (s rest : List ℕ) (i n o a b l : ℕ) → HeadRead s i n o rest → header_number s a b l ≡ room_number i n o a b l
unfolding header_number
head_room s rest i n o a b l r =
    sym (none _ _ r.aag (none _ _ r.fine (equal _ _ _ _ r.latches (equal _ _ _ _ (omega (arith, r.m, r.inputs, r.gates)) (rw (r.inputs, r.outputs, r.gates) refl)))))

whole : (s rest : List ℕ) (i n o a b l : ℕ) → HeadRead s i n o rest → body_number rest i n o ≡ 0 → import_number s a b l ≡ room_number i n o a b l
unfolding import_number
whole s rest i n o a b l r e = rw (head_room s rest i n o a b l r, r.after, r.inputs, r.outputs, r.gates) (first_none _ _ e)

abbrev pub Allowed : ℕ → Type 0
Allowed k = (k ≡ 0) ⊎ ((k ≡ 3) ⊎ (k ≡ 4))

allowed : (a b x y : ℕ) → Allowed x → Allowed y → Allowed (if_less a b x y)
allowed a b x y p q =
    ⊎_elim (λ (h : a < b). rw (← less a b x y h refl) p) (λ (h : b ≤ a). rw (← no_less a b x y h refl) q) (lt_or_le a b)

-- an export is refused by 3, where it has too many gates, and by 4, and by nothing else
module _ (g : Graph) (adm : Admitted g) (node_room output_room lock_room : ℕ) where
  pub import_room : import_number (export_text g) node_room output_room lock_room ≡ room_number g.I (gates_before g g.N) g.O node_room output_room lock_room
  import_room = whole (export_text g) (body_text g) g.I (gates_before g g.N) g.O node_room output_room lock_room (export_read g adm) (body_none g adm)

  pub import_number_lem : import_number (export_text g) node_room output_room lock_room
      ≡ if_less 100000 (gates_before g g.N) 3
      (if_less node_room (3 * gates_before g g.N) 4
      (if_less output_room g.O 4
      (if_less lock_room (gates_before g g.N) 4 0)))
  unfolding room_number
  import_number_lem =
      let rest : ℕ = if_less node_room (3 * gates_before g g.N) 4 (if_less output_room g.O 4 (if_less lock_room (gates_before g g.N) 4 0)) in
      let e : if_less 4096 g.O 3 rest ≡ rest = sym (no_less 4096 g.O 3 rest adm.few_outputs refl) in
      import_room ∙ sym (no_less 4096 g.I _ _ adm.few_inputs (rw e))

  pub import_three_or_four : Allowed (import_number (export_text g) node_room output_room lock_room)
  import_three_or_four =
      let four : Allowed 4 = inr (inr refl) in
      rw import_number_lem (allowed _ _ 3 _ (inr (inl refl)) (allowed _ _ 4 _ four (allowed _ _ 4 _ four (allowed _ _ 4 0 four (inl refl)))))
