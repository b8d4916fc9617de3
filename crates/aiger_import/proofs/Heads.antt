-- The header, tested from front to back, and what is known of one without a fault. From the laws on tests.
use Prim.Native.Nat.{ℕ, ◌+◌, ◌≤◌, ◌<◌}
use mathlib.Core.Path.{◌≡◌, refl, sym, ap, ◌∙◌}
use mathlib.Core.Logic.{◌⊎◌, inl, inr, ⊎_elim, ◌≢◌}
use mathlib.Core.List.{List, [], ◌∷◌}
use native.Mathlib.Omega.{arith}
use lib.ListN.{length, get_or, drop, length-drop, get_or-eq_default}
use lib.Seq.{drop-drop}
use Rattle.std.proofs.Common.{Result, Ok, Err}
use Rattle.std.specs.Result.{IsErrAnd}
use Rattle.std.proofs.lemmas.Result.{err_from_is_err_and}
use Rattle.graph.specs.Answer.{number_of}
use Rattle.graph.specs.declared.Refusal.{Refusal}
use Rattle.graph.specs.declared.Refusal.TheVariants.{HasLatches, WrongNumbering}
use Rattle.graph.specs.Finite.{if_equal}
use Rattle.graph.proofs.Answers.{number_some}
use Rattle.graph.specs.Admission.{room_number}
use Rattle.graph.proofs.Cases.{lt_or_le, eq_or_ne}
use Rattle.graph.proofs.Tests.{equal, unequal, fault, none, is}
use Rattle.aiger.specs.Lines.{number_at, line_number}
use Rattle.aiger.specs.Import.{head_m, head_i, head_l, head_o, head_a, aag_number, header_number}
use Rattle.aiger_import.specs.Reading.{LineRead, HeaderIs, HeaderRead}
use Rattle.aiger_import.specs.declared.header.Header.{Header}

-- "aag " takes four bytes
pub aag_room : (s : List ℕ) → aag_number s ≡ 0 → 4 ≤ length s
unfolding aag_number
aag_room s e =
    let a = is (get_or s 0 0) 97 9 _ e in
    let b = is (get_or s 1 0) 97 9 _ a.1 in
    let d = is (get_or s 2 0) 103 9 _ b.1 in
    let f = is (get_or s 3 0) 32 9 _ d.1 in
    ⊎_elim
    (λ (l : length s < 4). absurd (omega (arith, f.0, get_or-eq_default s 0 {n = 3} (omega arith))))
    (λ (l : 4 ≤ length s). l)
    (lt_or_le (length s) 4)

-- and is there or not
either : (a b : ℕ) {x : ℕ} → (x ≡ 0) ⊎ (x ≡ 10) → (if_equal a b x 10 ≡ 0) ⊎ (if_equal a b x 10 ≡ 10)
either a b {x} h =
    ⊎_elim
    (λ (q : a ≡ b). rw (← equal a b x 10 q refl) h)
    (λ (n : a ≢ b). inr (sym (unequal a b x 10 n refl)))
    (eq_or_ne a b)

pub aag_or : (s : List ℕ) → (aag_number s ≡ 0) ⊎ (aag_number s ≡ 10)
unfolding aag_number
aag_or s = either (get_or s 0 0) 97 (either (get_or s 1 0) 97 (either (get_or s 2 0) 103 (either (get_or s 3 0) 32 (inl refl))))

pub aag_there : (s t : List ℕ) → s ≡ 97 ∷ 97 ∷ 103 ∷ 32 ∷ t → aag_number s ≡ 0
unfolding aag_number if_equal
aag_there s t e = rw e refl

abbrev Four : List ℕ → Type 0
Four s = (get_or s 0 0 ≡ 97) × (get_or s 1 0 ≡ 97) × (get_or s 2 0 ≡ 103) × (get_or s 3 0 ≡ 32)

four : (s : List ℕ) → aag_number s ≡ 0 → Four s
unfolding aag_number
four s e =
    let a = is (get_or s 0 0) 97 9 _ e in
    let b = is (get_or s 1 0) 97 9 _ a.1 in
    let d = is (get_or s 2 0) 103 9 _ b.1 in
    (a.0, b.0, d.0, (is (get_or s 3 0) 32 9 _ d.1).0)

four_front : (s : List ℕ) → 4 ≤ length s → Four s → s ≡ 97 ∷ 97 ∷ 103 ∷ 32 ∷ drop 4 s
four_front [] h p = absurd (omega arith)
four_front (a ∷ []) h p = absurd (omega arith)
four_front (a ∷ b ∷ []) h p = absurd (omega arith)
four_front (a ∷ b ∷ d ∷ []) h p = absurd (omega arith)
four_front (a ∷ b ∷ d ∷ f ∷ s) h p = rw (p.0, p.1, p.2, p.3) refl

pub aag_is : (s : List ℕ) → aag_number s ≡ 0 → s ≡ 97 ∷ 97 ∷ 103 ∷ 32 ∷ drop 4 s
aag_is s e = four_front s (aag_room s e) (four s e)

pub room_left : (s t ns : List ℕ) (size : ℕ) → aag_number s ≡ 0 → t ≡ drop 4 s → LineRead 4 t ns (Ok size) → 4 + size ≤ length s
room_left s t ns size w p r = omega (arith, aag_room s w, (r.passed.taken size refl).within, ap length p, length-drop 4 s)

-- a fact on what was returned
ok_is : {s : List ℕ} {g : Header} (h : Header) → ◌≡◌ {A = Result Header Refusal} (Ok g) (Ok h) → HeaderIs s g → HeaderIs s h
ok_is {s} {g} h e f = let q : g ≡ h = cc in rw (← q) f

module _ (s : List ℕ) (a b l : ℕ) where
  refused : (x : Refusal) → number_of x ≡ header_number s a b l → HeaderRead s a b l (Err x)
  refused x e = record { fault_is = e; is = λ h q. absurd (cc) }

  refuses : (r : Result Header Refusal) (x : Refusal) → IsErrAnd r (λ y. y ≡ x) → number_of x ≡ header_number s a b l → HeaderRead s a b l r
  refuses r x q e = let p = err_from_is_err_and r q in rw (p.1, p.2) (refused x e)

  pub no_aag : (r : Result Header Refusal) (x : Refusal) → IsErrAnd r (λ y. y ≡ x) → number_of x ≡ aag_number s → HeaderRead s a b l r
  unfolding header_number
  no_aag r x q e = refuses r x q (fault (aag_number s) _ e (λ y. number_some x (e ∙ y)))

  module _ (w : aag_number s ≡ 0) (t ns : List ℕ) (p : t ≡ drop 4 s) where
    pub no_line : (r : Result Header Refusal) (x : Refusal) → IsErrAnd r (λ y. y ≡ x) → LineRead 4 t ns (Err x) → HeaderRead s a b l r
    unfolding header_number
    no_line r x q n =
        let e : number_of x ≡ line_number 4 (drop 4 s) = n.passed.fault_is ∙ ap (line_number 4) p in
        refuses r x q (none (aag_number s) _ w (fault _ _ e (λ y. number_some x (e ∙ y))))

    module _ (size : ℕ) (r : LineRead 4 t ns (Ok size)) where
      at : (j : ℕ) → j ≤ 4 → get_or ns j 0 ≡ number_at (drop 4 s) j
      at j k = r.numbers size refl j k ∙ ap (λ (u : List ℕ). number_at u j) p

      line_is : line_number 4 (drop 4 s) ≡ 0
      line_is = sym (r.passed.fault_is ∙ ap (line_number 4) p)

      -- the tests after the line
      rest_is : (x : ℕ) → x ≡ if_equal (head_l s) 0 (if_equal (head_m s) (head_i s + head_a s) (room_number (head_i s) (head_a s) (head_o s) a b l) 12) 11 → x ≡ header_number s a b l
      unfolding header_number
      rest_is x e = none (aag_number s) _ w (none _ _ line_is e)

      pub has_latches : (get_or ns 2 0 ≡ 0 → ⊥) → HeaderRead s a b l (Err HasLatches)
      has_latches d = refused HasLatches (rest_is 11 (unequal (head_l s) 0 _ _ (λ y. d (at 2 (omega arith) ∙ y)) refl))

      module _ (none-there : get_or ns 2 0 ≡ 0) where
        latches : head_l s ≡ 0
        latches = sym (at 2 (omega arith)) ∙ none-there

        pub wrong_m : (get_or ns 0 0 ≡ get_or ns 1 0 + get_or ns 4 0 → ⊥) → HeaderRead s a b l (Err WrongNumbering)
        wrong_m d =
            let m₀ = at 0 (omega arith) in
            let m₁ = at 1 (omega arith) in
            let m₄ = at 4 (omega arith) in
            refused WrongNumbering (rest_is 12 (equal (head_l s) 0 _ _ latches (unequal (head_m s) (head_i s + head_a s) _ _ (λ y. d (omega arith)) refl)))

        module _ (m : get_or ns 0 0 ≡ get_or ns 1 0 + get_or ns 4 0) where
          room_is : (x : ℕ) → x ≡ room_number (get_or ns 1 0) (get_or ns 4 0) (get_or ns 3 0) a b l → x ≡ header_number s a b l
          room_is x e =
              let m₀ = at 0 (omega arith) in
              let m₁ = at 1 (omega arith) in
              let m₃ = at 3 (omega arith) in
              let m₄ = at 4 (omega arith) in
              rest_is x (equal (head_l s) 0 _ _ latches (equal (head_m s) (head_i s + head_a s) _ _ (omega arith) (rw (m₁, m₃, m₄) at e)))

          pub no_room : (q : Result Header Refusal) (x : Refusal) → IsErrAnd q (λ y. y ≡ x) → number_of x ≡ room_number (get_or ns 1 0) (get_or ns 4 0) (get_or ns 3 0) a b l
              → HeaderRead s a b l q
          no_room q x e n = refuses q x e (room_is (number_of x) n)

          pub whole : 0 ≡ room_number (get_or ns 1 0) (get_or ns 4 0) (get_or ns 3 0) a b l
              → HeaderRead s a b l (Ok (record { sizes = record { inputs = get_or ns 1 0; nodes = get_or ns 4 0; outputs = get_or ns 3 0 }; size = 4 + size }))
          whole e =
              let m₁ = at 1 (omega arith) in
              let m₃ = at 3 (omega arith) in
              let m₄ = at 4 (omega arith) in
              record {
                fault_is = room_is 0 e;
                is = λ h q.
                    ok_is h q
                    (record {
                      inputs_is = m₁;
                      nodes_is = m₄;
                      outputs_is = m₃;
                      within = room_left s t ns size w p r;
                      after = sym (drop-drop size 4 s) ∙ ap (drop size) (sym p) ∙ (r.passed.taken size refl).after ∙ rw p;
                    });
              }
