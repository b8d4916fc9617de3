-- The moves of an accepted list, made one by one in any order, end in the graph that they give together. From the law of two choices one
-- after the other.
use mathlib.Core.Path.{◌≡◌, refl, sym, ap, ◌∙◌, fun_ext}
use mathlib.Core.Bool.{Bool, true, false}
use mathlib.Core.List.{List, [], ◌∷◌, Permᴰ}
use mathlib.Core.Logic.{⊎_elim, ◌≢◌, ∥∥₁_elim}
use Prim.Native.Nat.{ℕ, suc, ◌+◌, ◌-◌, ◌/◌, ◌<◌}
use native.Mathlib.Omega.{arith}
use native.Mathlib.Nat.{add_comm, ℕ_set}
use lib.Seq.{ext_get_or}
use lib.ListN.{length, get_or}
use Rattle.graph.specs.Admission.{Admitted}
use Rattle.graph.specs.Graph.{Graph, node, is_xor}
use Rattle.graph.specs.Turned.{turned_by}
use Rattle.graph.proofs.Cases.{eq_or_ne}
use Rattle.moves.specs.Apply.{Choice, none, at, put, apply}
use Rattle.moves.specs.Call.{moved}
use Rattle.moves.specs.Rows.{arity, kind_moves}
use Rattle.moves.specs.Compose.{combined, compose, Permitted}
use Rattle.moves.proofs.Apply.{admitted, same_xor}
use Rattle.moves.proofs.Changed.{at_same, at_other}
use Rattle.moves.proofs.Compose.{apply_apply}
use Rattle.moves.proofs.Kept.{apply_idle}
use Rattle.moves.proofs.Moves.{kind_pos}
use Rattle.many.specs.Many.{Entry, entries, one_by_one, EveryOrder}
use Rattle.many.specs.Making.{Listed, chosen}
use Rattle.many.proofs.Rising.{put_out, rises_rest}
use Rattle.many.proofs.Refusing.{accepted_many}
use Rattle.many.proofs.Sweeping.{put_has}

-- two moves of one kind combine in either order, and move 0 is none
combined_comm : (x : Bool) (m n : ℕ) → combined x m n ≡ combined x n m
unfolding combined
combined_comm true m n = rw (add_comm m n, add_comm (m / 2) (n / 2))
combined_comm false m n = rw (add_comm m n)

combined_zero : (x : Bool) (m : ℕ) → m < arity x → combined x m 0 ≡ m
unfolding combined arity
combined_zero true m h = omega arith
combined_zero false m h = omega arith

compose_comm : (g : Graph) (m n : Choice) → compose g m n ≡ compose g n m
unfolding compose
compose_comm g m n = fun_ext (λ u. combined_comm (is_xor g (u - (g.I + 1))) (m u) (n u))

-- a choice whose moves nodes have
abbrev Had : Graph → Choice → Type 0
Had g m = (u : ℕ) → m u < kind_moves g u

module _ (g : Graph) (u k : ℕ) (l : k < kind_moves g u) where
  at_had : (d : Choice) → Had g d → Had g (at d u k)
  at_had d h w = ⊎_elim (λ (e : w ≡ u). rw (e, at_same d u k) l) (λ (n : w ≢ u). rw (at_other d u k w n) (h w)) (eq_or_ne w u)

  single_had : Had g (at none u k)
  single_had = at_had none (kind_pos g)

permitted : (g : Graph) (m : Choice) → Had g m → Permitted g m
permitted g m h v l = h (node g v)

-- one move leaves the graph admitted, and every node its moves
abbrev made : Graph → Entry → Graph
made g e = moved g (e.node ∷ []) (e.move ∷ [])

made_is : (g : Graph) (u k : ℕ) → moved g (u ∷ []) (k ∷ []) ≡ apply g (at none u k)
unfolding moved put
made_is g u k = refl

module _ (g : Graph) (adm : Admitted g) (u k : ℕ) where
  made_admitted : Admitted (moved g (u ∷ []) (k ∷ []))
  made_admitted = rw (made_is g u k) (admitted g (at none u k) adm)

  made_moves : (w : ℕ) → kind_moves (moved g (u ∷ []) (k ∷ [])) w ≡ kind_moves g w
  unfolding kind_moves apply turned_by
  made_moves w = rw (made_is g u k) (ap arity (same_xor g (at none u k) adm (w - (g.I + 1))))

-- every entry has a move of its node
abbrev Have : Graph → List Entry → Type 0
Have g [] = Unit
Have g (e ∷ es) = (e.move < kind_moves g e.node) × Have g es

have_made : (g : Graph) → Admitted g → (u k : ℕ) (es : List Entry) → Have g es → Have (moved g (u ∷ []) (k ∷ [])) es
have_made g adm u k [] h = tt
have_made g adm u k (e ∷ es) h = (rw (made_moves g adm u k e.node) h.0, have_made g adm u k es h.1)

have_order : (g : Graph) (es fs : List Entry) → Permᴰ es fs → Have g es → Have g fs
have_order g es fs Permᴰ.nil h = tt
have_order g es fs (Permᴰ.cons {l₁ = l₁} {l₂ = l₂} e d) h = (rw (← e) h.0, have_order g l₁ l₂ d h.1)
have_order g es fs (Permᴰ.swap e₁ e₂) h = (rw (← e₂) h.1.0, (rw (← e₁) h.0, h.1.1))
have_order g es fs (Permᴰ.trans {l₂ = l₂} d₁ d₂) h = have_order g l₂ fs d₂ (have_order g es l₂ d₁ h)

-- two moves in either order, and so any order of entries
swap_two : (g : Graph) → Admitted g → (u k w l : ℕ) → k < kind_moves g u → l < kind_moves g w
    → moved (moved g (u ∷ []) (k ∷ [])) (w ∷ []) (l ∷ []) ≡ moved (moved g (w ∷ []) (l ∷ [])) (u ∷ []) (k ∷ [])
unfolding moved put
swap_two g adm u k w l a b =
    let p = permitted g (at none u k) (single_had g u k a) in
    let q = permitted g (at none w l) (single_had g w l b) in
    apply_apply g (at none u k) (at none w l) p q adm ∙ ap (apply g) (compose_comm g (at none u k) (at none w l)) ∙ sym (apply_apply g (at none w l) (at none u k) q p adm)

any_order : (g : Graph) → Admitted g → (es fs : List Entry) → Permᴰ es fs → Have g es → one_by_one g es ≡ one_by_one g fs
unfolding one_by_one
any_order g adm es fs Permᴰ.nil h = refl
any_order g adm es fs (Permᴰ.cons {a = a} {b = b} {l₁ = l₁} {l₂ = l₂} e d) h =
    any_order (made g a) (made_admitted g adm a.node a.move) l₁ l₂ d (have_made g adm a.node a.move l₁ h.1) ∙ ap (λ (x : Entry). one_by_one (made g x) l₂) e
any_order g adm es fs (Permᴰ.swap {a = a} {b = b} {a' = a'} {b' = b'} {l = l} e₁ e₂) h =
    ap (λ (x : Graph). one_by_one x l) (swap_two g adm a.node a.move b.node b.move h.0 h.1.0)
    ∙ ap (λ (x : Entry). one_by_one (made (made g x) a) l) e₂
    ∙ ap (λ (x : Entry). one_by_one (made (made g a') x) l) e₁
any_order g adm es fs (Permᴰ.trans {l₂ = l₂} d₁ d₂) h = any_order g adm es l₂ d₁ h ∙ any_order g adm l₂ fs d₂ (have_order g es l₂ d₁ h)

-- a list looks at what was there before only where it has no node
put_agree : (us ms : List ℕ) (d e : Choice) (w : ℕ) → d w ≡ e w → put d us ms w ≡ put e us ms w
unfolding put
put_agree [] ms d e w h = h
put_agree (u ∷ us) [] d e w h = h
put_agree (u ∷ us) (k ∷ ms) d e w h =
    put_agree us ms (at d u k) (at e u k) w
    (⊎_elim
    (λ (q : w ≡ u). rw (q, at_same d u k, at_same e u k))
    (λ (n : w ≢ u). rw (at_other d u k w n, at_other e u k w n) h)
    (eq_or_ne w u))

-- one move, and then those of a list that does not name its node
module _ (g : Graph) (u k : ℕ) (us ms : List ℕ) (l : k < kind_moves g u) (f : Had g (chosen us ms)) (out : (j : ℕ) → j < length us → get_or us j 0 ≢ u) where
  first_then : (w : ℕ) → combined (is_xor g (w - (g.I + 1))) (at none u k w) (chosen us ms w) ≡ put (at none u k) us ms w
  unfolding kind_moves
  first_then w =
      ⊎_elim
      (λ (e : w ≡ u).
      rw (e, put_out us ms none u out, put_out us ms (at none u k) u out, at_same none u k) (combined_zero (is_xor g (u - (g.I + 1))) k l))
      (λ (n : w ≢ u).
      rw (at_other none u k w n) (combined_comm (is_xor g (w - (g.I + 1))) 0 (chosen us ms w) ∙ combined_zero (is_xor g (w - (g.I + 1))) (chosen us ms w) (f w))
      ∙ put_agree us ms none (at none u k) w (sym (at_other none u k w n)))
      (eq_or_ne w u)

  composed : compose g (at none u k) (chosen us ms) ≡ put (at none u k) us ms
  unfolding compose
  composed = fun_ext first_then

  one_more_lem : Admitted g → moved (moved g (u ∷ []) (k ∷ [])) us ms ≡ moved g (u ∷ us) (k ∷ ms)
  unfolding moved put
  one_more_lem adm = apply_apply g (at none u k) (chosen us ms) (permitted g (at none u k) (single_had g u k l)) (permitted g (chosen us ms) f) adm ∙ ap (apply g) composed

-- in the list's own order
nothing : (g : Graph) (ms : List ℕ) → Admitted g → g ≡ moved g [] ms
unfolding moved put
nothing g ms adm = sym (apply_idle g none adm (λ u. refl))

-- a move leaves the inputs
made_above : (g : Graph) (u k w : ℕ) → g.I < w → (moved g (u ∷ []) (k ∷ [])).I < w
unfolding moved apply turned_by
made_above g u k w h = h

module _ (g : Graph) (u k : ℕ) (us ms : List ℕ) (l : Listed g (u ∷ us) (k ∷ ms)) where
  rest_had : Had g (chosen us ms)
  rest_had = put_has (kind_moves g) us ms none (kind_pos g) (λ j h. l.have (suc j) (omega arith))

  rest_out : (j : ℕ) → j < length us → get_or us j 0 ≢ u
  rest_out j h e = omega (arith, l.rises 0 (suc j) (omega arith) (omega arith), e)

  rest_listed : Admitted g → Listed (moved g (u ∷ []) (k ∷ [])) us ms
  rest_listed adm =
      record {
        rises = rises_rest u us l.rises;
        enough = omega (arith, l.enough);
        nodes = λ j h. made_above g u k (get_or us j 0) (l.nodes (suc j) (omega arith));
        have = λ j h. rw (made_moves g adm u k (get_or us j 0)) (l.have (suc j) (omega arith));
      }

in_order_lem : (g : Graph) → Admitted g → (us ms : List ℕ) → Listed g us ms → one_by_one g (entries us ms) ≡ moved g us ms
unfolding one_by_one entries
in_order_lem g adm [] ms l = nothing g ms adm
in_order_lem g adm (u ∷ us) [] l = absurd (omega (arith, l.enough))
in_order_lem g adm (u ∷ us) (k ∷ ms) l =
    in_order_lem (moved g (u ∷ []) (k ∷ [])) (made_admitted g adm u k) us ms (rest_listed g u k us ms l adm)
    ∙ one_more_lem g u k us ms (l.have 0 (omega arith)) (rest_had g u k us ms l) (rest_out g u k us ms l) adm

have_all : (g : Graph) (us ms : List ℕ) → ((j : ℕ) → j < length us → get_or ms j 0 < kind_moves g (get_or us j 0)) → Have g (entries us ms)
unfolding entries
have_all g [] ms h = tt
have_all g (u ∷ us) [] h = tt
have_all g (u ∷ us) (k ∷ ms) h = (h 0 (omega arith), have_all g us ms (λ j l. h (suc j) (omega arith)))

-- graphs are equal by their numbers, so an order of which it is only known that there is one does as well
by_numbers : (g h : Graph) → g.I ≡ h.I → g.N ≡ h.N → g.O ≡ h.O → length g.nodes ≡ length h.nodes → length g.outputs ≡ length h.outputs
    → ((j : ℕ) → get_or g.nodes j 0 ≡ get_or h.nodes j 0) → ((j : ℕ) → get_or g.outputs j 0 ≡ get_or h.outputs j 0) → g ≡ h
by_numbers g h i n o l k a b =
    let p : g.nodes ≡ h.nodes = ext_get_or 0 _ _ l (λ j q. a j) in
    let q : g.outputs ≡ h.outputs = ext_get_or 0 _ _ k (λ j q. b j) in
    λ t. record { I = i t; N = n t; O = o t; nodes = p t; outputs = q t }

by_some : {A : Type 0} (g h : Graph) → ∥ A ∥₁ → (A → g ≡ h) → g ≡ h
by_some g h s f =
    by_numbers g h
    (∥∥₁_elim s (ℕ_set _ _) (λ x. ap (λ (k : Graph). k.I) (f x)))
    (∥∥₁_elim s (ℕ_set _ _) (λ x. ap (λ (k : Graph). k.N) (f x)))
    (∥∥₁_elim s (ℕ_set _ _) (λ x. ap (λ (k : Graph). k.O) (f x)))
    (∥∥₁_elim s (ℕ_set _ _) (λ x. ap (λ (k : Graph). length k.nodes) (f x)))
    (∥∥₁_elim s (ℕ_set _ _) (λ x. ap (λ (k : Graph). length k.outputs) (f x)))
    (λ j. ∥∥₁_elim s (ℕ_set _ _) (λ x. ap (λ (k : Graph). get_or k.nodes j 0) (f x)))
    (λ j. ∥∥₁_elim s (ℕ_set _ _) (λ x. ap (λ (k : Graph). get_or k.outputs j 0) (f x)))

-- M-106: an accepted list's moves, in every order
pub every_order : (g : Graph) (ls us ms : List ℕ) → EveryOrder g ls us ms
every_order g ls us ms e es s =
    let a = accepted_many g ls us ms e in
    by_some (one_by_one g es) (moved g us ms) s (λ d. sym (any_order g a.0 (entries us ms) es d (have_all g us ms a.1.have)) ∙ in_order_lem g a.0 us ms a.1)
