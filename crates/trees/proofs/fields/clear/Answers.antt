-- `clear` meets its contract. From the contract of `fill`.
use Rattle.std.proofs.Common.{◌≡◌, ℕ, ◌*◌, ◌<◌, List, ◌++◌, length, get_or, take, ap, ◌∙◌, arith, length-take-le}
use Rattle.std.specs.Prelude.{replicate}
use Rattle.std.proofs.lemmas.List.{get_or-replicate, places}
use Rattle.trees.proofs.fields.clear.Goals as goal

zero_at : (n : ℕ) (xs ys : List ℕ) (k : ℕ) → xs ≡ replicate n 0 → length xs ≡ n → k < n → get_or (xs ++ ys) k 0 ≡ 0
zero_at n xs ys k e l h =
    let front : get_or (xs ++ ys) k 0 ≡ get_or xs k 0 = grind (arith, places) in
    front ∙ ap (λ (z : List ℕ). get_or z k 0) e ∙ get_or-replicate n k 0 0 h

pub returns : goal.returns
returns c k h =
    let t = c.args.scratch.now in
    let l : length (take (8 * c.args.nodes) t) ≡ 8 * c.args.nodes = length-take-le _ _ c.requires.1 in
    zero_at _ _ _ k (c.fill.ensures.after (λ y e. e)) c.fill.ensures.len (rw l h)
