-- `header::check_aag` meets its contract: it tests the four bytes at once. From the law of the front of a slice.
use mathlib.Core.List.{[], ◌∷◌}
use mathlib.Core.Logic.{⊎_elim}
use mathlib.Core.Path.{◌≡◌, sym}
use lib.ListN.{drop}
use Rattle.std.proofs.lemmas.Bool.Decides.{Decides-eqb}
use Rattle.std.proofs.lemmas.Slice.Eq.{starts_is}
use Rattle.aiger.specs.Import.{aag_number}
use Rattle.aiger_import.proofs.Heads.{aag_or, aag_there, aag_is}
use Rattle.aiger_import.proofs.header.check_aag.Goals as goal

pub returns-then-starts_with : goal.returns-then-starts_with
returns-then-starts_with c =
    let s = c.args.s.now in
    let r = starts_is Decides-eqb s (97 ∷ 97 ∷ 103 ∷ 32 ∷ []) _ c.starts_with.ensures.value in
    sym (aag_there s (drop 4 s) (r.0 c.if-starts_with.true))

pub returns : goal.returns
returns c =
    let s = c.args.s.now in
    let r = starts_is Decides-eqb s (97 ∷ 97 ∷ 103 ∷ 32 ∷ []) _ c.starts_with.ensures.value in
    ⊎_elim (λ (z : aag_number s ≡ 0). absurd (let t = r.1 (drop 4 s) (aag_is s z) in cc)) (λ (t : aag_number s ≡ 10). sym t) (aag_or s)
