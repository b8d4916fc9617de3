-- `note_all` meets its contract: the words passed are noted. From the laws on noting.
use mathlib.Core.Path.{◌≡◌, refl, ◌∙◌}
use native.Mathlib.Omega.{arith}
use lib.ListN.{get_or}
use Rattle.trees.proofs.Noting.{notes_zero, notes_suc, notes_low}
use Rattle.trees.proofs.fill.note_all.Goals as goal
use Rattle.graph.specs.Tables.{lent_table}

pub loop-p-init : goal.loop-p-init
loop-p-init c = record { within = omega arith; same = refl; notes = notes_zero _ _ _ _ _ c.requires.0 }

pub index_at-u-requires : goal.index_at-u-requires
index_at-u-requires c = omega (arith, c.loop-p.invariant.within)

pub odd_at-b-requires : goal.odd_at-b-requires
odd_at-b-requires c = omega (arith, c.loop-p.invariant.within)

pub note-requires : goal.note-requires
note-requires c =
    let p = c.requires in
    let v = c.loop-p.invariant in
    (notes_low _ _ _ _ _ p.0 _ _ v.notes (omega (arith, p.1)) v.same, c.odd_at-b.ensures.1)

pub loop-p-smaller : goal.loop-p-smaller
loop-p-smaller c = omega (arith, c.loop-p.invariant.within)

pub loop-p-preserved : goal.loop-p-preserved
loop-p-preserved c =
    let a = c.args in
    let l = c.loop-p in
    let x = get_or (lent_table a.table.now) l.p 0 in
    record {
      within = omega arith;
      same = c.scratch-1.given ∙ l.invariant.same;
      notes = notes_suc _ _ _ _ _ c.requires.0 _ _ l.invariant.notes _ _ refl (c.note.ensures x c.index_at-u.ensures c.odd_at-b.ensures.0);
    }

pub shape_of-scratch : goal.shape_of-scratch
shape_of-scratch c = c.loop-p.invariant.same

pub returns : goal.returns
returns c =
    let e : c.loop-p.p ≡ c.args.words = omega (arith, c.loop-p.invariant.within) in
    rw e at c.loop-p.invariant.notes
