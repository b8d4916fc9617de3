-- The worked tables, by computation.
use mathlib.Core.Path.{refl}
use Rattle.graph.specs.Finite.{tab, if_equal}
use Rattle.graph.specs.Literals.{bit, bit_at, index_at, bit_of}
use Rattle.evaluation.specs.Word.{gather}
use Rattle.packed.specs.Old.{old_table, indices_of, bits_of}
use Rattle.packed.specs.Promises.{WorkedTables}

pub worked_tables : WorkedTables
unfolding old_table indices_of bits_of tab if_equal index_at bit_at bit bit_of gather
worked_tables =
    record { majority = refl; xor = refl; indices = refl; bits = refl; place_62 = refl; place_63 = refl; place_64 = refl; place_65 = refl }
