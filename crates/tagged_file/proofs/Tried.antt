-- The definitions of fields, loading and writing, computed on document 01's first file, on the edges of the limits, and with locks.
use Prim.Native.Nat.{ℕ}
use mathlib.Core.Path.{◌≡◌, refl}
use mathlib.Core.List.{List, [], ◌∷◌, ◌++◌}
use lib.ListN.{length, take}
use Rattle.graph.specs.Finite.{tab, if_less, if_equal, first, first_of, count, sum}
use Rattle.graph.specs.Graph.{Graph, graph_of, mark, is_edge}
use Rattle.graph.specs.Admission.{room_number, tables_number, word_number, literal_number, lock_number, locks_number, content_number, admission_number, stray_number, strays_number}
use Rattle.graph.specs.Admission as admission
use Rattle.graph.specs.Answer.{accepted, locked_outcome, guarded_locks}
use Rattle.file_checks.specs.File.{be2, be4, payload_of, due_number, field_number, field_payload, node_size, third, head_number, node_field_number, output_field_number, lock_field_number, end_number, lock_count, file_number, locks_from, lock_indices}
use Rattle.tagged_file.specs.Write.{big, field_of, head_field, node_field, output_field, lock_field, end_field, node_field_at, output_field_at, lock_field_at, file_of, write_number}
use Rattle.tagged_file.specs.Load.{graph_read, locks_read, load_call}
use Rattle.graph.specs.Literals.{literal_of, bit_of, held, strays, evened, cleared, filled}

-- field 01 of a file with I = 3 and O = 1, and so many nodes
abbrev pub head : ℕ → ℕ → ℕ → List ℕ
head a b d = 1 ∷ 0 ∷ 12 ∷ 0 ∷ 0 ∷ 0 ∷ 3 ∷ 0 ∷ a ∷ b ∷ d ∷ 0 ∷ 0 ∷ 0 ∷ 1 ∷ []

-- a majority, whose third literal is in these four bytes; an output, a lock and the end
abbrev majority : ℕ → ℕ → ℕ → ℕ → List ℕ
majority a b d e = 2 ∷ 0 ∷ 12 ∷ 0 ∷ 0 ∷ 0 ∷ 3 ∷ 0 ∷ 0 ∷ 0 ∷ 5 ∷ a ∷ b ∷ d ∷ e ∷ []

abbrev output : List ℕ
output = 4 ∷ 0 ∷ 4 ∷ 0 ∷ 0 ∷ 0 ∷ 9 ∷ []

abbrev lock : ℕ → List ℕ
lock u = 6 ∷ 0 ∷ 4 ∷ 0 ∷ 0 ∷ 0 ∷ u ∷ []

abbrev end : List ℕ
end = 5 ∷ 0 ∷ 0 ∷ []

-- what follows field 01 in a file of one majority
abbrev pub tail : ℕ → ℕ → ℕ → ℕ → List ℕ
tail a b d e = majority a b d e ++ (output ++ end)

-- P1's file
abbrev pub p1 : List ℕ
p1 = head 0 0 1 ++ tail 0 0 0 7

size : length p1 ≡ 40
size = refl

-- what stands before the outputs in a file of two nodes, and such a file with these bytes before its end
abbrev nodes : List ℕ
nodes = head 0 0 2 ++ (majority 0 0 0 7 ++ (3 ∷ 0 ∷ 8 ∷ 0 ∷ 0 ∷ 0 ∷ 8 ∷ 0 ∷ 0 ∷ 0 ∷ 2 ∷ []))

abbrev two : List ℕ → List ℕ
two locks = nodes ++ (output ++ (locks ++ end))

loads : load_call p1 (0 ∷ 0 ∷ 0 ∷ 6 ∷ []) (0 ∷ 8 ∷ []) (1 ∷ 7 ∷ []) ≡ locked_outcome (accepted (3 ∷ 1 ∷ 1 ∷ [])) (graph_of 3 1 1 (3 ∷ 5 ∷ 7 ∷ 6 ∷ []) (9 ∷ 8 ∷ [])) (0 ∷ 7 ∷ [])
unfolding tab if_less if_equal first guarded_locks be2 be4 payload_of due_number node_size third room_number head_number node_field_number output_field_number lock_field_number end_number lock_count file_number locks_from lock_indices graph_read locks_read load_call held count sum filled cleared evened literal_of
loads = refl

-- the lock bytes after a load: what a node's held before is gone, later ones are left
abbrev locks_after : List ℕ → List ℕ
locks_after locks = (load_call (two locks) (0 ∷ 0 ∷ 0 ∷ 0 ∷ 0 ∷ 0 ∷ []) (0 ∷ []) (1 ∷ 8 ∷ 9 ∷ [])).locks

loads_locks : (locks_after [] ≡ 0 ∷ 0 ∷ 9 ∷ []) × (locks_after (lock 4) ≡ 1 ∷ 0 ∷ 9 ∷ []) × (locks_after (lock 5) ≡ 0 ∷ 1 ∷ 9 ∷ [])
    × (locks_after (lock 4 ++ lock 5) ≡ 1 ∷ 1 ∷ 9 ∷ []) × (locks_after (lock 5 ++ lock 4) ≡ 1 ∷ 8 ∷ 9 ∷ [])
unfolding tab if_less if_equal first guarded_locks be2 be4 payload_of due_number node_size third room_number head_number node_field_number output_field_number lock_field_number end_number lock_count file_number locks_from lock_indices graph_read locks_read load_call held count sum filled cleared evened literal_of
loads_locks = (refl, refl, refl, refl, refl)

-- the number of each file, with tables of so many words and so many lock bytes lent
record Row : Type 0 where
  file : List ℕ
  node_room : ℕ
  output_room : ℕ
  lock_room : ℕ
  number : ℕ

rows : List Row
rows =
    record { file = p1; node_room = 3; output_room = 1; lock_room = 1; number = 0 }
    -- its first 39 bytes, one more byte, no bytes
    ∷ record { file = take 39 p1; node_room = 3; output_room = 1; lock_room = 1; number = 1 }
    ∷ record { file = p1 ++ (0 ∷ []); node_room = 3; output_room = 1; lock_room = 1; number = 6 }
    ∷ record { file = []; node_room = 3; output_room = 1; lock_room = 1; number = 1 }
    -- slices too short
    ∷ record { file = p1; node_room = 2; output_room = 1; lock_room = 1; number = 4 }
    ∷ record { file = p1; node_room = 3; output_room = 0; lock_room = 1; number = 4 }
    ∷ record { file = p1; node_room = 3; output_room = 1; lock_room = 0; number = 4 }
    -- the first node may name 7; 8 is its own index, and the mark's number names no index below it
    ∷ record { file = head 0 0 1 ++ tail 0 0 0 8; node_room = 3; output_room = 1; lock_room = 1; number = 5 }
    ∷ record { file = head 0 0 1 ++ tail 255 255 255 255; node_room = 3; output_room = 1; lock_room = 1; number = 5 }
    -- nor does it as a first word, of a majority or of an XOR
    ∷ record {
      file = head 0 0 1 ++ (2 ∷ 0 ∷ 12 ∷ 255 ∷ 255 ∷ 255 ∷ 255 ∷ 0 ∷ 0 ∷ 0 ∷ 5 ∷ 0 ∷ 0 ∷ 0 ∷ 7 ∷ []);
      node_room = 3;
      output_room = 1;
      lock_room = 1;
      number = 5;
    }
    ∷ record { file = head 0 0 1 ++ (3 ∷ 0 ∷ 8 ∷ 255 ∷ 255 ∷ 255 ∷ 255 ∷ 0 ∷ 0 ∷ 0 ∷ 5 ∷ []); node_room = 3; output_room = 1; lock_room = 1; number = 5 }
    -- 4,097 outputs get 3, though no table is lent
    ∷ record { file = 1 ∷ 0 ∷ 12 ∷ 0 ∷ 0 ∷ 0 ∷ 3 ∷ 0 ∷ 0 ∷ 0 ∷ 1 ∷ 0 ∷ 0 ∷ 16 ∷ 1 ∷ []; node_room = 0; output_room = 0; lock_room = 0; number = 3 }
    -- 100,001 nodes, whatever is lent; 100,000 announced and none there
    ∷ record { file = head 1 134 161; node_room = 400000; output_room = 1; lock_room = 100001; number = 3 }
    ∷ record { file = head 1 134 161; node_room = 0; output_room = 0; lock_room = 0; number = 3 }
    ∷ record { file = head 1 134 160; node_room = 300000; output_room = 1; lock_room = 100000; number = 1 }
    ∷ []

abbrev Agrees : List Row → Type 0
Agrees [] = Unit {0}
Agrees (r ∷ rs) = (file_number r.file r.node_room r.output_room r.lock_room ≡ r.number) × Agrees rs

agree : Agrees rows
unfolding rows if_less if_equal first be2 be4 payload_of due_number node_size third room_number head_number node_field_number output_field_number lock_field_number end_number lock_count file_number
agree = (refl, (refl, (refl, (refl, (refl, (refl, (refl, (refl, (refl, (refl, (refl, (refl, (refl, (refl, (refl, tt)))))))))))))))

-- the number of each file of two nodes, the indices 4 and 5
record LockRow : Type 0 where
  file : List ℕ
  number : ℕ

lock_rows : List LockRow
lock_rows =
    record { file = two []; number = 0 }
    ∷ record { file = two (lock 4); number = 0 }
    ∷ record { file = two (lock 5); number = 0 }
    ∷ record { file = two (lock 4 ++ lock 5); number = 0 }
    -- no node, the same index again, a lower one
    ∷ record { file = two (lock 3); number = 13 }
    ∷ record { file = two (lock 6); number = 13 }
    ∷ record { file = two (lock 4 ++ lock 4); number = 13 }
    ∷ record { file = two (lock 5 ++ lock 5); number = 13 }
    ∷ record { file = two (lock 5 ++ lock 4); number = 13 }
    -- a lock where an output is due, an output after a lock, a lock after the end
    ∷ record { file = nodes ++ (lock 4 ++ (output ++ end)); number = 2 }
    ∷ record { file = two (lock 4 ++ output); number = 2 }
    ∷ record { file = two [] ++ lock 4; number = 6 }
    -- another length comes before the index, and so does a cut payload; no end
    ∷ record { file = two (6 ∷ 0 ∷ 5 ∷ 0 ∷ 0 ∷ 0 ∷ 3 ∷ 0 ∷ []); number = 2 }
    ∷ record { file = nodes ++ (output ++ (6 ∷ 0 ∷ 4 ∷ 0 ∷ 0 ∷ 0 ∷ [])); number = 1 }
    ∷ record { file = nodes ++ (output ++ (6 ∷ [])); number = 1 }
    ∷ record { file = nodes ++ (output ++ lock 4); number = 1 }
    -- the first fault of two
    ∷ record { file = nodes ++ (output ++ (lock 6 ++ lock 4)); number = 13 }
    ∷ []

abbrev LocksAgree : List LockRow → Type 0
LocksAgree [] = Unit {0}
LocksAgree (r ∷ rs) = (file_number r.file 6 1 2 ≡ r.number) × LocksAgree rs

locks_agree : LocksAgree lock_rows
unfolding lock_rows if_less if_equal first be2 be4 payload_of due_number node_size third room_number head_number node_field_number output_field_number lock_field_number end_number lock_count file_number
locks_agree = (refl, (refl, (refl, (refl, (refl, (refl, (refl, (refl, (refl, (refl, (refl, (refl, (refl, (refl, (refl, (refl, (refl, tt)))))))))))))))))

-- the file of P1's graph is P1's file; that of P5's graph, whose node is an XOR, has 36 bytes; that of two nodes has a field 06 for each locked one
p1_written : file_of (graph_of 3 1 1 (3 ∷ 5 ∷ 7 ∷ 6 ∷ []) (9 ∷ 8 ∷ [])) (0 ∷ 1 ∷ []) ≡ p1
unfolding if_equal big field_of head_field node_field output_field lock_field end_field node_field_at output_field_at lock_field_at file_of
p1_written = refl

p5_written : file_of (graph_of 2 1 1 (3 ∷ 5 ∷ mark ∷ []) (6 ∷ [])) (0 ∷ [])
    ≡ 1 ∷ 0 ∷ 12 ∷ 0 ∷ 0 ∷ 0 ∷ 2 ∷ 0 ∷ 0 ∷ 0 ∷ 1 ∷ 0 ∷ 0 ∷ 0 ∷ 1 ∷ 3 ∷ 0 ∷ 8 ∷ 0 ∷ 0 ∷ 0 ∷ 3 ∷ 0 ∷ 0 ∷ 0 ∷ 5 ∷ 4 ∷ 0 ∷ 4 ∷ 0 ∷ 0 ∷ 0 ∷ 6 ∷ 5 ∷ 0 ∷ 0 ∷ []
unfolding if_equal big field_of head_field node_field output_field lock_field end_field node_field_at output_field_at lock_field_at file_of
p5_written = refl

abbrev pair : Graph
pair = graph_of 3 2 1 (3 ∷ 5 ∷ 7 ∷ 8 ∷ 2 ∷ mark ∷ []) (9 ∷ [])

two_written : (file_of pair (0 ∷ 1 ∷ []) ≡ two (lock 5)) × (file_of pair (1 ∷ 1 ∷ []) ≡ two (lock 4 ++ lock 5))
unfolding if_equal big field_of head_field node_field output_field lock_field end_field node_field_at output_field_at lock_field_at file_of
two_written = (refl, refl)

-- a buffer of 39 bytes is too short for P1's file, one of 40 is not, and a lock takes 7 more; what is not admitted is refused first
abbrev written : ℕ → ℕ → ℕ → ℕ
written z lock room = write_number (graph_of 3 1 1 (3 ∷ 5 ∷ z ∷ []) (9 ∷ [])) (lock ∷ []) room

fits : (written 7 0 39 ≡ 9) × (written 7 0 40 ≡ 0) × (written 7 1 46 ≡ 9) × (written 7 1 47 ≡ 0) × (written 7 2 39 ≡ 13) × (written 8 2 39 ≡ 5)
unfolding if_less if_equal first first_of is_edge tables_number room_number word_number admission.output_number literal_number lock_number locks_number content_number admission_number big field_of head_field node_field output_field lock_field end_field node_field_at output_field_at lock_field_at file_of write_number count sum held strays bit_of strays_number stray_number
fits = (refl, refl, refl, refl, refl, refl)

-- one field: field 05 has an empty payload and is accepted; a cut head, an unknown tag, a wrong length and a cut payload are not
field_rows : (field_number (5 ∷ 0 ∷ 0 ∷ 9 ∷ []) ≡ 0) × (field_payload (5 ∷ 0 ∷ 0 ∷ 9 ∷ []) ≡ []) × (field_number (5 ∷ 0 ∷ []) ≡ 1) × (field_number (7 ∷ 0 ∷ 0 ∷ []) ≡ 2)
    × (field_number (4 ∷ 0 ∷ 5 ∷ 1 ∷ 2 ∷ 3 ∷ 4 ∷ 5 ∷ []) ≡ 2) × (field_number (4 ∷ 0 ∷ 4 ∷ 1 ∷ 2 ∷ 3 ∷ []) ≡ 1)
    × (field_payload (4 ∷ 0 ∷ 4 ∷ 1 ∷ 2 ∷ 3 ∷ 4 ∷ 5 ∷ []) ≡ 1 ∷ 2 ∷ 3 ∷ 4 ∷ []) × (field_payload (6 ∷ 0 ∷ 4 ∷ 1 ∷ 2 ∷ 3 ∷ 4 ∷ 5 ∷ []) ≡ 1 ∷ 2 ∷ 3 ∷ 4 ∷ [])
unfolding if_less if_equal be2 payload_of due_number field_payload
field_rows = (refl, refl, refl, refl, refl, refl, refl, refl)
