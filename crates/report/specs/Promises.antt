-- What a report promises beside its contract: document 01's report of P1, letter for letter, and that a loaded file is always settled.
use Rattle.std.specs.Prelude.{◌≡◌, ◌∷◌}
use Rattle.graph.specs.All.{ℕ, List, [], held}
use Rattle.tagged_file.specs.All.{load_call}
use Rattle.report.specs.Report.{text_of, settled_file, report_number}

-- P1's file: I = 3, one node 3 5 7, one output 9
abbrev pub p1 : List ℕ
p1 =
    1 ∷ 0 ∷ 12 ∷ 0 ∷ 0 ∷ 0 ∷ 3 ∷ 0 ∷ 0 ∷ 0 ∷ 1 ∷ 0 ∷ 0 ∷ 0 ∷ 1
    ∷ 2 ∷ 0 ∷ 12 ∷ 0 ∷ 0 ∷ 0 ∷ 3 ∷ 0 ∷ 0 ∷ 0 ∷ 5 ∷ 0 ∷ 0 ∷ 0 ∷ 7
    ∷ 4 ∷ 0 ∷ 4 ∷ 0 ∷ 0 ∷ 0 ∷ 9
    ∷ 5 ∷ 0 ∷ 0 ∷ []

-- "inputs 3 nodes 1 outputs 1", "before 4 after 0 rounds 2", "node 4 maj 2 4 6" and "out 8", a newline after each
abbrev text : List ℕ
text =
    105 ∷ 110 ∷ 112 ∷ 117 ∷ 116 ∷ 115 ∷ 32 ∷ 51 ∷ 32 ∷ 110 ∷ 111 ∷ 100 ∷ 101 ∷ 115 ∷ 32 ∷ 49 ∷ 32 ∷ 111 ∷ 117 ∷ 116 ∷ 112 ∷ 117 ∷ 116 ∷ 115 ∷ 32 ∷ 49 ∷ 10
    ∷ 98 ∷ 101 ∷ 102 ∷ 111 ∷ 114 ∷ 101 ∷ 32 ∷ 52 ∷ 32 ∷ 97 ∷ 102 ∷ 116 ∷ 101 ∷ 114 ∷ 32 ∷ 48 ∷ 32 ∷ 114 ∷ 111 ∷ 117 ∷ 110 ∷ 100 ∷ 115 ∷ 32 ∷ 50 ∷ 10
    ∷ 110 ∷ 111 ∷ 100 ∷ 101 ∷ 32 ∷ 52 ∷ 32 ∷ 109 ∷ 97 ∷ 106 ∷ 32 ∷ 50 ∷ 32 ∷ 52 ∷ 32 ∷ 54 ∷ 10
    ∷ 111 ∷ 117 ∷ 116 ∷ 32 ∷ 56 ∷ 10 ∷ []

abbrev pub P1Report : Type 0
P1Report = text_of (settled_file p1 (0 ∷ 0 ∷ 0 ∷ []) (0 ∷ []) (1 ∷ []) 8) ≡ text

-- where there is room for the report, settling refuses no file that loads
abbrev pub AlwaysSettles : (file ns os ls : List ℕ) (s room : ℕ) → Type 0
AlwaysSettles file ns os ls s room =
    report_number (held ns) (held os) s room ≡ 0 → (load_call file ns os ls).answer.number ≡ 0 → (settled_file file ns os ls s).answer.number ≡ 0

pub record Promises : Type 0 where
  pub p1_report : P1Report
  pub always_settles : (file ns os ls : List ℕ) (s room : ℕ) → AlwaysSettles file ns os ls s room
