-- Which nodes live, and the graph with the others dropped.
use Rattle.std.specs.Prelude.{◌||◌, ◌&&◌, ◌∷◌, ◌++◌, ◌+◌, ◌-◌, ◌*◌, ◌/◌, ◌%◌}
use Rattle.graph.specs.All.{Bool, false, cond, List, [], ℕ, zero, suc, eqb, length, get_or, tab, if_less, Graph, graph_of, node, word, output, index, complement, is_edge, named, output_named}
use Rattle.hidden.specs.Find.{is_locked}

-- one of the first n numbers passes the test
unfoldable pub some : ℕ → (ℕ → Bool) → Bool
some zero t = false
some (suc n) t = t n || some n t

-- node v lives: it is locked, or an output reads it, or a node that lives (by l)
unfoldable pub lives_by : Graph → List ℕ → (ℕ → Bool) → ℕ → Bool
lives_by g ls l v = is_locked ls v || some g.O (output_named g (node g v)) || some (3 * g.N) (λ j. named g (node g v) j && l (j / 3))

-- whether each of the last k nodes lives (1), by falling index
unfoldable pub lives : Graph → List ℕ → ℕ → List ℕ
lives g ls zero = []
lives g ls (suc k) = let l = lives g ls k in l ++ (cond (lives_by g ls (λ v. eqb (get_or l (g.N - suc v) 0) 1) (g.N - suc k)) 1 0 ∷ [])

unfoldable pub live : Graph → List ℕ → ℕ → Bool
live g ls v = eqb (get_or (lives g ls g.N) (g.N - suc v) 0) 1

-- those of the first n nodes that live, by rising index
unfoldable pub kept : (ℕ → Bool) → ℕ → List ℕ
kept l zero = []
kept l (suc n) = let ks = kept l n in cond (l n) (ks ++ (n ∷ [])) ks

-- the new index of the index i: nodes that live are renumbered in order
unfoldable pub renumbered : Graph → (ℕ → Bool) → ℕ → ℕ
renumbered g l i = if_less g.I i (g.I + 1 + length (kept l (i - (g.I + 1)))) i

unfoldable pub new_literal : Graph → (ℕ → Bool) → ℕ → ℕ
new_literal g l x = 2 * renumbered g l (index x) + complement x

-- the word at place j: an edge is renumbered, the mark stays
unfoldable pub new_word : Graph → (ℕ → Bool) → ℕ → ℕ
new_word g l j = cond (is_edge g j) (new_literal g l (word g j)) (word g j)

-- the new node v, and so its words and its lock, stood at place v of the list of those kept
unfoldable pub new_nodes : Graph → (ℕ → Bool) → List ℕ
new_nodes g l =
    let ks = kept l g.N in
    tab (length g.nodes) (λ j. if_less j (3 * length ks) (new_word g l (3 * get_or ks (j / 3) 0 + j % 3)) (if_less j (3 * g.N) 0 (word g j)))

unfoldable pub new_outputs : Graph → (ℕ → Bool) → List ℕ
new_outputs g l = tab (length g.outputs) (λ j. if_less j g.O (new_literal g l (output g j)) (output g j))

unfoldable pub new_locks : Graph → List ℕ → (ℕ → Bool) → List ℕ
new_locks g ls l =
    let ks = kept l g.N in
    tab (length ls) (λ j. if_less j (length ks) (get_or ls (get_or ks j 0) 0) (if_less j g.N 0 (get_or ls j 0)))

-- g with only the nodes that live by l
unfoldable pub keeping : Graph → (ℕ → Bool) → Graph
keeping g l = graph_of g.I (length (kept l g.N)) g.O (new_nodes g l) (new_outputs g l)

unfoldable pub dropped : Graph → List ℕ → Graph
dropped g ls = keeping g (live g ls)

unfoldable pub dropped_locks : Graph → List ℕ → List ℕ
dropped_locks g ls = new_locks g ls (live g ls)
