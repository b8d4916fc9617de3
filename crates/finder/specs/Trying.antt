-- The triples of a rising list tried at node v, in order. What the inner functions ask of each other, and no promise to a caller.
use Rattle.std.specs.Prelude.{◌≡◌, true, false, Option, None, Some, List, ℕ, ◌+◌, ◌*◌, ◌≤◌, ◌<◌, length, take}
use Rattle.graph.specs.Admission.{Admitted}
use Rattle.graph.specs.Graph.{Graph, node}
use Rattle.finder.specs.declared.trying.Trial.{Trial}
use Rattle.hidden.specs.Truth.{Triple, triple, truth}
use Rattle.hidden.specs.Majority.{is_majority, made}
use Rattle.hidden.specs.Find.{first_made}
use Rattle.hidden.specs.Inner.{Between, Rising}
use Rattle.majority_call.specs.Valuing.{Facts, Framed}
use Rattle.finder.specs.Signs.{Signed, sign_of}

-- what a trial needs: m indices that rise to below node v, and true facts and signatures in scratch
pub record Ready (g : Graph) (v m : ℕ) (list sc : List ℕ) : Type 0 where
  pub admitted : Admitted g
  pub room : 8 * g.N ≤ length sc
  pub within : v < g.N
  pub facts : Facts g sc
  pub signed : Signed g (v + 1) sc
  pub few : m ≤ 1000
  pub listed : m ≤ length list
  pub rising : Between 0 (node g v) (take m list)

-- w, x and y are the signatures of node v and of two indices
pub record SignsRead (g : Graph) (v one two w x y : ℕ) (sc : List ℕ) : Type 0 where
  pub signed : Signed g (v + 1) sc
  pub here : w ≡ sign_of g.I sc (node g v)
  pub first : x ≡ sign_of g.I sc one
  pub second : y ≡ sign_of g.I sc two

-- the truth value that was found, and 256 where none was
abbrev pub byte_found : Option ℕ → ℕ
byte_found None = 256
byte_found (Some b) = b

-- the same of a trial, and its triple
abbrev pub trial_byte : Option Trial → ℕ
trial_byte None = 256
trial_byte (Some t) = t.byte

abbrev pub trial_three : Option Trial → Triple
trial_three None = triple 0 0 0
trial_three (Some t) = triple t.one t.two t.three

-- one triple tried at node v: its truth value, where that is of majority's class, else 256
pub record Tried (g : Graph) (t : Triple) (v f : ℕ) (sc sc' : List ℕ) : Type 0 where
  pub value : f < 256 → f ≡ truth g t (node g v)
  pub majority : f < 256 → is_majority f ≡ true
  pub none : 256 ≤ f → is_majority (truth g t (node g v)) ≡ false
  pub framed : Framed v sc sc'
  pub facts : Facts g sc'

-- the triple t gives a majority at node v, of the truth value f
pub record Gives (g : Graph) (v f : ℕ) (t : Triple) : Type 0 where
  pub value : f ≡ truth g t (node g v)
  pub majority : is_majority f ≡ true
  pub rising : Rising t (node g v)

-- several tried: t is the first of them that gives one, or where f is 256 only others are left
pub record Sought (g : Graph) (v : ℕ) (ts rest : List Triple) (f : ℕ) (t : Triple) (sc sc' : List ℕ) : Type 0 where
  pub gives : f < 256 → Gives g v f t
  pub found : f < 256 → first_made g (node g v) ts ≡ made g t (node g v)
  pub left : 256 ≤ f → first_made g (node g v) rest ≡ first_made g (node g v) ts
  pub framed : Framed v sc sc'
  pub facts : Facts g sc'
