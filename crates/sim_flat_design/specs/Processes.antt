-- The processes of a flat design (IEEE 1076-2008, 11.3).
use Rattle.std.specs.Prelude.{ℕ, ◌≡◌, ◌==◌, nat_lt, Bool, List, [], ◌∷◌, if◌then◌else◌, length, map, slice_index_or}
use Rattle.sim_flat_design.specs.Bodies.{Body, objects_of}

-- inserts a number into an ascending list, unless it is there
unfoldable pub with_number : ℕ → List ℕ → List ℕ
with_number n [] = n ∷ []
with_number n (m ∷ ms) = if n == m then m ∷ ms else (if nat_lt n m then n ∷ m ∷ ms else m ∷ with_number n ms)

-- the numbers of a list without repetitions, in ascending order
unfoldable pub rising : List ℕ → List ℕ
rising [] = []
rising (n ∷ ns) = with_number n (rising ns)

-- A process: the nets to which it is sensitive, the nets that it reads, the net of each port and signal of its architecture, the number of
-- its first driver, whether it is postponed, and its body, which all instances of the architecture share. Its drivers are consecutive.
pub record Process : Type 0 where
  pub sensitivity : List ℕ
  pub reads : List ℕ
  pub nets : List ℕ
  pub first_driver : ℕ
  pub postponed : Bool
  pub body : Body

-- the nets of ports and signals
abbrev pub nets_of : List ℕ → List ℕ → List ℕ
nets_of nets objects = map (λ (n : ℕ). slice_index_or nets n 0) objects

-- Each port and signal has a net, the sensitivity ascends, and the nets read are those that the body reads.
pub record IsProcess (p : Process) : Type 0 where
  pub placed : length p.nets ≡ p.body.objects
  pub sensitive : rising p.sensitivity ≡ p.sensitivity
  pub reads : p.reads ≡ rising (nets_of p.nets (objects_of p.body.statements))
