-- The sources of a signal or port, and the value that they determine.
use Rattle.std.specs.Prelude.{ℕ, ◌+◌, ◌≤◌, ⊤, List, [], ◌∷◌, ◌++◌}
use Rattle.sim_logic.specs.declared.logic.Logic.{Logic}
use Rattle.sim_logic.specs.Resolution.{resolved}

-- the type of a signal or port: std_logic is resolved, std_ulogic is not
pub data SignalType : Type 0 where
  Std_logic : SignalType
  Std_ulogic : SignalType

-- A name (a signal or a port), with its type, its default value and its sources in order: drivers, by number, and
-- associated ports (IEEE 1076, 6.4.2.3).
mutual
  pub data SourceTree : Type 0 where
    Name : SignalType → Logic → Sources → SourceTree

  pub data Sources : Type 0 where
    No_more : Sources
    Driver : ℕ → Sources → Sources
    Port : SourceTree → Sources → Sources

-- the number of sources of a name
abbrev pub count_of : Sources → ℕ
count_of No_more = 0
count_of (Driver number more) = count_of more + 1
count_of (Port tree more) = count_of more + 1

-- whether a name of this type may have this number of sources
abbrev pub AllowsSources : SignalType → ℕ → Type 0
AllowsSources Std_logic count = ⊤
AllowsSources Std_ulogic count = count ≤ 1

-- each name of type std_ulogic has at most one source, since it has no resolution function (IEEE 1076, 6.4.2.3)
abbrev mutual
  pub IsResolvable : SourceTree → Type 0
  IsResolvable (Name type default sources) = AllowsSources type (count_of sources) × AreResolvable sources

  pub AreResolvable : Sources → Type 0
  AreResolvable No_more = ⊤
  AreResolvable (Driver number more) = AreResolvable more
  AreResolvable (Port tree more) = IsResolvable tree × AreResolvable more

-- the value of a name from the values of its sources (IEEE 1076, 14.7.3.2)
abbrev pub driving_value : SignalType → Logic → List Logic → Logic
driving_value type default [] = default
driving_value Std_logic default (value ∷ values) = resolved (value ∷ values)
driving_value Std_ulogic default (value ∷ values) = value

-- the value of a name, where driver n has the value `driving n` and each associated port is resolved by itself
abbrev mutual
  pub nested : (ℕ → Logic) → SourceTree → Logic
  nested driving (Name type default sources) = driving_value type default (values_of driving sources)

  pub values_of : (ℕ → Logic) → Sources → List Logic
  values_of driving No_more = []
  values_of driving (Driver number more) = driving number ∷ values_of driving more
  values_of driving (Port tree more) = nested driving tree ∷ values_of driving more

-- a flat source of a source tree: a driver, or the default value of a name without sources
pub data FlatSource : Type 0 where
  Driven : ℕ → FlatSource
  Constant : Logic → FlatSource

-- the flat sources of a source tree from left to right
abbrev mutual
  pub flat_sources : SourceTree → List FlatSource
  flat_sources (Name type default No_more) = Constant default ∷ []
  flat_sources (Name type default (Driver number more)) = Driven number ∷ flat_sources_of more
  flat_sources (Name type default (Port tree more)) = flat_sources tree ++ flat_sources_of more

  pub flat_sources_of : Sources → List FlatSource
  flat_sources_of No_more = []
  flat_sources_of (Driver number more) = Driven number ∷ flat_sources_of more
  flat_sources_of (Port tree more) = flat_sources tree ++ flat_sources_of more

-- the value of a flat source
abbrev pub flat_source_value : (ℕ → Logic) → FlatSource → Logic
flat_source_value driving (Driven number) = driving number
flat_source_value driving (Constant value) = value
