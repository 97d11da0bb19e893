-- The flat sources of a source tree, resolved as one list, give the value that the nested names give.
use Rattle.std.proofs.Common.{ℕ, ◌≡◌, ◌<◌, ◌≤◌, List, [], ◌∷◌, ◌++◌, length, map, refl, ap, sym, ◌∙◌, subst, arith, length-append}
use Rattle.std.specs.List.{fold}
use Rattle.std.proofs.lemmas.List.{map-append}
use Rattle.std.proofs.lemmas.List.Sums.{fold-append}
use Rattle.sim_logic.specs.declared.logic.Logic.{Logic}
use Rattle.sim_logic.specs.declared.logic.Logic.TheVariants.{Z}
use Rattle.sim_logic.specs.Tables.{resolution_table}
use Rattle.sim_logic.specs.Resolution.{resolved}
use Rattle.sim_logic.specs.Sources.{SignalType, Std_logic, Std_ulogic, SourceTree, Name, Sources, No_more, Driver, Port, count_of, AllowsSources}
use Rattle.sim_logic.specs.Sources.{IsResolvable, AreResolvable, driving_value, nested, values_of, FlatSource, flat_sources, flat_sources_of, flat_source_value}
use Rattle.sim_logic.proofs.TableLaws.{resolution_table-assoc, resolution_table-passes_z}

-- a value taken out of a fold
fold-resolution_table : (a b : Logic) (xs : List Logic) → fold resolution_table (resolution_table a b) xs ≡ resolution_table a (fold resolution_table b xs)
fold-resolution_table a b [] = refl
fold-resolution_table a b (x ∷ xs) =
    ap (λ (v : Logic). fold resolution_table v xs) (resolution_table-assoc a b x) ∙ fold-resolution_table a (resolution_table b x) xs

-- a fold over a non-empty list resolves its start with the resolution of the list
fold-resolved : (a : Logic) (xs : List Logic) → 0 < length xs → fold resolution_table a xs ≡ resolution_table a (resolved xs)
fold-resolved a [] some = absurd (omega arith)
fold-resolved a (x ∷ []) some = refl
fold-resolved a (x ∷ (y ∷ ys)) some =
    ap (λ (v : Logic). fold resolution_table v (y ∷ ys)) (sym (resolution_table-passes_z a x))
    ∙ fold-resolution_table a (resolution_table Z x) (y ∷ ys)

-- two or more values are folded
pub resolved-many : (xs : List Logic) → 1 < length xs → resolved xs ≡ fold resolution_table Z xs
resolved-many [] many = absurd (omega arith)
resolved-many (x ∷ []) many = absurd (omega arith)
resolved-many (x ∷ (y ∷ ys)) many = refl

driving_value-many : (type : SignalType) (default : Logic) (xs : List Logic) → AllowsSources type (length xs) → 1 < length xs
    → driving_value type default xs ≡ fold resolution_table Z xs
driving_value-many type default [] allowed many = absurd (omega arith)
driving_value-many Std_logic default (x ∷ xs) allowed many = resolved-many (x ∷ xs) many
driving_value-many Std_ulogic default (x ∷ xs) allowed many = absurd (omega (arith, allowed))

driving_value-one : (type : SignalType) (default value : Logic) → driving_value type default (value ∷ []) ≡ value
driving_value-one Std_logic default value = refl
driving_value-one Std_ulogic default value = refl

length-values_of : (driving : ℕ → Logic) (sources : Sources) → length (values_of driving sources) ≡ count_of sources
length-values_of driving No_more = refl
length-values_of driving (Driver number more) = let ih = length-values_of driving more in omega arith
length-values_of driving (Port tree more) = let ih = length-values_of driving more in omega arith

length-map : (f : FlatSource → Logic) (xs : List FlatSource) → length (map f xs) ≡ length xs
length-map f [] = refl
length-map f (x ∷ xs) = let ih = length-map f xs in omega arith

-- each source has at least one flat source
mutual
  pub some_flat_sources : (tree : SourceTree) → 0 < length (flat_sources tree)
  some_flat_sources (Name type default No_more) = omega arith
  some_flat_sources (Name type default (Driver number more)) = omega arith
  some_flat_sources (Name type default (Port tree more)) =
      let front = some_flat_sources tree in omega (arith, length-append (flat_sources tree) (flat_sources_of more))

  enough_flat_sources : (sources : Sources) → count_of sources ≤ length (flat_sources_of sources)
  enough_flat_sources No_more = omega arith
  enough_flat_sources (Driver number more) = let ih = enough_flat_sources more in omega arith
  enough_flat_sources (Port tree more) =
      let front = some_flat_sources tree in
      let ih = enough_flat_sources more in
      omega (arith, length-append (flat_sources tree) (flat_sources_of more))

append-none : (xs : List FlatSource) → xs ++ [] ≡ xs
append-none [] = refl
append-none (x ∷ xs) = ap (λ (ys : List FlatSource). x ∷ ys) (append-none xs)

-- folding the flat sources of two or more sources gives the same as folding their values
resolved-flat_sources_of : (driving : ℕ → Logic) (type : SignalType) (default : Logic) (sources : Sources)
    → AllowsSources type (count_of sources) → 1 < count_of sources
    → fold resolution_table Z (map (flat_source_value driving) (flat_sources_of sources)) ≡ fold resolution_table Z (values_of driving sources)
    → resolved (map (flat_source_value driving) (flat_sources_of sources)) ≡ driving_value type default (values_of driving sources)
resolved-flat_sources_of driving type default sources allowed many same =
    let enough = enough_flat_sources sources in
    let flat : 1 < length (map (flat_source_value driving) (flat_sources_of sources)) =
    omega (arith, length-map (flat_source_value driving) (flat_sources_of sources)) in
    let count = length-values_of driving sources in
    let allowed' : AllowsSources type (length (values_of driving sources)) =
    subst (λ (n : ℕ). AllowsSources type n) (sym count) allowed in
    resolved-many (map (flat_source_value driving) (flat_sources_of sources)) flat
    ∙ (same ∙ sym (driving_value-many type default (values_of driving sources) allowed' (omega arith)))

-- one port among the sources
fold-port : (driving : ℕ → Logic) (a v : Logic) (front back : List FlatSource) (values : List Logic)
    → 0 < length front → resolved (map (flat_source_value driving) front) ≡ v
    → fold resolution_table (resolution_table a v) (map (flat_source_value driving) back) ≡ fold resolution_table (resolution_table a v) values
    → fold resolution_table a (map (flat_source_value driving) (front ++ back)) ≡ fold resolution_table (resolution_table a v) values
fold-port driving a v front back values some is_v rest =
    let some' : 0 < length (map (flat_source_value driving) front) = omega (arith, length-map (flat_source_value driving) front) in
    ap (λ (xs : List Logic). fold resolution_table a xs) (map-append (flat_source_value driving) front back)
    ∙ (fold-append resolution_table a (map (flat_source_value driving) front) (map (flat_source_value driving) back)
    ∙ (ap (λ (w : Logic). fold resolution_table w (map (flat_source_value driving) back))
    (fold-resolved a (map (flat_source_value driving) front) some' ∙ ap (resolution_table a) is_v)
    ∙ rest))

mutual
  pub resolved-flat_sources : (driving : ℕ → Logic) (tree : SourceTree) → IsResolvable tree
      → resolved (map (flat_source_value driving) (flat_sources tree)) ≡ nested driving tree
  resolved-flat_sources driving (Name type default No_more) resolvable = refl
  resolved-flat_sources driving (Name type default (Driver number No_more)) resolvable =
      sym (driving_value-one type default (driving number))
  resolved-flat_sources driving (Name type default (Port tree No_more)) resolvable =
      ap (λ (xs : List FlatSource). resolved (map (flat_source_value driving) xs)) (append-none (flat_sources tree))
      ∙ (resolved-flat_sources driving tree resolvable.1.0 ∙ sym (driving_value-one type default (nested driving tree)))
  resolved-flat_sources driving (Name type default (Driver number (Driver next more))) resolvable =
      resolved-flat_sources_of driving type default (Driver number (Driver next more)) resolvable.0 (omega arith)
      (fold-flat_sources driving Z (Driver number (Driver next more)) resolvable.1)
  resolved-flat_sources driving (Name type default (Driver number (Port tree more))) resolvable =
      resolved-flat_sources_of driving type default (Driver number (Port tree more)) resolvable.0 (omega arith)
      (fold-flat_sources driving Z (Driver number (Port tree more)) resolvable.1)
  resolved-flat_sources driving (Name type default (Port tree (Driver next more))) resolvable =
      resolved-flat_sources_of driving type default (Port tree (Driver next more)) resolvable.0 (omega arith)
      (fold-flat_sources driving Z (Port tree (Driver next more)) resolvable.1)
  resolved-flat_sources driving (Name type default (Port tree (Port next more))) resolvable =
      resolved-flat_sources_of driving type default (Port tree (Port next more)) resolvable.0 (omega arith)
      (fold-flat_sources driving Z (Port tree (Port next more)) resolvable.1)

  fold-flat_sources : (driving : ℕ → Logic) (a : Logic) (sources : Sources) → AreResolvable sources
      → fold resolution_table a (map (flat_source_value driving) (flat_sources_of sources)) ≡ fold resolution_table a (values_of driving sources)
  fold-flat_sources driving a No_more resolvable = refl
  fold-flat_sources driving a (Driver number more) resolvable = fold-flat_sources driving (resolution_table a (driving number)) more resolvable
  fold-flat_sources driving a (Port tree more) resolvable =
      fold-port driving a (nested driving tree) (flat_sources tree) (flat_sources_of more) (values_of driving more) (some_flat_sources tree)
      (resolved-flat_sources driving tree resolvable.0)
      (fold-flat_sources driving (resolution_table a (nested driving tree)) more resolvable.1)
