-- The values of nets in flat lists, and how drivers reach them (IEEE 1076-2008, 14.7.3).
-- `simulate` does not rest on this file; what a store shows under a lock does.
use Rattle.std.specs.Prelude.{ℕ, ◌≡◌, ◌<◌, ◌==◌, ◌||◌, not, List, [], ◌∷◌, Bool, false, map, length, slice_index_or}
use Rattle.sim_logic.specs.declared.logic.Logic.{Logic}
use Rattle.sim_logic.specs.declared.logic.Logic.TheVariants.{U}
use Rattle.sim_logic.specs.Logic.{is_same}
use Rattle.sim_logic.specs.Resolution.{resolved}
use Rattle.sim_flat_design.specs.declared.design.Source.{Source}
use Rattle.sim_flat_design.specs.declared.design.Source.TheVariants as source
use Rattle.sim_flat_design.specs.Designs.{Net}
use Rattle.sim_containers.specs.Numbers.{is_in}
use Rattle.sim_standard.specs.declared.net_view.NetView.{NetView}
use Rattle.sim_standard.specs.Drivers.{DriverState}
use Rattle.sim_standard.specs.Nets.{source_value}
use Rattle.sim_standard.specs.Orders.{is_among}
use Rattle.sim_store_nets.specs.Tallies.{TallyLists, is_placed, many, source_at}

-- the sources of each net
abbrev pub sources_of : List Net → List (List Source)
sources_of nets = map (λ (n : Net). n.sources) nets

-- a net with this value, and this value before the cycle: there is an event if they differ (14.7.3.4)
abbrev pub changed_to : Logic → Logic → NetView
changed_to value before = record { value = value; event = not (is_same before value); before = before }

-- each net, by its value and the one before the cycle
abbrev pub views_of : List Logic → List Logic → List NetView
views_of [] values_before = []
views_of (value ∷ values) [] = []
views_of (value ∷ values) (before ∷ values_before) = changed_to value before ∷ views_of values values_before

-- ---- the nets of the drivers

-- whether a source is the driver with a number
abbrev pub is_driver : Source → ℕ → Bool
is_driver (source.Driver number) d = number == d
is_driver (source.Constant value) d = false

-- whether the driver with a number is among these sources
abbrev pub is_source : List Source → ℕ → Bool
is_source [] d = false
is_source (s ∷ sources) d = is_driver s d || is_source sources d

-- The nets of each driver, by its number, are those of which it is a source.
abbrev pub AreFanOut : List (List Source) → List (List ℕ) → Type 0
AreFanOut sources fan_out =
    (net driver : ℕ) → driver < length fan_out → is_among (slice_index_or fan_out driver []) net ≡ is_source (slice_index_or sources net []) driver

-- ---- the values of the nets

-- the value of a net with these sources (14.7.3.2, 14.7.3.3)
abbrev pub row_value : List DriverState → List Source → Logic
row_value drivers row = resolved (map (source_value drivers) row)

-- the value at a place
abbrev pub value_at : List Logic → ℕ → Logic
value_at values n = slice_index_or values n U

-- the value of a source, given the values of the drivers
abbrev pub value_from : List Logic → Source → Logic
value_from driving (source.Driver number) = value_at driving number
value_from driving (source.Constant value) = value

-- the value of a net with these sources, given the values of the drivers
abbrev pub row_from : List Logic → List Source → Logic
row_from driving row = resolved (map (value_from driving) row)

-- the values of these sources, if they are many
abbrev pub tally_of : List Logic → List Source → List Logic
tally_of driving row = map (value_from driving) (many row)

-- The values kept of a net are those of its sources, and the places of each driver are where it is their source.
pub record AreTallied (sources : List (List Source)) (driving : List Logic) (t : TallyLists) : Type 0 where
  pub kept : (n : ℕ) → 0 < length (slice_index_or t.rows n []) → slice_index_or t.rows n [] ≡ map (value_from driving) (slice_index_or sources n [])
  pub placed : (n p d : ℕ) → d < length driving → p < length (slice_index_or t.rows n [])
      → is_placed (slice_index_or t.places d []) n p ≡ is_driver (source_at (slice_index_or sources n []) p) d

-- A net that is not touched has the value it had before: it has no event.
pub record AreTouched (values values_before : List Logic) (touched : List Bool) : Type 0 where
  pub sized : length touched ≡ length values
  pub still : (n : ℕ) → is_in touched n ≡ false → value_at values n ≡ value_at values_before n
