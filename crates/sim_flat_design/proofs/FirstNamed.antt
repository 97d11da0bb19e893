-- The first net with a name, from the properties of its position and of the earlier ones.
use Rattle.std.proofs.Common.{arith, ◌≡◌, ◌≢◌, ℕ, ◌<◌, List, [], Option, Some, None, length, take, length-take}
use Rattle.std.specs.List.{All, AllWithin, HoldsAt}
use Rattle.std.specs.Option.{MatchOption}
use Rattle.std.proofs.lemmas.List.{get_or-take}
use Rattle.std.proofs.lemmas.List.Elements.{All-from_all_within, All-from_get_or}
use Rattle.std.proofs.lemmas.Option.{slice_get-get_or}
use Rattle.sim_flat_design.specs.Designs.{Net, IsFirstNamed}

-- a net for positions past the end of a list
nameless : Net
nameless = record { name = []; sources = [] }

module _ (name : List ℕ) where
  abbrev pub Has : Net → Type 0
  Has n = n.name ≡ name

  abbrev pub Lacks : Net → Type 0
  Lacks n = n.name ≢ name

  before : (nets : List Net) (i : ℕ) → i < length nets → AllWithin Lacks nets 0 i → All Lacks (take i nets)
  before nets i within lacks =
      All-from_get_or Lacks (take i nets) nameless (λ k below.
      let small : k < i = omega (arith, below, length-take i nets) in
      rw (get_or-take i nets k nameless small) (lacks k nameless (omega arith) small))

  -- the first position found is that of the first net with the name
  pub first_named_is : (nets : List Net) (r : Option ℕ)
      → MatchOption r (AllWithin Lacks nets 0 (length nets)) (λ i. (i < length nets) × HoldsAt Has nets i × AllWithin Lacks nets 0 i)
      → MatchOption r (All Lacks nets) (λ i. IsFirstNamed name i nets)
  first_named_is nets None lacks = All-from_all_within Lacks nets lacks
  first_named_is nets (Some i) (within, has, lacks) = record {
    named = rw (slice_get-get_or nets i nameless within) (has nameless);
    first = before nets i within lacks;
  }
