-- The faults of a design: as lists, in any order, and the one of them that is reported.
use Rattle.std.specs.Prelude.{ℕ, ◌==◌, ◌||◌, ◌&&◌, nat_lt, List, [], ◌∷◌, Bool, true, false, if◌then◌else◌, Option, Some, None}
use Rattle.sim_flat_scope.specs.declared.fault.Kind.{Kind}
use Rattle.sim_flat_scope.specs.declared.fault.Kind.TheVariants as k
use Rattle.sim_flat_scope.specs.declared.fault.Fault.{Fault}

-- the number of a kind: of two faults at one place, the one with the smaller number is reported
abbrev pub number_of : Kind → ℕ
number_of k.Duplicate = 0
number_of k.Predefined = 1
number_of k.Unknown = 2
number_of k.WrongKind = 3
number_of k.TypeClash = 4
number_of k.Ambiguous = 5
number_of k.ReadOut = 6
number_of k.WriteIn = 7
number_of k.PortMissing = 8
number_of k.PortTwice = 9
number_of k.ModeClash = 10
number_of k.ComponentDiffers = 11
number_of k.NoArchitecture = 12
number_of k.Recursive = 13
number_of k.ManySources = 14
number_of k.NotAscending = 15
number_of k.RejectTooLong = 16
number_of k.TooMany = 17

-- whether a fault is reported rather than another: by place, then by number
abbrev pub is_before : Fault → Fault → Bool
is_before a b = nat_lt a.at b.at || ((a.at == b.at) && nat_lt (number_of a.kind) (number_of b.kind))

-- which of two faults is reported
abbrev pub sooner : Option Fault → Fault → Option Fault
sooner None a = Some a
sooner (Some b) a = if is_before a b then Some a else Some b

-- which of a known fault and several others is reported
unfoldable pub earliest : Option Fault → List Fault → Option Fault
earliest known [] = known
earliest known (f ∷ fs) = earliest (sooner known f) fs

-- one fault
abbrev pub fault : Kind → ℕ → List Fault
fault kind at = record { kind = kind; at = at } ∷ []

-- faults, if the condition holds
abbrev pub where_ : Bool → List Fault → List Fault
where_ true faults = faults
where_ false faults = []
