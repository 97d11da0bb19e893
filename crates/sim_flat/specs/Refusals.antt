-- The refusals that report faults.
use Rattle.sim_flat_scope.specs.declared.fault.Kind.TheVariants as k
use Rattle.sim_flat_scope.specs.declared.fault.Kind.{Kind}
use Rattle.sim_flat_scope.specs.declared.fault.Fault.{Fault}
use Rattle.std.specs.Prelude.{ℕ}
use Rattle.sim_flat.specs.declared.error.FlatError.{FlatError}
use Rattle.sim_flat.specs.declared.error.FlatError.TheVariants as refusal

-- the refusal for a kind of fault at a place
abbrev pub refusal_at : Kind → ℕ → FlatError
refusal_at k.Duplicate at = refusal.Duplicate at
refusal_at k.Predefined at = refusal.Predefined at
refusal_at k.Unknown at = refusal.Unknown at
refusal_at k.WrongKind at = refusal.WrongKind at
refusal_at k.TypeClash at = refusal.TypeClash at
refusal_at k.Ambiguous at = refusal.Ambiguous at
refusal_at k.ReadOut at = refusal.ReadOut at
refusal_at k.WriteIn at = refusal.WriteIn at
refusal_at k.PortMissing at = refusal.PortMissing at
refusal_at k.PortTwice at = refusal.PortTwice at
refusal_at k.ModeClash at = refusal.ModeClash at
refusal_at k.ComponentDiffers at = refusal.ComponentDiffers at
refusal_at k.NoArchitecture at = refusal.NoArchitecture at
refusal_at k.Recursive at = refusal.Recursive at
refusal_at k.ManySources at = refusal.ManySources at
refusal_at k.NotAscending at = refusal.NotAscending at
refusal_at k.RejectTooLong at = refusal.RejectTooLong at
refusal_at k.TooMany at = refusal.TooMany at

-- the refusal that reports a fault
abbrev pub refusal_of : Fault → FlatError
refusal_of f = refusal_at f.kind f.at
