-- The design that is simulated for a text, and the refusals of a text.
use Rattle.std.specs.Prelude.{◌≡◌, ◌≢◌, ◌⊎◌, ℕ, List, false}
use Rattle.std.specs.String.{string_bytes}
use Rattle.sim_text_tree.specs.DesignFile.{DesignFile}
use Rattle.sim_text.specs.Texts.{IsTextWithin, IsFaultWithin, IsFaultyWithin}
use Rattle.sim_flat_design.specs.Designs.{Design}
use Rattle.sim_flat_instances.specs.Libraries.{library_of}
use Rattle.sim_flat.specs.declared.error.FlatError.{FlatError}
use Rattle.sim_flat.specs.declared.error.FlatError.TheVariants as flat
use Rattle.sim_flat.specs.Elaboration as elaboration
use Rattle.sim_standard.specs.Behaviour.{Behaviour, behaviour_of}
use Rattle.sim_run_session.specs.declared.error.RunError.{RunError}
use Rattle.sim_run_session.specs.declared.error.RunError.TheVariants as refusal
use Rattle.sim_run_options.specs.declared.limits.Limits.{Limits}
use Rattle.sim_run_options.specs.declared.limits.Limits.TheVariants.{Standard}
use Rattle.sim_run_options.specs.declared.options.Options.{Options}
use Rattle.sim_run_options.specs.Limits.{bytes_of, design_of}
use Rattle.sim_run_options.specs.Options.{are_in_range_within}
use Rattle.sim_run_session.specs.Run.{MakesPostponedDelta, ReachesLimit}

-- The text is a file, and this is its design under the top, within the limits.
pub record IsDesignWithin (limits : Limits) (text : List ℕ) (options : Options) (design : Design) : Type 0 where
  pub file : DesignFile
  pub is_text : IsTextWithin (bytes_of limits) text file
  pub elaborated : elaboration.IsDesignWithin (design_of limits) (library_of file.units) (string_bytes options.top) design

-- The text has a design within the limits, and this holds for its behaviour.
pub record HasDesignWithin (limits : Limits) (text : List ℕ) (options : Options) (Holds : Behaviour → Type 0) : Type 0 where
  pub design : Design
  pub is_design : IsDesignWithin limits text options design
  pub holds : Holds (behaviour_of design)

-- The text is a file, and this is why it has no design under the top.
pub record HasNoDesign (limits : Limits) (text : List ℕ) (options : Options) (e : FlatError) : Type 0 where
  pub file : DesignFile
  pub is_text : IsTextWithin (bytes_of limits) text file
  pub refused : elaboration.IsRefusalWithin (design_of limits) (library_of file.units) (string_bytes options.top) e

-- The text is a file without a design under the top.
pub record IsUnelaborated (limits : Limits) (text : List ℕ) (options : Options) : Type 0 where
  pub fault : FlatError
  pub known : fault ≢ flat.Memory
  pub is : HasNoDesign limits text options fault

-- The text is at fault, or its design is.
abbrev pub IsRefusedText : Limits → List ℕ → Options → Type 0
IsRefusedText limits text options = IsFaultyWithin (bytes_of limits) text ⊎ IsUnelaborated limits text options

-- Why a run was refused.
abbrev pub IsRefusalWithin : Limits → List ℕ → Options → RunError → Type 0
IsRefusalWithin limits text options refusal.Options = are_in_range_within limits options.stop options.limit options.workers ≡ false
IsRefusalWithin limits text options (refusal.Text fault) = IsFaultWithin (bytes_of limits) text fault
IsRefusalWithin limits text options (refusal.Flat fault) = HasNoDesign limits text options fault
IsRefusalWithin limits text options (refusal.CycleLimit limit) =
    (limit ≡ options.limit) × HasDesignWithin limits text options (λ design. ReachesLimit design options)
IsRefusalWithin limits text options refusal.PostponedDelta = HasDesignWithin limits text options (λ design. MakesPostponedDelta design options)
IsRefusalWithin limits text options refusal.Stranger = ⊥
IsRefusalWithin limits text options refusal.Memory = HasDesignWithin limits text options (λ design. Unit {0})
IsRefusalWithin limits text options refusal.Write = ⊥

-- The refusal is of the text or of its design.
abbrev pub IsOfText : RunError → Type 0
IsOfText (refusal.Text fault) = Unit {0}
IsOfText (refusal.Flat fault) = Unit {0}
IsOfText _ = ⊥

-- ---- within the limits of a run that asks for no others

abbrev pub IsDesignOf : List ℕ → Options → Design → Type 0
IsDesignOf = IsDesignWithin Standard

abbrev pub HasDesign : List ℕ → Options → (Behaviour → Type 0) → Type 0
HasDesign = HasDesignWithin Standard

abbrev pub IsRefusal : List ℕ → Options → RunError → Type 0
IsRefusal = IsRefusalWithin Standard
