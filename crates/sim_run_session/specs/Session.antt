-- What the program promises about its words, its input and its output.
use Rattle.std.specs.Prelude.{◌≡◌, ℕ, ◌+◌, List, length, Bool, Option, Some, None, true, ◌⊎◌}
use Rattle.std.specs.String.{string_bytes}
use Rattle.std.specs.Io.KnownBytes.{Appends, Keeps, Consumes, IsAtEnd}
use Rattle.sim_text_tokens.specs.declared.error.TextError.TheVariants as fault
use Rattle.sim_flat.specs.declared.error.FlatError.TheVariants as flat
use Rattle.sim_run_options.specs.declared.fault.CliFault.{CliFault}
use Rattle.sim_run_options.specs.declared.fault.CliFault.TheVariants as cli
use Rattle.sim_run_options.specs.declared.options.Options.{Options}
use Rattle.sim_run_options.specs.declared.limits.Limits.{Limits}
use Rattle.sim_run_options.specs.Asks.{Asks, AsksForHelp, limits_of}
use Rattle.sim_run_options.specs.Options.{are_in_range_within}
use Rattle.sim_run_session.specs.declared.error.RunError.TheVariants as refusal
use Rattle.sim_run_session.specs.declared.program.Failure.{Failure}
use Rattle.sim_run_session.specs.declared.program.Failure.TheVariants as failure
use Rattle.sim_run_session.specs.Simulation.{IsRefusalWithin}
use Rattle.sim_run_session.specs.Streaming.{HasWritten}
use Rattle.sim_run_listing.specs.Writing.{AppendsPart}

-- these are the bytes that a reader had, if those are known
abbrev pub IsWhole : Option (List ℕ) → List ℕ → Type 0
IsWhole None text = Unit {0}
IsWhole (Some bytes) text = bytes ≡ text

-- What was read, up to one byte more than a text may have.
pub record ReadsSource (bytes : ℕ) (old new : Option (List ℕ)) (text : List ℕ) : Type 0 where
  pub consumed : Consumes old new text
  pub enough : (length text ≡ bytes + 1) ⊎ IsAtEnd new

-- The reader had a text for which this holds.
pub record HasText (unread : Option (List ℕ)) (Holds : List ℕ → Type 0) : Type 0 where
  pub text : List ℕ
  pub whole : IsWhole unread text
  pub holds : Holds text

-- The options are in their ranges.
abbrev pub AreInRange : Limits → Options → Type 0
AreInRange limits options = are_in_range_within limits options.stop options.limit options.workers ≡ true

-- The words ask for a run of the text that the reader had, with options in their ranges within the limits that the words ask for, and this holds for the
-- text and the options.
pub record HasRun (words : List (List ℕ)) (unread : Option (List ℕ)) (Holds : List ℕ → Options → Type 0) : Type 0 where
  pub options : Options
  pub asked : Asks words options
  pub in_range : AreInRange (limits_of words) options
  pub read : HasText unread (λ text. Holds text options)

-- The words ask for a run with options for which this holds.
pub record HasOptions (words : List (List ℕ)) (Holds : Options → Type 0) : Type 0 where
  pub options : Options
  pub asked : Asks words options
  pub holds : Holds options

-- The words ask for help, and a text was written for which this holds.
pub record HasHelp (words : List (List ℕ)) (Holds : List ℕ → Type 0) : Type 0 where
  pub asked : AsksForHelp words
  pub text : List ℕ
  pub holds : Holds text

-- What the program answers and writes if the words give no options: the text of the help with status 0, or a proper prefix of it with status 4 if a write
-- failed; for other words nothing, with status 2, or with 4 if memory ran out.
abbrev pub IsAnswerTo : CliFault → ℕ → Option (List ℕ) → Option (List ℕ) → Type 0
IsAnswerTo (cli.Help text) status old new = ((status ≡ 0) × Appends old new (string_bytes text)) ⊎ ((status ≡ 4) × AppendsPart old new (string_bytes text))
IsAnswerTo (cli.Refused text) status old new = (status ≡ 2) × Keeps old new
IsAnswerTo cli.Memory status old new = (status ≡ 4) × Keeps old new

-- Why the program failed, in a run of the text that the reader had, with these options and limits.
abbrev pub IsFailure : Limits → Option (List ℕ) → Options → Failure → Type 0
IsFailure limits unread options (failure.Run refusal.Write) = AreInRange limits options
IsFailure limits unread options (failure.Run refusal.Options) = HasText unread (λ text. IsRefusalWithin limits text options refusal.Options)
IsFailure limits unread options (failure.Run e) = AreInRange limits options × HasText unread (λ text. IsRefusalWithin limits text options e)
IsFailure limits unread options failure.Read = Unit {0}
IsFailure limits unread options failure.Memory = Unit {0}

-- What was written if the program failed, in a run with lines at the end or while it goes on, of the text that the reader had.
abbrev pub HasLeft : Bool → Limits → Option (List ℕ) → Options → Option (List ℕ) → Option (List ℕ) → Failure → Type 0
HasLeft streams limits unread options old new (failure.Run e) = HasText unread (λ text. HasWritten streams limits text options old new e)
HasLeft streams limits unread options old new failure.Read = Keeps old new
HasLeft streams limits unread options old new failure.Memory = Keeps old new

-- the status of the program (0 is success)
abbrev pub status_of : Failure → ℕ
status_of failure.Read = 4
status_of failure.Memory = 4
status_of (failure.Run refusal.Options) = 2
status_of (failure.Run (refusal.Text fault.Memory)) = 4
status_of (failure.Run (refusal.Text _)) = 1
status_of (failure.Run (refusal.Flat flat.Memory)) = 4
status_of (failure.Run (refusal.Flat _)) = 1
status_of (failure.Run (refusal.CycleLimit limit)) = 3
status_of (failure.Run refusal.PostponedDelta) = 3
status_of (failure.Run refusal.Stranger) = 3
status_of (failure.Run refusal.Write) = 4
status_of (failure.Run refusal.Memory) = 4
