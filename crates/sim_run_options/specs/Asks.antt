-- What the words of the command line ask for, by `clap`'s model of its parser.
use Rattle.std.specs.Prelude.{◌≡◌, ◌≢◌, ℕ, Bool, List, [], ◌∷◌, Option, Some, codes, if◌then◌else◌, option_map, unwrap_or, true, false}
use Rattle.std.specs.Option.{option_map_or}
use Rattle.std.specs.Str.{bytes_eq}
use Rattle.std.specs.String.{string_bytes}
use Rattle.std.specs.Str.Parse.{digits_value, without_leading_plus}
use Rattle.clap.specs.Walk.{Row, Rule, Text, first_of, one_of}
use Rattle.clap.specs.Simple.{App, matches_of, new_app, new_rule, on_top, with_rule}
use Rattle.clap.specs.Faults.{fault_of}
use Rattle.clap.specs.Kinds.{IsAmong}
use Rattle.clap.specs.declared.builder.action.ArgAction.TheVariants.{Set, SetTrue}
use Rattle.clap.specs.declared.builder.value_parser.ValueParser.TheVariants as parser
use Rattle.clap.specs.declared.error.kind.ErrorKind.{ErrorKind}
use Rattle.clap.specs.declared.error.kind.ErrorKind.TheVariants as kinds
use Rattle.sim_run_options.specs.Limits.{usual_cycles_of}
use Rattle.sim_run_options.specs.declared.limits.Limits.{Limits}
use Rattle.sim_run_options.specs.declared.limits.Limits.TheVariants.{Standard, Large}
use Rattle.sim_run_options.specs.declared.options.Options.{Options}
use Rattle.sim_run_options.specs.declared.reading.Request.{Request}
use Rattle.sim_run_options.specs.declared.fault.CliFault.{CliFault}
use Rattle.sim_run_options.specs.declared.fault.CliFault.TheVariants as fault
use Rattle.std.specs.Prelude.{pos}

-- ---- the command line

-- an option with one value: its long name is its id
abbrev pub valued : Text → Rule
valued id = record (new_rule id) { long = Some id; action = Some Set; value_names = 1 }

-- `--top NAME`, which is required
abbrev pub top_rule : Rule
top_rule = record (valued (codes "top")) { required = true }

-- `--stop FS`, a number below 2^64
abbrev pub stop_rule : Rule
stop_rule = record (valued (codes "stop")) {
  parser = Some (parser.Unsigned 0 18446744073709551615);
  defaults = codes "4611686018427387903" ∷ [];
}

-- `--limit N`, a number below 2^32
abbrev pub limit_rule : Rule
limit_rule = record (valued (codes "limit")) { parser = Some (parser.Signed (pos 0) (pos 4294967295)) }

-- `--workers N`, a number below 2^64
abbrev pub workers_rule : Rule
workers_rule = record (valued (codes "workers")) { parser = Some (parser.Unsigned 0 18446744073709551615); defaults = codes "1" ∷ [] }

-- `--large`, a flag: an option without a value
abbrev pub large_rule : Rule
large_rule = record (new_rule (codes "large")) { long = Some (codes "large"); action = Some SetTrue }

-- `--stream`, a flag
abbrev pub stream_rule : Rule
stream_rule = record (new_rule (codes "stream")) { long = Some (codes "stream"); action = Some SetTrue }

-- the six options; `clap` adds `--help` and `-h`, and the words do not include the program's name
abbrev pub program : App
program =
    with_rule (with_rule (with_rule (with_rule (with_rule (with_rule (on_top (λ s. record s { no_binary_name = true }) (new_app (codes "vsim")))
    top_rule) stop_rule) limit_rule) workers_rule) large_rule) stream_rule

-- ---- words

-- the number that the words give to an option, or its default, in decimal
abbrev pub number_of : Text → List Text → Option ℕ
number_of id words = option_map (λ t. digits_value 10 (without_leading_plus t)) (one_of id (matches_of program words))

-- whether a flag is set, by the text that a parse gives it
abbrev pub is_set : Option Text → Bool
is_set flag = option_map_or (λ t. bytes_eq t (codes "true")) flag false

-- the limits by the text that a parse gives the flag
abbrev pub limits_by : Option Text → Limits
limits_by flag = if is_set flag then Large else Standard

-- the limits of what a parse found
abbrev pub limits_in : List Row → Limits
limits_in rows = limits_by (first_of (codes "large") rows)

-- the limits that the words ask for
abbrev pub limits_of : List Text → Limits
limits_of words = limits_in (matches_of program words)

-- whether what a parse found asks for lines to be written while the run goes on
abbrev pub streams_in : List Row → Bool
streams_in rows = is_set (first_of (codes "stream") rows)

-- whether the words ask for lines to be written while the run goes on
abbrev pub streams : List Text → Bool
streams words = streams_in (matches_of program words)

-- The words ask for a run with these options.
pub record Asks (words : List Text) (options : Options) : Type 0 where
  pub taken : fault_of program words ≡ []
  pub top : first_of (codes "top") (matches_of program words) ≡ Some (string_bytes options.top)
  pub stop : number_of (codes "stop") words ≡ Some options.stop
  pub limit : unwrap_or (number_of (codes "limit") words) (usual_cycles_of (limits_of words)) ≡ options.limit
  pub workers : number_of (codes "workers") words ≡ Some options.workers

-- The words ask for this run.
pub record AsksFor (words : List Text) (request : Request) : Type 0 where
  pub options : Asks words request.options
  pub limits : request.limits ≡ limits_of words
  pub streams : request.streams ≡ streams words

-- The options are this top and the defaults.
pub record IsDefault (name : Text) (options : Options) : Type 0 where
  pub top : string_bytes options.top ≡ name
  pub stop : options.stop ≡ 4611686018427387903
  pub limit : options.limit ≡ 10000
  pub workers : options.workers ≡ 1

-- So they are, so are the limits, and lines are not written while the run goes on.
pub record IsUsual (name : Text) (request : Request) : Type 0 where
  pub options : IsDefault name request.options
  pub limits : request.limits ≡ Standard
  pub streams : request.streams ≡ false

-- the fault that the program makes of a kind of error
abbrev pub Tells : ErrorKind → CliFault → Type 0
Tells k (fault.Help text) = k ≡ kinds.DisplayHelp
Tells k (fault.Refused text) = (k ≢ kinds.DisplayHelp) × (k ≢ kinds.OutOfMemory)
Tells k fault.Memory = Unit {0}

-- Parsing the words ends with the help.
pub record AsksForHelp (words : List Text) : Type 0 where
  pub among : IsAmong kinds.DisplayHelp (fault_of program words)

-- Parsing the words ends with an error of this kind.
pub record AreRefused (words : List Text) : Type 0 where
  pub kind : ErrorKind
  pub among : IsAmong kind (fault_of program words)
  pub other : kind ≢ kinds.DisplayHelp

-- why words give no options
abbrev pub Explains : List Text → CliFault → Type 0
Explains words (fault.Help text) = AsksForHelp words
Explains words (fault.Refused text) = AreRefused words
Explains words fault.Memory = Unit {0}
