use Rattle.clap.specs.Faults.{fault_of}
use Rattle.clap.specs.declared.error.kind.ErrorKind.TheVariants as kinds
use Rattle.sim_run_options.specs.Asks.{program}
use Rattle.sim_run_options.proofs.Single.{same_kind, single_fault}
use Rattle.sim_run_options.proofs.laws.words_for_help_are_not_refused.Goals as goal

pub returns : goal.returns
returns c words help refused =
    refused.other (same_kind (fault_of program words) refused.kind kinds.DisplayHelp (single_fault words) refused.among help.among)
