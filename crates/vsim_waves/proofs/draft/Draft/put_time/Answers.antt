use Rattle.std.proofs.Common.{rules}
use Rattle.std.proofs.lemmas.Fmt.{length-decimal-le}
use Rattle.vsim_waves.proofs.draft.Draft.put_time.Goals as goal

-- a time has at most twenty digits
pub write_digits-requires : goal.write_digits-requires
write_digits-requires c = search (rules, length-decimal-le 20)
