use Rattle.std.proofs.Common.{◌≡◌, List, Option, Some, Bor, rules, slice_get}
use Rattle.std.specs.List.{AllZip}
use Rattle.sim_flat_design.specs.Processes.{Process}
use Rattle.sim_exec_code.specs.Codes.{Program, IsCodeAt, IsCodeOf, code_at}
use Rattle.sim_exec_code.proofs.Slots.{weaker}
use Rattle.sim_exec_code.proofs.SharedCodes.{code_of_first}
use Rattle.sim_exec_code.proofs.sharing.first_of.Goals as goal

pub returns-in-Some : goal.returns-in-Some
returns-in-Some c =
    let ps = c.args.processes.now in
    let ns = c.args.firsts.now in
    let first : slice_get ns c.args.code ≡ Some c.in-Some.first = search rules in
    weaker (λ (p : Bor Process). slice_get ps c.in-Some.first ≡ Some p.now)
    (λ (p : Bor Process). (codes : List (Option Program)) → AllZip (IsCodeAt ps) ns codes → IsCodeOf p.now.body (code_at codes c.args.code))
    c.with_number.result c.with_number.ensures
    (λ p other codes made. code_of_first ps ns codes c.args.code c.in-Some.first p.now first other made)
