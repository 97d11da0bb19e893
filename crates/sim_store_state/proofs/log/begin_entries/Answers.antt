use Rattle.std.proofs.Common.{◌≡◌, ◌<◌, length, get_or, rules}
use Rattle.sim_store_state.specs.declared.log.Entry.TheVariants as entry
use Rattle.sim_store_state.proofs.Logged.{recorded-first}
use Rattle.sim_store_state.proofs.log.begin_entries.Goals as goal

pub returns-in-Some-Change : goal.returns-in-Some-Change
returns-in-Some-Change c before changes e at =
    let there : c.args.start < length c.args.entries.now.items = search rules in
    let is : get_or c.args.entries.now.items c.args.start (entry.Change c.in-Some-Change.value c.in-Some-Change.net)
    ≡ entry.Change c.in-Some-Change.value c.in-Some-Change.net = search rules in
    recorded-first c.args.is_time before changes c.args.entries.now.items c.args.start c.in-Some-Change.net c.in-Some-Change.value c.first.result
    e at there is c.first.ensures
