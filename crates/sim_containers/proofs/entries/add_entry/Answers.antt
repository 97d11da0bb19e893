use Rattle.std.proofs.Common.{◌∙◌, sym, heap_items}
use Rattle.std.proofs.lemmas.Option.{same_Some}
use Rattle.sim_containers.specs.Entries.{entry}
use Rattle.sim_containers.proofs.Heaps.{added_by_push, kept_by_push}
use Rattle.sim_containers.proofs.entries.add_entry.Goals as goal

pub returns-in_ok-push-in-Some-clause-kept : goal.returns-in_ok-push-in-Some-clause-kept
returns-in_ok-push-in-Some-clause-kept c =
    kept_by_push (heap_items c.args.heap.now) (heap_items c.push.new.self) (entry c.in-Some.time c.args.driver) c.in_ok-push-in-Some.ensures.permutation

pub returns-in_ok-push-in-Some-clause-added : goal.returns-in_ok-push-in-Some-clause-added
returns-in_ok-push-in-Some-clause-added c t e other beyond =
    added_by_push (heap_items c.args.heap.now) (heap_items c.push.new.self) t c.in-Some.time c.args.driver c.in_ok-push-in-Some.ensures.permutation
    (same_Some c.in-Some.time t (sym c.in-Some.is ∙ e))
