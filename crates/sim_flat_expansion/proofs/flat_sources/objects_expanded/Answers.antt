use Rattle.sim_flat_expansion.proofs.Later.{objects_are}
use Rattle.sim_flat_expansion.proofs.flat_sources.objects_expanded.Goals as goal

pub returns : goal.returns
returns c =
    objects_are c.args.prefix.now c.args.links.now c.args.own.now c.ports.new.own c.args.at.now c.args.outer.now c.ports.new.outer
    c.as_slice-of_ports.result.now c.as_slice-of_signals.result.now c.in_ok-nets.nets c.signals.new.nets
    c.as_slice-of_ports.ensures c.as_slice-of_signals.ensures c.in_ok-nets.ensures.value c.in_ok-nets.ensures.later c.in_ok-signals.ensures
