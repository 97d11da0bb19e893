use Rattle.std.proofs.Common.{◌≡◌, ℕ, List, map, length, ap, ◌∙◌}
use Rattle.sim_flat_blocks.specs.declared.parts.Object.{Object}
use Rattle.sim_flat_blocks.specs.declared.parts.Port.{Port}
use Rattle.sim_flat_graph.specs.Least.{least_of}
use Rattle.sim_flat_graph.specs.Sources.{places_of}
use Rattle.sim_flat_graph.proofs.Counted.{least_of_both}
use Rattle.sim_flat_graph.proofs.sources.least_in.Goals as goal

pub returns : goal.returns
returns c =
    let counts = c.in_ok-counts.counts.items in
    let known = c.args.known in
    let of_ports = c.least_port-of_ports.result in
    let port_count : c.least_port-of_ports.result ≡ least_of known (places_of counts 0 (map (λ (p : Port). p.object) c.args.block.now.ports)) =
    c.least_port-of_ports.ensures
    ∙ (ap (λ (cs : List ℕ). least_of known (places_of cs 0 (map (λ (p : Port). p.object) c.as_slice-ports.result.now))) c.as_slice.ensures.value
    ∙ ap (λ (ps : List Port). least_of known (places_of counts 0 (map (λ (p : Port). p.object) ps))) c.as_slice-ports.ensures) in
    let signal_count : c.least_signal-least.result ≡ least_of of_ports (places_of counts (length c.args.block.now.ports) c.args.block.now.signals) =
    c.least_signal-least.ensures
    ∙ (ap (λ (cs : List ℕ). least_of of_ports (places_of cs (length c.as_slice-ports.result.now) c.as_slice-3.result.now)) c.as_slice-2.ensures.value
    ∙ (ap (λ (ps : List Port). least_of of_ports (places_of counts (length ps) c.as_slice-3.result.now)) c.as_slice-ports.ensures
    ∙ ap (λ (os : List Object). least_of of_ports (places_of counts (length c.args.block.now.ports) os)) c.as_slice-3.ensures)) in
    record {
      counts = counts;
      counted = c.in_ok-counts.ensures.counts;
      least = least_of_both counts c.args.block.now known of_ports c.least_signal-least.result port_count signal_count;
    }
