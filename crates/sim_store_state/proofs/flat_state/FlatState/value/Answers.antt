use Rattle.std.proofs.Common.{◌<◌, List, length, get_or, ap, ◌∙◌, arith}
use Rattle.sim_logic.specs.declared.logic.Logic.{Logic}
use Rattle.sim_logic.specs.declared.logic.Logic.TheVariants.{U}
use Rattle.sim_standard.specs.declared.net_view.NetView.{NetView}
use Rattle.sim_standard.specs.State.{net_at}
use Rattle.sim_store_nets.proofs.Views.{view_here}
use Rattle.sim_store_state.specs.FlatState.{FlatState}
use Rattle.sim_store_state.proofs.Contents.{net-count}
use Rattle.sim_store_state.proofs.flat_state.FlatState.value.Goals as goal

pub returns-then-net-len : goal.returns-then-net-len
returns-then-net-len c =
    let s = c.self.inside in
    let here : c.args.net < length s.values.present = omega (arith, c.len.ensures, c.if-net-len.true) in
    let before : c.args.net < length s.values.before = omega (arith, here, c.self.invariant.nets) in (
      omega (arith, here, net-count c.self.view_is c.self.invariant),
      ap (λ (vs : List Logic). get_or vs c.args.net U) c.seen.ensures.values
          ∙ (ap (λ (v : NetView). v.value) (view_here s.values.present s.values.before c.args.net U U here before)
          ∙ ap (λ (g : FlatState). (net_at g.nets c.args.net).value) c.self.view_is),
    )

pub returns-else-net-len : goal.returns-else-net-len
returns-else-net-len c = omega (arith, c.len.ensures, c.if-net-len.false, net-count c.self.view_is c.self.invariant)
