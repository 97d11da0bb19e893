use Rattle.std.proofs.Common.{ap, length, arith}
use Rattle.sim_containers.proofs.Flat.{count, start-read, viewed_again, rows-flat}
use Rattle.sim_containers.proofs.Placed.{before-whole}
use Rattle.sim_containers.proofs.Split.{split-front, split-back}
use Rattle.sim_containers.specs.RowArray.{joined}
use Rattle.sim_containers.proofs.row_array.RowArray.split_off.Goals as goal

pub start_at-start-requires : goal.start_at-start-requires
start_at-start-requires g c = omega (arith, count c.self.invariant, ap length c.self.view_is, c.requires, ap length c.as_slice.ensures.value)

pub starts_after-requires : goal.starts_after-requires
starts_after-requires g c = omega (arith, count c.self.invariant, ap length c.self.view_is, c.requires, ap length c.as_slice-2.ensures.value)

pub split_off-requires : goal.split_off-requires
split_off-requires g c =
    omega (
      arith,
      start-read c.self.invariant c.self.view_is c.args.place c.start_at-start.result c.as_slice.result.now c.requires c.as_slice.ensures.value
          c.start_at-start.ensures,
      before-whole c.args.self.now c.args.place,
      ap length c.self.invariant.holding,
      ap (λ w. length (joined w)) c.self.view_is,
      c.self.inside.flat.ok.0,
    )

pub overflow_add-place : goal.overflow_add-place
overflow_add-place g c =
    omega (arith, count c.self.invariant, ap length c.self.view_is, c.requires, ap length c.as_slice.ensures.value, c.as_slice.type_inv.0)

pub invariant_of-result : goal.invariant_of-result
invariant_of-result g c =
    viewed_again (split-back c.self.invariant c.self.view_is c.args.place c.start_at-start.result c.as_slice.result.now c.as_slice-2.result.now _ _ c.requires
    c.as_slice.ensures.value c.as_slice-2.ensures.value c.start_at-start.ensures c.in_ok-starts.ensures c.in_ok-flat.ensures.tail)

pub invariant_of-self-2 : goal.invariant_of-self-2
invariant_of-self-2 g c =
    viewed_again (split-front c.self.invariant c.self.view_is c.args.place c.start_at-start.result c.as_slice.result.now _ _ c.requires
    c.as_slice.ensures.value c.start_at-start.ensures c.truncate.ensures.items c.in_ok-flat.ensures.items)

pub returns-clause-front : goal.returns-clause-front
returns-clause-front g c =
    rows-flat (split-front c.self.invariant c.self.view_is c.args.place c.start_at-start.result c.as_slice.result.now _ _ c.requires
    c.as_slice.ensures.value c.start_at-start.ensures c.truncate.ensures.items c.in_ok-flat.ensures.items)

pub returns-clause-back : goal.returns-clause-back
returns-clause-back g c =
    rows-flat (split-back c.self.invariant c.self.view_is c.args.place c.start_at-start.result c.as_slice.result.now c.as_slice-2.result.now _ _ c.requires
    c.as_slice.ensures.value c.as_slice-2.ensures.value c.start_at-start.ensures c.in_ok-starts.ensures c.in_ok-flat.ensures.tail)
