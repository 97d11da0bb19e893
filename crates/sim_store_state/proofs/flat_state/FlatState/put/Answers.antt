use Rattle.std.proofs.Common.{◌≡◌, ◌∙◌, List, length, set, arith, sym, ap, subst}
use Rattle.sim_standard.specs.State.{Owned, driver_values, owned_at}
use Rattle.sim_containers.specs.RowArray.{joined}
use Rattle.sim_containers.proofs.Flat.{written_back}
use Rattle.sim_store_state.specs.FlatState.{FlatState, IsConsistent, held}
use Rattle.sim_store_state.proofs.Contents.{owned-is}
use Rattle.sim_store_state.proofs.Kept.{put-keeps}
use Rattle.sim_store_state.proofs.flat_state.FlatState.put.Goals as goal

pub put_owned-requires : goal.put_owned-requires
put_owned-requires c =
    let s = c.self.inside in
    let own = owned-is s.values s.shares.items s.lists c.self.view_is in
    let all : joined c.as_mut_slice.result.now ≡ c.args.self.now.owned = ap joined c.as_mut_slice.ensures.value ∙ sym own in
    record {
      shares = rw c.as_mut_slice.ensures.value c.self.invariant.shared;
      number = omega (arith, c.requires.at, ap length all);
      drivers = ap length c.as_mut_slice-2.ensures.value ∙ (c.requires.drivers ∙ ap (λ (os : List Owned). length (owned_at os c.args.number).drivers)
          (sym all));
      variables = ap length c.as_mut_slice-3.ensures.value ∙ (c.requires.variables ∙ ap (λ (os : List Owned). length
          (owned_at os c.args.number).variables) (sym all));
    }

pub invariant_of-self : goal.invariant_of-self
invariant_of-self c =
    let s = c.self.inside in
    let own = owned-is s.values s.shares.items s.lists c.self.view_is in
    let e = c.put_owned.ensures in
    let back = written_back c.put_owned.new.shares s.shares.items s.shares.len
    (omega (arith, c.put_owned.auto.shares, ap length c.as_mut_slice.ensures.value, s.shares.ok)) in
    subst (λ (shares : List (List Owned)). IsConsistent s.values shares s.lists) (sym back)
    (put-keeps c.self.invariant c.args.number c.put_owned.new.shares (record { drivers = c.args.drivers.items; variables = c.args.variables.items })
    (rw (c.as_mut_slice.ensures.value, c.as_mut_slice-2.ensures.value, c.as_mut_slice-3.ensures.value) at e.owned)
    (rw c.as_mut_slice.ensures.value at e.counts)
    (c.requires.values ∙ ap (λ (os : List Owned). driver_values (owned_at os c.args.number).drivers) own))

pub returns : goal.returns
returns c =
    let s = c.self.inside in
    let own : Owned = record { drivers = c.args.drivers.items; variables = c.args.variables.items } in
    let back = written_back c.put_owned.new.shares s.shares.items s.shares.len
    (omega (arith, c.put_owned.auto.shares, ap length c.as_mut_slice.ensures.value, s.shares.ok)) in
    let all : joined c.put_owned.new.shares ≡ set (joined s.shares.items) c.args.number own =
    rw (c.as_mut_slice.ensures.value, c.as_mut_slice-2.ensures.value, c.as_mut_slice-3.ensures.value) at c.put_owned.ensures.owned in
    ap (λ (shares : List (List Owned)). held s.values shares s.lists) back
    ∙ (ap (λ (os : List Owned). record (held s.values s.shares.items s.lists) { owned = os }) all
    ∙ ap (λ (h : FlatState). record h { owned = set h.owned c.args.number own }) c.self.view_is)
