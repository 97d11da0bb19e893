use Rattle.std.proofs.Common.{arith, ap, length, subst, ◌≤◌, ◌<◌, ◌-◌, ℕ, List, get_or}
use Rattle.sim_containers.specs.Numbers.{is_in}
use Rattle.sim_containers.proofs.Ranges.{fresh_room, listed_more}
use Rattle.sim_containers.proofs.numbers.list_one.Goals as goal

pub put_before-requires-clause-room : goal.put_before-requires-clause-room
put_before-requires-clause-room c =
    omega (
      arith,
      ap length c.requires.listed,
      fresh_room (is_in c.args.set.now) c.args.number (length c.args.set.now) c.requires.at c.requires.fresh,
      c.requires.room,
    )

pub returns-in-Some-clause-listed : goal.returns-in-Some-clause-listed
returns-in-Some-clause-listed c _ =
    let told = c.in-Some.ensures in
    let at : c.in-Some.place ≤ length c.args.list.now.items = subst (λ (xs : List ℕ). c.in-Some.place ≤ length xs) c.as_slice.ensures.value told.0 in
    let after : (i : ℕ) → i < length c.args.list.now.items → c.in-Some.place ≤ i → c.args.number ≤ get_or c.args.list.now.items i 0 =
    subst (λ (xs : List ℕ). (i : ℕ) → i < length xs → c.in-Some.place ≤ i → c.args.number ≤ get_or xs i 0) c.as_slice.ensures.value told.1 in
    let before : 0 < c.in-Some.place → get_or c.args.list.now.items (c.in-Some.place - 1) 0 ≤ c.args.number =
    subst (λ (xs : List ℕ). 0 < c.in-Some.place → get_or xs (c.in-Some.place - 1) 0 ≤ c.args.number) c.as_slice.ensures.value told.2 in
    listed_more c.args.set.now c.args.number c.in-Some.place c.args.list.now.items c.put_before.new.list.items c.requires.listed c.requires.at
    c.requires.fresh at after before c.put_before.ensures.items
