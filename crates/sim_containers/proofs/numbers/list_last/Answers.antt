use Rattle.std.proofs.Common.{arith, ap, length, sym, ◌∙◌, ◌++◌, ◌∷◌, [], ℕ, List}
use Rattle.sim_containers.specs.Numbers.{is_in}
use Rattle.sim_containers.proofs.Ranges.{fresh_room, listed_last}
use Rattle.sim_containers.proofs.numbers.list_last.Goals as goal

pub push_reserved-requires : goal.push_reserved-requires
push_reserved-requires c =
    omega (
      arith,
      ap length c.requires.listed,
      fresh_room (is_in c.args.set.now) c.args.number (length c.args.set.now) c.requires.at (c.requires.none c.args.number (omega arith)),
      c.requires.room,
    )

pub returns-clause-listed : goal.returns-clause-listed
returns-clause-listed c =
    c.push_reserved.ensures.items
    ∙ (ap (λ (xs : List ℕ). xs ++ c.args.number ∷ []) c.requires.listed
    ∙ sym (listed_last c.args.set.now c.args.number c.requires.at c.requires.none))
