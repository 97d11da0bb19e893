use Rattle.std.proofs.Common.{ℕ, List, [], ◌∷◌, ◌++◌, ◌≡◌, ◌∙◌, ap, get_or, set}
use Rattle.std.proofs.lemmas.List.{get_or_default}
use Rattle.sim_standard.specs.Orders.{is_among}
use Rattle.sim_store_nets.proofs.Booleans.{added}
use Rattle.sim_store_nets.proofs.lists.add.Goals as goal

pub returns-in_ok-push : goal.returns-in_ok-push
returns-in_ok-push c n p lt =
    let lists = c.args.lists.now in
    let place = c.args.place in
    let is : c.push.new.self ≡ get_or lists place [] ++ c.args.number ∷ [] =
    c.in_ok-push.ensures.ok ∙ ap (λ w. w ++ c.args.number ∷ []) (get_or_default lists place c.index-lists-place.result [] c.if-place-lists.true) in
    ap (λ (w : List ℕ). is_among (get_or (set lists place w) n []) p) is ∙ added lists place c.args.number n p lt
