use Rattle.std.proofs.Common.{ℕ, List, [], ◌∷◌, ◌++◌, ◌≡◌, ◌∙◌, ap, get_or, set}
use Rattle.std.proofs.lemmas.List.{get_or_default}
use Rattle.sim_store_nets.specs.Tallies.{is_placed}
use Rattle.sim_store_nets.proofs.Counted.{placed-added}
use Rattle.sim_store_nets.proofs.counting.add_place.Goals as goal

pub returns-in_ok-push : goal.returns-in_ok-push
returns-in_ok-push c n p d lt =
    let places = c.args.places.now in
    let driver = c.args.driver in
    let it : ℕ × ℕ = (c.args.net, c.args.place) in
    let is : c.push.new.self ≡ get_or places driver [] ++ it ∷ [] =
    c.in_ok-push.ensures.ok ∙ ap (λ w. w ++ it ∷ []) (get_or_default places driver c.index-places-driver.result [] c.if-driver-places.true) in
    ap (λ (w : List (ℕ × ℕ)). is_placed (get_or (set places driver w) d []) n p) is ∙ placed-added places driver c.args.net c.args.place n p d lt
