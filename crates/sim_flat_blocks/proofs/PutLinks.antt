-- The links of an instance are set from its last association to its first, each replacing the previous one, so that the first
-- association of a port counts. The invariant is that the links are those of the associations from a position of the map.
use Rattle.std.proofs.Common.{◌≡◌, ℕ, ◌+◌, ◌==◌, ◌<◌, List, ◌∷◌, map, length, get_or, drop, replicate, cond}
use Rattle.std.proofs.Common.{Bool, true, false, Option, Some, None, refl, ap, sym, ◌∙◌, arith}
use Rattle.std.proofs.lemmas.List.{drop_all, drop_more}
use Rattle.std.proofs.lemmas.Option.{slice_get-get_or}
use Rattle.std.specs.List.{range_with_len}
use Rattle.std.specs.Option.{option_or}
use Rattle.sim_text_tree.specs.declared.unit.Association.{Association}
use Rattle.sim_flat_scope.specs.Scopes.{Lookup}
use Rattle.sim_flat_scope.specs.Ports.{Port}
use Rattle.sim_flat_instances.specs.Places.{where_at}
use Rattle.sim_flat_instances.specs.PortMaps.{port_of, is_port, first_of_port, actual_of, actual_at, associated}
use Rattle.sim_flat_blocks.specs.declared.links.Link.{Link}
use Rattle.sim_flat_blocks.specs.declared.links.Link.TheVariants.{Open}
use Rattle.sim_flat_blocks.proofs.ByPlace.{all_same, alike, put_at as put_at_place}
use Rattle.sim_flat_blocks.specs.Plans.{link_of, links_of, put_at}

module _ (look : Lookup) (ports : List Port) (xs : List Association) where
  -- the link of the port at a position, by the associations from this one
  abbrev pub link_from : ℕ → ℕ → Link
  link_from at n = link_of look (actual_at xs (first_of_port ports n at (drop at xs)))

  abbrev pub links_from : ℕ → List Link
  links_from at = map (link_from at) (range_with_len 0 (length ports))

  -- without associations
  pub past_all : replicate (length ports) Open ≡ links_from (length xs)
  unfolding link_of first_of_port
  past_all = sym (all_same (link_from (length xs)) Open
      (λ n. ap (λ (ys : List Association). link_of look (actual_at xs (first_of_port ports n (length xs) ys))) (drop_all (length xs) xs (omega arith)))
      0 (length ports))

  -- with all associations
  pub from_first : links_from 0 ≡ links_of look ports xs
  unfolding links_of associated
  from_first = refl

  module _ (at : ℕ) (x : Association) (lt : at < length xs) (is : get_or xs at x ≡ x) where
    abbrev rest : ℕ → Option ℕ
    rest n = first_of_port ports n (at + 1) (drop (at + 1) xs)

    opened : (n : ℕ) → link_from at n ≡ link_of look (actual_at xs (option_or (where_at (is_port (port_of ports at x.formal) n) at) (rest n)))
    unfolding first_of_port
    opened n = ap (λ (ys : List Association). link_of look (actual_at xs (first_of_port ports n at ys)))
        (drop_more xs at x lt ∙ ap (λ (y : Association). y ∷ drop (at + 1) xs) is)

    here : actual_at xs (Some at) ≡ Some x.actual
    here = ap actual_of (slice_get-get_or xs at x lt ∙ ap (λ (y : Association). Some y) is)

    chosen : (b : Bool) (n : ℕ) → link_of look (actual_at xs (option_or (where_at b at) (rest n)))
        ≡ cond b (link_of look (Some x.actual)) (link_from (at + 1) n)
    chosen true n = ap (link_of look) here
    chosen false n = refl

    placed : (o : Option ℕ) → port_of ports at x.formal ≡ o → put_at o (link_of look (Some x.actual)) (links_from (at + 1)) ≡ links_from at
    placed None e = alike (link_from (at + 1)) (link_from at) (length ports) Open
        (λ n below. sym (opened n ∙ (ap (λ (o : Option ℕ). link_of look (actual_at xs (option_or (where_at (is_port o n) at) (rest n)))) e ∙ chosen false n)))
    placed (Some p) e = put_at_place (link_from (at + 1)) (link_from at) (length ports) p (link_of look (Some x.actual)) Open
        (λ n. opened n ∙ (ap (λ (o : Option ℕ). link_of look (actual_at xs (option_or (where_at (is_port o n) at) (rest n)))) e ∙ chosen (p == n) n))

    -- with one more association
    pub one_more : (links after : List Link) → links ≡ links_from (at + 1)
        → after ≡ put_at (port_of ports at x.formal) (link_of look (Some x.actual)) links → after ≡ links_from at
    one_more links after so_far put =
        put ∙ (ap (put_at (port_of ports at x.formal) (link_of look (Some x.actual))) so_far ∙ placed (port_of ports at x.formal) refl)
