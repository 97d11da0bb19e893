use Rattle.std.proofs.Common.{◌≡◌, ◌∙◌, ◌/◌, ◌<◌, ◌^◌, ℕ, List, Bool, ap, arith, eqb, get_or, not, set, sym, false}
use Rattle.std.proofs.lemmas.List.{set-get_or}
use Rattle.std.proofs.lemmas.Grind.{get_or_default_zero}
use Rattle.sim_containers.proofs.Sets.{in_room, none_beyond, set_marked, still_set}
use Rattle.sim_containers.proofs.bit_set.BitSet.put.Goals as goal

pub returns-then-number-self : goal.returns-then-number-self
returns-then-number-self c =
    let none = none_beyond c.self.inside.words.items c.self.inside.tops.items c.self.inside.count c.self.inside.end c.args.self.now c.self.invariant
    c.self.view_is c.args.number (omega (arith, c.if-number-self.true)) in
    sym (set-get_or c.args.self.now c.args.number false)
    ∙ ap (set c.args.self.now c.args.number) (none ∙ sym c.if-not-is_member.true)

pub overflow_add-number : goal.overflow_add-number
overflow_add-number c =
    let room = in_room _ _ _ _ c.args.number _ c.self.invariant c.self.view_is c.requires in
    let fits : c.self.inside.count < 2 ^ 64 = c.self.invariant.fits in
    omega (arith, room.0, fits)

pub index-requires : goal.index-requires
index-requires c =
    let room = in_room _ _ _ _ c.args.number _ c.self.invariant c.self.view_is c.requires in
    omega (arith, room.1)

pub mark-requires : goal.mark-requires
mark-requires c =
    (in_room _ _ _ _ c.args.number _ c.self.invariant c.self.view_is c.requires).1

pub index-requires-2 : goal.index-requires-2
index-requires-2 c =
    let room = in_room _ _ _ _ c.args.number _ c.self.invariant c.self.view_is c.requires in
    omega (arith, room.1, c.mark.ensures.len)

pub mark_other-requires-clause-at : goal.mark_other-requires-clause-at
mark_other-requires-clause-at c =
    (in_room _ _ _ _ c.args.number _ c.self.invariant c.self.view_is c.requires).2

pub mark_other-requires-clause-was : goal.mark_other-requires-clause-was
mark_other-requires-clause-was c =
    let room = in_room _ _ _ _ c.args.number _ c.self.invariant c.self.view_is c.requires in
    let read : c.index.result.now ≡ get_or c.self.inside.words.items (c.args.number / 64) 0 =
    c.index.ensures ∙ get_or_default_zero c.self.inside.words.items (c.args.number / 64) c.index.result.now (omega (arith, room.1)) in
    c.self.invariant.used (c.args.number / 64) ∙ ap (λ (w : ℕ). not (eqb w 0)) (sym read)

pub invariant_of-self : goal.invariant_of-self
invariant_of-self c =
    let room = in_room _ _ _ _ c.args.number _ c.self.invariant c.self.view_is c.requires in
    let read : c.index-2.result.now ≡ get_or c.mark.new.words.items (c.args.number / 64) 0 =
    c.index-2.ensures ∙ get_or_default_zero c.mark.new.words.items (c.args.number / 64) c.index-2.result.now (omega (arith, room.1, c.mark.ensures.len)) in
    still_set c.self.inside.words.items c.mark.new.words.items c.self.inside.tops.items c.mark_other.new.words.items c.self.inside.count
    c.self.inside.end c.max-self-inside.result c.args.number room.0
    c.mark.ensures.len c.mark_other.ensures.len c.mark.ensures.others c.mark.ensures.words
    (c.mark_other.ensures.here ∙ ap (λ (w : ℕ). not (eqb w 0)) read) c.mark_other.ensures.others (omega arith) (omega arith) (omega arith) c.self.invariant

pub returns : goal.returns
returns c =
    let room = in_room _ _ _ _ c.args.number _ c.self.invariant c.self.view_is c.requires in
    set_marked c.self.inside.words.items c.mark.new.words.items c.self.inside.count c.args.number c.args.is_member room.0
    c.mark.ensures.here c.mark.ensures.others
    ∙ ap (λ (s : List Bool). set s c.args.number c.args.is_member) c.self.view_is
