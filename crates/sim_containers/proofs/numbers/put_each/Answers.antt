use Rattle.std.proofs.Common.{arith, ap, length, false, true, sym, ◌∙◌, ◌<◌, List, Bool, get_or}
use Rattle.std.proofs.lemmas.List.{length-replicate, length-set}
use Rattle.sim_containers.proofs.Bits.{not_both}
use Rattle.sim_containers.specs.Numbers.{is_in}
use Rattle.sim_containers.proofs.Ranges.{all_there, member_small, put_more, sound_more}
use Rattle.sim_containers.proofs.Sets.{in_none}
use Rattle.sim_containers.proofs.numbers.put_each.Goals as goal

pub loop-place-init : goal.loop-place-init
loop-place-init c = record {
  len = ap length c.requires.clear ∙ length-replicate (length c.args.set.now) false;
  sound = λ m h. absurd (not_both (is_in c.args.bits.now m) (ap (λ (s : List Bool). is_in s m) c.requires.clear ∙ in_none (length c.args.set.now) m) h);
  there = λ i l. absurd (omega (arith, l));
}

pub put-requires : goal.put-requires
put-requires c =
    let small = member_small c.args.set.now c.args.numbers.now c.loop-place.place c.requires.listed c.loop-place-test.true in
    omega (arith, small, c.loop-place.invariant.len)

pub loop-place-preserved : goal.loop-place-preserved
loop-place-preserved c =
    let small : get_or c.args.numbers.now c.loop-place.place 0 < length c.args.set.now = member_small c.args.set.now c.args.numbers.now c.loop-place.place
    c.requires.listed c.loop-place-test.true in
    record {
      len = ap length c.put.ensures ∙ (length-set c.loop-place.bits (get_or c.args.numbers.now c.loop-place.place 0) true ∙ c.loop-place.invariant.len);
      sound = λ m h. sound_more c.args.set.now c.loop-place.bits c.args.numbers.now c.loop-place.place c.requires.listed c.loop-place-test.true
          c.loop-place.invariant.sound m (ap (λ (s : List Bool). is_in s m) (sym c.put.ensures) ∙ h);
      there = λ i l. ap (λ (s : List Bool). is_in s (get_or c.args.numbers.now i 0)) c.put.ensures ∙ put_more c.loop-place.bits c.args.numbers.now
          c.loop-place.place (omega (arith, small, c.loop-place.invariant.len)) c.loop-place.invariant.there i l;
    }

pub returns : goal.returns
returns c = all_there c.args.set.now c.loop-place.bits c.args.numbers.now c.requires.listed c.loop-place.invariant.len c.loop-place.invariant.sound
    (λ i l. c.loop-place.invariant.there i (omega (arith, l, c.loop-place-test.false)))
