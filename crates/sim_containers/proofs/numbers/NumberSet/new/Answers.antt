use Rattle.std.proofs.Common.{◌≡◌, ◌∙◌, ap, arith, length, false, true, refl, replicate, sym, ℕ, List, Bool}
use Rattle.std.proofs.lemmas.List.{length-replicate}
use Rattle.sim_containers.proofs.Bits.{not_both}
use Rattle.sim_containers.specs.Numbers.{is_in}
use Rattle.sim_containers.proofs.Ranges.{none_below}
use Rattle.sim_containers.proofs.Sets.{in_none}
use Rattle.sim_containers.proofs.numbers.NumberSet.new.Goals as goal

pub invariant_of-result : goal.invariant_of-result
invariant_of-result c =
    let len : length c.in_ok-marks.marks ≡ c.args.count = ap length c.in_ok-marks.ensures ∙ length-replicate c.args.count false in
    record {
      listed = λ _. c.in_ok-list.ensures.items ∙ sym (none_below c.in_ok-marks.marks c.args.count c.in_ok-marks.ensures);
      clear = λ _. c.in_ok-bits.ensures ∙ ap (λ (n : ℕ). replicate n false) (sym len);
      marked = λ e. absurd (not_both true e refl);
      unlisted = λ e. absurd (not_both true e refl);
      room = omega (arith, len, c.in_ok-list.ensures.capacity);
      within = omega arith;
      none = λ n _. ap (λ (s : List Bool). is_in s n) c.in_ok-marks.ensures ∙ in_none c.args.count n;
      fits = omega (arith, len);
    }
