use Rattle.std.proofs.Common.{◌≡◌, ◌+◌, ◌<◌, ◌≤◌, length, decimal, ap, ◌∙◌, rules, arith}
use Rattle.std.proofs.lemmas.Fmt.{length-decimal-le}
use Rattle.sim_run_listing.proofs.Heads.{delta_is, kept, start_is}
use Rattle.sim_run_listing.proofs.head.Head.set_long_delta.Goals as goal

pub invariant_of-self : goal.invariant_of-self
invariant_of-self c =
    let digits = c.as_bytes-digits.result.now in
    let is_digits : digits ≡ decimal c.args.delta = search rules in
    let short : length digits ≤ 20 = rw is_digits (length-decimal-le 20 c.args.delta (omega arith) (search rules) (search rules)) in
    let room : 21 + length digits < length c.copy_to.new.to = search rules in
    let written = delta_is c.args.delta c.self.inside.bytes c.copy_to.new.to digits is_digits c.copy_to.ensures room in
    let time = kept c.self.inside.start 21 _ c.self.inside.bytes _ _ (omega arith) (omega arith) written ∙ c.self.invariant.3 in
    (c.self.invariant.0, omega arith, omega arith, time, c.self.invariant.4)

pub returns : goal.returns
returns c =
    let digits = c.as_bytes-digits.result.now in
    let bytes = c.self.inside.bytes in
    let time : c.self.inside.time ≡ c.args.self.now.time = ap (λ s. s.time) c.self.view_is in
    let is_digits : digits ≡ decimal c.args.delta = search rules in
    let short : length digits ≤ 20 = rw is_digits (length-decimal-le 20 c.args.delta (omega arith) (search rules) (search rules)) in
    let room : 21 + length digits < length c.copy_to.new.to = search rules in
    let written = delta_is c.args.delta bytes c.copy_to.new.to digits is_digits c.copy_to.ensures room in
    rw (← time) (start_is c.self.inside.start _ c.self.inside.time c.args.delta bytes _ c.self.invariant.0 c.self.told c.self.invariant.3 written)
