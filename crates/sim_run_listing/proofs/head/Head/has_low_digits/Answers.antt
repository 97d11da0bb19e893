use Rattle.std.proofs.Common.{◌≡◌, ◌%◌, ap, sym, ◌∙◌, arith}
use Rattle.sim_run_listing.proofs.head.Head.has_low_digits.Goals as goal

pub returns-clause-same : goal.returns-clause-same
returns-clause-same c h =
    let same : c.args.low ≡ c.self.inside.low = omega arith in
    let time : c.args.self.now.time ≡ c.self.inside.time = sym (ap (λ s. s.time) c.self.view_is) in
    ap (λ n. n % 1000000) time ∙ (sym c.self.invariant.4 ∙ (sym same ∙ c.requires))
