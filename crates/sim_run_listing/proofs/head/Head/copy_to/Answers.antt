use Rattle.std.proofs.Common.{◌≡◌, refl, ap, sym, arith}
use Rattle.std.specs.List.{slice_range}
use Rattle.sim_run_listing.proofs.Copies.{first_bytes}
use Rattle.sim_run_listing.proofs.head.Head.copy_to.Goals as goal

pub returns : goal.returns
returns c =
    let text : c.args.self.now.text ≡ slice_range c.self.inside.bytes c.self.inside.start c.self.inside.end = ap (λ s. s.text) (sym c.self.view_is) in
    first_bytes c.args.at _ c.self.inside.start c.self.inside.end 48 c.args.to.now _ c.self.inside.bytes _ _ c.args.self.now.text
    (omega arith) (omega (arith, c.self.invariant)) (omega (arith, c.self.invariant)) (omega (arith, c.self.invariant)) c.put_chunk.ensures refl text
