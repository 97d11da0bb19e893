use Rattle.std.proofs.Common.{◌≡◌, List, ℕ, ◌++◌, subst, rules}
use Rattle.std.proofs.lemmas.Result.{on_ok_weaker, on_err_weaker}
use Rattle.sim_run_listing.specs.Writing.{AppendsPart, Gathers}
use Rattle.sim_run_listing.specs.Listing.{joined}
use Rattle.sim_run_listing.proofs.Gathering.{gathers_then, stops_then, stops_within, on_err}
use Rattle.sim_run_listing.proofs.Divided.{line_is}
use Rattle.sim_run_listing.proofs.listing.put_divided.Goals as goal

pub returns-in_err-put-clause-part : goal.returns-in_err-put-clause-part
returns-in_err-put-clause-part g c =
    let head : c.as_slice.result.now ≡ c.args.head.now.text = search rules in
    let failed = rw head at c.in_err-put.ensures.part in
    on_err _ _ (subst (λ (l : List ℕ). AppendsPart (g.W.Write.contents c.args.out.now) (g.W.Write.contents c.put.new.out) (c.args.block.now ++ l))
    (line_is c.args.head.now.text c.args.path.now c.args.simple_name.now c.args.value)
    (stops_within (g.W.Write.contents c.args.out.now) (g.W.Write.contents c.put.new.out) c.args.block.now c.args.head.now.text _
    failed))

pub returns-in_err-put_path-clause-part : goal.returns-in_err-put_path-clause-part
returns-in_err-put_path-clause-part g c =
    let head : c.as_slice.result.now ≡ c.args.head.now.text = search rules in
    let put = rw head at c.in_ok-put.ensures.ok in
    on_err _ _ (subst (λ (l : List ℕ). AppendsPart (g.W.Write.contents c.args.out.now) (g.W.Write.contents c.put_path.new.out) (c.args.block.now ++ l))
    (line_is c.args.head.now.text c.args.path.now c.args.simple_name.now c.args.value)
    (stops_then (g.W.Write.contents c.args.out.now) (g.W.Write.contents c.put.new.out) (g.W.Write.contents c.put_path.new.out) c.args.block.now
    c.put.new.block c.args.head.now.text _ put
    (stops_within (g.W.Write.contents c.put.new.out) (g.W.Write.contents c.put_path.new.out) c.put.new.block (joined c.args.path.now) _
    c.in_err-put_path.ensures.part)))

pub returns-clause-part : goal.returns-clause-part
returns-clause-part g c =
    let head : c.as_slice.result.now ≡ c.args.head.now.text = search rules in
    let put = rw head at c.in_ok-put.ensures.ok in
    on_err_weaker _ (λ p. subst (λ (l : List ℕ). AppendsPart (g.W.Write.contents c.args.out.now) (g.W.Write.contents c.put_pieces.new.out)
    (c.args.block.now ++ l)) (line_is c.args.head.now.text c.args.path.now c.args.simple_name.now c.args.value)
    (stops_then (g.W.Write.contents c.args.out.now) (g.W.Write.contents c.put.new.out) (g.W.Write.contents c.put_pieces.new.out) c.args.block.now
    c.put.new.block c.args.head.now.text _ put
    (stops_then (g.W.Write.contents c.put.new.out) (g.W.Write.contents c.put_path.new.out) (g.W.Write.contents c.put_pieces.new.out)
    c.put.new.block c.put_path.new.block (joined c.args.path.now) _ c.in_ok-put_path.ensures.ok p)))
    c.put_pieces.ensures.part

pub returns-clause-ok : goal.returns-clause-ok
returns-clause-ok g c =
    let head : c.as_slice.result.now ≡ c.args.head.now.text = search rules in
    let put = rw head at c.in_ok-put.ensures.ok in
    on_ok_weaker _ (λ p. subst (λ (l : List ℕ). Gathers (g.W.Write.contents c.args.out.now) c.args.block.now
    (g.W.Write.contents c.put_pieces.new.out) c.put_pieces.new.block l)
    (line_is c.args.head.now.text c.args.path.now c.args.simple_name.now c.args.value)
    (gathers_then put (gathers_then c.in_ok-put_path.ensures.ok p))) c.put_pieces.ensures.ok
