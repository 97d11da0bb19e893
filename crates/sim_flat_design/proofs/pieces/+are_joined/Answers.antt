use Rattle.std.proofs.Common.{rules, tests, ◌≡◌, ◌++◌, ◌∙◌, List, ℕ, ap, sym}
use Rattle.std.specs.Bool.{Decides}
use Rattle.std.specs.List.{concat}
use Rattle.sim_flat_design.proofs.Joined.{no_pieces, first_piece, behind_first, is_whole, is_rest}
use Rattle.sim_flat_design.proofs.pieces.+are_joined.Goals as goal

pub returns-in-empty : goal.returns-in-empty
returns-in-empty t c =
    let test : Decides c.eq.result (c.args.last.now ≡ c.args.whole.now) = search (rules, tests) in
    let none : concat c.args.pieces.now ++ c.args.last.now ≡ c.args.last.now =
    ap (λ (l : List ℕ). l ++ c.args.last.now) (no_pieces c.args.pieces.now c.in-empty.len_below) in
    ((λ u. none ∙ test.0 u), (λ e. test.1 (sym none ∙ e)))

pub returns-in-Some : goal.returns-in-Some
returns-in-Some t c =
    let first = c.as_bytes.result.now in
    let same : first ≡ c.first-item.result = search rules in
    let others = concat (behind_first c.args.pieces.now) in
    let all : concat c.args.pieces.now ++ c.args.last.now ≡ (first ++ others) ++ c.args.last.now =
    ap (λ (l : List ℕ). l ++ c.args.last.now)
    (first_piece c.args.pieces.now c.first-item.result first c.in-len1-up.len_at_least c.first-item.is same) in
    let rest = c.in-Some.rest.now in (
      (λ u. all ∙ is_whole first others c.args.last.now c.args.whole.now rest c.in-Some.ensures (c.are_joined.ensures.0 u)),
      (λ e. c.are_joined.ensures.1 (is_rest first others c.args.last.now c.args.whole.now rest c.in-Some.ensures (sym all ∙ e))),
    )
