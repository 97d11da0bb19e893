use Rattle.std.proofs.Common.{rules, ◌≡◌, ◌++◌, ◌∙◌, List, ℕ, ap, sym, arith}
use Rattle.std.specs.List.{concat}
use Rattle.sim_flat_design.proofs.Joined.{no_pieces, first_piece, behind_first, is_front, put_before, left_out, regrouped, first_apart}
use Rattle.sim_flat_design.proofs.pieces.+same_behind.Goals as goal

pub returns-in-Some : goal.returns-in-Some
returns-in-Some t c =
    let front = c.args.front.now in
    let rest = c.in-Some.rest.now in
    let own = concat c.args.pieces.now ++ c.args.last.now in
    let none : concat c.args.others.now ++ c.args.other_last.now ≡ c.args.other_last.now =
    ap (λ (l : List ℕ). l ++ c.args.other_last.now) (no_pieces c.args.others.now c.in_default.len_below) in (
      (λ u. put_before front own rest (c.are_joined.ensures.0 u) ∙ (c.in-Some.ensures ∙ sym none)),
      (λ e. c.are_joined.ensures.1 (left_out front own rest (e ∙ (none ∙ sym c.in-Some.ensures)))),
    )

pub returns-in-Some-after : goal.returns-in-Some-after
returns-in-Some-after t c =
    let front = c.args.front.now in
    let first = c.as_bytes-first.result.now in
    let rest = c.in-Some-after.rest.now in
    let own = concat c.args.pieces.now ++ c.args.last.now in
    let others = concat (behind_first c.args.others.now) in
    let more = others ++ c.args.other_last.now in
    let same : first ≡ c.first-item.result = search rules in
    let all : concat c.args.others.now ++ c.args.other_last.now ≡ front ++ (rest ++ more) =
    first_apart (concat c.args.others.now) first others c.args.other_last.now
    (first_piece c.args.others.now c.first-item.result first c.in-len1-up.len_at_least c.first-item.is same)
    ∙ regrouped front rest first more c.in-Some-after.ensures in (
      (λ u. put_before front own (rest ++ more) (sym (c.same_behind.ensures.0 u)) ∙ sym all),
      (λ e. c.same_behind.ensures.1 (sym (left_out front own (rest ++ more) (e ∙ all)))),
    )

pub returns-in-None-after : goal.returns-in-None-after
returns-in-None-after t c =
    let first = c.as_bytes-first.result.now in
    let others = concat (behind_first c.args.others.now) in
    let same : first ≡ c.first-item.result = search rules in
    let all : concat c.args.others.now ++ c.args.other_last.now ≡ first ++ (others ++ c.args.other_last.now) =
    first_apart (concat c.args.others.now) first others c.args.other_last.now
    (first_piece c.args.others.now c.first-item.result first c.in-len1-up.len_at_least c.first-item.is same) in (
      (λ u. search rules),
      (λ e. absurd (c.in-None-after.ensures _
          (is_front c.args.front.now (concat c.args.pieces.now ++ c.args.last.now) first (others ++ c.args.other_last.now)
          (omega (arith, c.if-front-first.true)) (e ∙ all)))),
    )

pub returns-in-Some-after-2 : goal.returns-in-Some-after-2
returns-in-Some-after-2 t c =
    let first = c.as_bytes-first.result.now in
    let rest = c.in-Some-after-2.rest.now in
    let own = concat c.args.pieces.now ++ c.args.last.now in
    let others = concat (behind_first c.args.others.now) in
    let more = others ++ c.args.other_last.now in
    let same : first ≡ c.first-item.result = search rules in
    let all : concat c.args.others.now ++ c.args.other_last.now ≡ first ++ more =
    first_apart (concat c.args.others.now) first others c.args.other_last.now
    (first_piece c.args.others.now c.first-item.result first c.in-len1-up.len_at_least c.first-item.is same) in
    let front : c.args.front.now ++ own ≡ first ++ (rest ++ own) = regrouped first rest c.args.front.now own c.in-Some-after-2.ensures in (
      (λ u. front ∙ (put_before first (rest ++ own) more (c.same_behind-in-Some-after-2.ensures.0 u) ∙ sym all)),
      (λ e. c.same_behind-in-Some-after-2.ensures.1 (left_out first (rest ++ own) more (sym front ∙ (e ∙ all)))),
    )

pub returns-in-None-after-2 : goal.returns-in-None-after-2
returns-in-None-after-2 t c =
    let first = c.as_bytes-first.result.now in
    let others = concat (behind_first c.args.others.now) in
    let same : first ≡ c.first-item.result = search rules in
    let all : concat c.args.others.now ++ c.args.other_last.now ≡ first ++ (others ++ c.args.other_last.now) =
    first_apart (concat c.args.others.now) first others c.args.other_last.now
    (first_piece c.args.others.now c.first-item.result first c.in-len1-up.len_at_least c.first-item.is same) in (
      (λ u. search rules),
      (λ e. absurd (c.in-None-after-2.ensures _
          (is_front first (others ++ c.args.other_last.now) c.args.front.now (concat c.args.pieces.now ++ c.args.last.now)
          (omega (arith, c.if-front-first.false)) (sym (e ∙ all))))),
    )
