use Rattle.std.proofs.Common.{◌<◌, arith}
use Rattle.std.proofs.lemmas.Grind.{common_steps}
use Rattle.sim_text_tokens.proofs.Turns.{fault_here, moves}
use Rattle.sim_text_tokens.proofs.Places.{next_lexeme, next_none}
use Rattle.sim_text_tokens.proofs.lexer.cut.Goals as goal

pub returns-in_default-piece_at-clause-fault : goal.returns-in_default-piece_at-clause-fault
returns-in_default-piece_at-clause-fault c = λ _.
    fault_here _ _ _ _ _ c.loop-text.invariant c.in-len1-up.len_at_least _ _ c.piece_at.ensures.value c.in_default-piece_at.is c.fault_at.ensures

pub loop-text-smaller-in_ok-add : goal.loop-text-smaller-in_ok-add
loop-text-smaller-in_ok-add c =
    let go : 0 < c.in-Some.len = moves _ _ _ _ _ c.loop-text.invariant c.in-len1-up.len_at_least _ _ c.in-Some.ensures.value in
    omega (arith, c.split_at.ensures.back_len)

pub loop-text-smaller : goal.loop-text-smaller
loop-text-smaller c =
    let go : 0 < c.in-Some.len = moves _ _ _ _ _ c.loop-text.invariant c.in-len1-up.len_at_least _ _ c.in-Some.ensures.value in
    omega (arith, c.split_at.ensures.back_len)

pub loop-text-preserved-in_ok-add : goal.loop-text-preserved-in_ok-add
loop-text-preserved-in_ok-add c =
    next_lexeme _ _ _ _ _ c.loop-text.invariant c.in-len1-up.len_at_least _ _ _ _ _ c.in-Some.ensures.value c.split_at.ensures.front
    c.split_at.ensures.back c.kind_of.ensures c.in-Some-kind_of.kind c.in-Some-kind_of.is _ c.in_ok-add.ensures _
    c.is_name-after_name.ensures

pub loop-text-preserved : goal.loop-text-preserved
loop-text-preserved c =
    next_none _ _ _ _ _ c.loop-text.invariant c.in-len1-up.len_at_least _ _ _ _ _ c.in-Some.ensures.value c.split_at.ensures.front
    c.split_at.ensures.back c.kind_of.ensures c.in_default-kind_of.is

pub overflow_add-end : goal.overflow_add-end
overflow_add-end c = grind (arith, common_steps)

pub returns-clause-found : goal.returns-clause-found
returns-clause-found c = grind (arith, common_steps)
