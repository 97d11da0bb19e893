use Rattle.sim_run_listing.proofs.Gathering.{on_err}
use Rattle.sim_run_session.proofs.LinesBeside.{beside_on, by_names, names_long, part_so, some_so, written_so}
use Rattle.sim_run_session.proofs.beside.carry_and_write.Goals as goal

pub returns-in_err-write-clause-stopped : goal.returns-in_err-write-clause-stopped
returns-in_err-write-clause-stopped g c =
    let first = g.W.Write.contents c.args.out.now in
    let now = g.W.Write.contents c.loop-turn.out in
    let is = c.loop-turn.invariant.2 in
    let lines = by_names c.args.run c.loop-turn.run c.args.names.now c.loop-turn.piece.records c.requires is.same in
    on_err _ _ (part_so c.args.run first c.loop-turn.run c.loop-turn.piece.records now is (g.W.Write.contents c.write.new.out)
    c.is_within_bounds.ensures.within (rw lines at c.in_err-write.ensures.part))

pub returns-then-is_some-clause-listed : goal.returns-then-is_some-clause-listed
returns-then-is_some-clause-listed g c =
    let first = g.W.Write.contents c.args.out.now in
    let now = g.W.Write.contents c.loop-turn.out in
    let is = c.loop-turn.invariant.2 in
    let lines = by_names c.args.run c.loop-turn.run c.args.names.now c.loop-turn.piece.records c.requires is.same in
    written_so c.args.run first c.loop-turn.run c.loop-turn.piece.records now is (g.W.Write.contents c.write.new.out)
    (rw lines at c.in_ok-write.ensures.ok)

pub carry_beside-requires-clause-named : goal.carry_beside-requires-clause-named
carry_beside-requires-clause-named g c κs within =
    let is = c.loop-turn.invariant.2 in
    rw (names_long c.args.run c.loop-turn.run c.args.names.now c.requires is.same) at is.named

pub returns-in_err-run-clause-stopped : goal.returns-in_err-run-clause-stopped
returns-in_err-run-clause-stopped g c =
    let first = g.W.Write.contents c.args.out.now in
    let now = g.W.Write.contents c.loop-turn.out in
    let is = c.loop-turn.invariant.2 in
    let lines = by_names c.args.run c.loop-turn.run c.args.names.now c.loop-turn.piece.records c.requires is.same in
    on_err _ _ (some_so c.args.run first c.loop-turn.run c.loop-turn.piece.records now is (g.W.Write.contents c.carry_beside.new.out)
    c.is_within_bounds.ensures.within (rw lines at c.in_err-run.ensures.some))

pub loop-turn-preserved : goal.loop-turn-preserved
loop-turn-preserved g c =
    let first = g.W.Write.contents c.args.out.now in
    let now = g.W.Write.contents c.loop-turn.out in
    let is = c.loop-turn.invariant.2 in
    let lines = by_names c.args.run c.loop-turn.run c.args.names.now c.loop-turn.piece.records c.requires is.same in (
      tt,
      tt,
      beside_on c.args.run first c.loop-turn.run c.loop-turn.piece.records now is (g.W.Write.contents c.carry_beside.new.out)
          c.in_ok-run.run' c.give-piece.new.self c.give-piece.result.records (rw lines at c.in_ok-run.ensures.all)
          c.in_ok-run.ensures.on c.give-piece.ensures.given c.is_within_bounds-in-loop-turn.ensures.recorded c.give-piece.ensures.records
          c.give-piece.ensures.named,
      c.give-piece.ensures.early,
    )
