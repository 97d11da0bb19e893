use Rattle.std.proofs.Common.{◌∙◌, ap, arith, length, map, refl}
use Rattle.std.specs.Prelude.{slice_index_or}
use Rattle.sim_logic.specs.declared.logic.Logic.TheVariants as logic
use Rattle.sim_store_state.specs.declared.log.Entry.{Entry}
use Rattle.sim_store_state.specs.declared.log.Entry.TheVariants as entry
use Rattle.sim_run_listing.proofs.Entries.{all_listed, at_first, moment_of, one_fails, one_listed, one_named, records_named}
use Rattle.sim_run_listing.proofs.Gathering.{on_err}
use Rattle.sim_run_listing.proofs.log.put_entries.Goals as goal

pub loop-entry-init : goal.loop-entry-init
loop-entry-init g c = (
  at_first (g.W.Write.contents c.args.out.now) c.args.block.now (map g.N.Named.name_of c.args.names.now) c.args.log.now c.lists.result.0.now
      c.lists.result.1.now c.new-moment.result (c.new-moment.ensures.value ∙ ap moment_of c.past.ensures) c.lists.ensures.records
      c.lists.ensures.begins c.lists.ensures.times,
  c.new-moment.ensures.head,
)

pub pass-requires-clause-few : goal.pass-requires-clause-few
pass-requires-clause-few g c = omega (arith, c.loop-entry.invariant.0.few, c.loop-entry-test.true, c.requires.early)

pub put_entry-requires-clause-named : goal.put_entry-requires-clause-named
put_entry-requires-clause-named g c =
    let none : Entry = entry.Change logic.U 0 in
    one_named (length c.args.names.now) c.lists.result.1.now c.loop-entry.entry-index
    (slice_index_or c.lists.result.1.now c.loop-entry.entry-index none) none refl c.loop-entry-test.true
    (records_named (length c.args.names.now) c.args.log.now c.lists.result.0.now c.lists.result.1.now c.lists.ensures.records c.lists.ensures.begins
    c.requires.named)

pub loop-entry-preserved : goal.loop-entry-preserved
loop-entry-preserved g c =
    let none : Entry = entry.Change logic.U 0 in (
      one_listed (g.W.Write.contents c.args.out.now) (g.W.Write.contents c.loop-entry.out) (g.W.Write.contents c.put_entry.new.out) c.args.block.now
          c.loop-entry.block c.put_entry.new.block (map g.N.Named.name_of c.args.names.now) c.args.log.now c.lists.result.0.now c.lists.result.1.now
          c.loop-entry.moment c.pass.new.self c.loop-entry.entry-index (slice_index_or c.lists.result.1.now c.loop-entry.entry-index none) none
          c.pass.new.head.text refl c.loop-entry-test.true c.pass.ensures.moment c.pass.ensures.head c.loop-entry.invariant.0
          c.in_ok-put_entry.ensures.ok,
      c.pass.ensures.head,
    )

pub returns-in_err-put_entry-clause-part : goal.returns-in_err-put_entry-clause-part
returns-in_err-put_entry-clause-part g c =
    let none : Entry = entry.Change logic.U 0 in
    on_err _ _ (one_fails (g.W.Write.contents c.args.out.now) (g.W.Write.contents c.loop-entry.out) (g.W.Write.contents c.put_entry.new.out)
    c.args.block.now c.loop-entry.block (map g.N.Named.name_of c.args.names.now) c.args.log.now c.lists.result.0.now c.lists.result.1.now
    c.loop-entry.moment c.pass.new.self c.loop-entry.entry-index (slice_index_or c.lists.result.1.now c.loop-entry.entry-index none) none
    c.pass.new.head.text refl c.loop-entry-test.true c.pass.ensures.moment c.pass.ensures.head c.loop-entry.invariant.0
    c.in_err-put_entry.ensures.part)

pub returns-clause-ok : goal.returns-clause-ok
returns-clause-ok g c =
    all_listed (g.W.Write.contents c.args.out.now) (g.W.Write.contents c.loop-entry.out) c.args.block.now c.loop-entry.block
    (map g.N.Named.name_of c.args.names.now) c.args.log.now c.lists.result.0.now c.lists.result.1.now c.loop-entry.moment c.loop-entry.entry-index
    (omega (arith, c.loop-entry-test.false)) c.loop-entry.invariant.0
