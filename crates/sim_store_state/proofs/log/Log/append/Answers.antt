use Rattle.std.proofs.Common.{◌≡◌, refl, length, arith, ap, sym, ◌∙◌}
use Rattle.std.proofs.lemmas.List.{length-map}
use Rattle.sim_standard.specs.Records.{changes_from}
use Rattle.sim_store_nets.specs.Lists.{NetValues}
use Rattle.sim_store_nets.specs.Nets.{row_from, views_of}
use Rattle.sim_store_nets.proofs.Views.{length-views_of}
use Rattle.sim_store_state.specs.Log.{Logged}
use Rattle.sim_store_state.proofs.Logged.{changes-few, is_recorded, log-appended, room-after}
use Rattle.sim_store_state.proofs.log.Log.append.Goals as goal

pub append_changes-requires-clause-room : goal.append_changes-requires-clause-room
append_changes-requires-clause-room c =
    omega (arith, c.requires.room.entries, ap (λ (l : Logged). l.entries_room) c.self.view_is, c.self.inside.entries.ok.1)

pub begin_record-requires-clause-time : goal.begin_record-requires-clause-time
begin_record-requires-clause-time c = omega (arith, c.requires.room.time, ap (λ (l : Logged). l.times_room) c.self.view_is)

pub begin_record-requires-clause-room : goal.begin_record-requires-clause-room
begin_record-requires-clause-room c =
    let v = c.append_changes.new.values in
    let l = c.args.lists.now in
    let long : length v.present ≡ length c.args.values.now.present =
    ap (λ (w : NetValues). length w.present) c.append_changes.ensures.values
    ∙ (length-map l.sources (row_from l.driving) ∙ sym c.requires.unresolved.sources) in
    let before : length v.present ≡ length v.before =
    long ∙ (sym (ap length c.requires.unresolved.none) ∙ sym (ap (λ (w : NetValues). length w.before) c.append_changes.ensures.values)) in
    room-after c.self.inside.entries.items c.append_changes.new.entries.items (changes_from 0 (views_of v.present v.before)) _ _ _ _ _ _
    c.append_changes.ensures.appended c.self.inside.entries.ok.0 c.append_changes.new.entries.ok.0
    (omega (arith, changes-few (views_of v.present v.before), length-views_of v.present v.before before, long))
    c.append_changes.ensures.capacity (sym (ap (λ (w : Logged). w.entries_room) c.self.view_is)) c.requires.room.entries

pub invariant_of-self : goal.invariant_of-self
invariant_of-self c =
    let v = c.append_changes.new.values in
    let changes = changes_from 0 (views_of v.present v.before) in
    let appended = c.append_changes.ensures.appended in
    let start = c.len-start.ensures ∙ c.self.inside.entries.ok.0 in
    (log-appended c.self.invariant c.args.self.now.records (ap (λ (l : Logged). l.records) c.self.view_is) c.args.time c.args.delta
    changes c.args.self.now.last (ap (λ (l : Logged). l.last) c.self.view_is) c.requires.next
    c.len-start.result c.len.result c.append_changes.new.entries.items _ _ start appended
    (c.len.ensures ∙ c.append_changes.new.entries.ok.0) c.begin_record.ensures.times
    (c.begin_record.ensures.entries c.self.inside.entries.items changes appended start)).log

pub returns-clause-recorded : goal.returns-clause-recorded
returns-clause-recorded c =
    let v = c.append_changes.new.values in
    let changes = changes_from 0 (views_of v.present v.before) in
    let appended = c.append_changes.ensures.appended in
    let start = c.len-start.ensures ∙ c.self.inside.entries.ok.0 in
    is_recorded (log-appended c.self.invariant c.args.self.now.records (ap (λ (l : Logged). l.records) c.self.view_is) c.args.time c.args.delta
    changes c.args.self.now.last (ap (λ (l : Logged). l.last) c.self.view_is) c.requires.next
    c.len-start.result c.len.result c.append_changes.new.entries.items _ _ start appended
    (c.len.ensures ∙ c.append_changes.new.entries.ok.0) c.begin_record.ensures.times
    (c.begin_record.ensures.entries c.self.inside.entries.items changes appended start))
    c.args.self.now _ refl (sym (ap (λ (l : Logged). l.past) c.self.view_is)) refl refl refl
