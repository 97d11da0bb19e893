use Rattle.std.proofs.Common.{refl, arith, ap, sym, ◌∙◌}
use Rattle.std.specs.List.{enumerate_from}
use Rattle.std.proofs.lemmas.List.FromFn.{length-enumerate_from}
use Rattle.sim_store_state.specs.Log.{Logged}
use Rattle.sim_store_state.proofs.Logged.{is_recorded, log-appended, room-after}
use Rattle.sim_store_state.proofs.log.Log.append_all.Goals as goal

pub begin_record-requires-clause-room : goal.begin_record-requires-clause-room
begin_record-requires-clause-room c =
    room-after c.self.inside.entries.items c.append_values.new.entries.items (enumerate_from 0 c.args.values.now) _ _ _ _ _ _
    c.append_values.ensures.appended c.self.inside.entries.ok.0 c.append_values.new.entries.ok.0
    (omega (arith, length-enumerate_from 0 c.args.values.now))
    c.append_values.ensures.capacity (sym (ap (λ (l : Logged). l.entries_room) c.self.view_is)) c.requires.room.entries

pub invariant_of-self : goal.invariant_of-self
invariant_of-self c =
    let appended = c.append_values.ensures.appended in
    let start = c.len-start.ensures ∙ c.self.inside.entries.ok.0 in
    (log-appended c.self.invariant c.args.self.now.records (ap (λ (l : Logged). l.records) c.self.view_is) c.args.time c.args.delta
    (enumerate_from 0 c.args.values.now) c.args.self.now.last (ap (λ (l : Logged). l.last) c.self.view_is) c.requires.next
    c.len-start.result c.len.result c.append_values.new.entries.items _ _ start appended
    (c.len.ensures ∙ c.append_values.new.entries.ok.0) c.begin_record.ensures.times
    (c.begin_record.ensures.entries c.self.inside.entries.items (enumerate_from 0 c.args.values.now) appended start)).log

pub returns : goal.returns
returns c =
    let appended = c.append_values.ensures.appended in
    let start = c.len-start.ensures ∙ c.self.inside.entries.ok.0 in
    is_recorded (log-appended c.self.invariant c.args.self.now.records (ap (λ (l : Logged). l.records) c.self.view_is) c.args.time c.args.delta
    (enumerate_from 0 c.args.values.now) c.args.self.now.last (ap (λ (l : Logged). l.last) c.self.view_is) c.requires.next
    c.len-start.result c.len.result c.append_values.new.entries.items _ _ start appended
    (c.len.ensures ∙ c.append_values.new.entries.ok.0) c.begin_record.ensures.times
    (c.begin_record.ensures.entries c.self.inside.entries.items (enumerate_from 0 c.args.values.now) appended start))
    c.args.self.now _ refl (sym (ap (λ (l : Logged). l.past) c.self.view_is)) refl refl refl
