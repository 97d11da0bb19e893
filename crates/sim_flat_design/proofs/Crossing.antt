-- The flat design and its parts can be sent to another thread and shared with one.
use denote.RattleType.{RattleType}
use denote.Struct.Field.{usize-field, bool-field}
use denote.Param.Send.{IsSend, IsSync, sendable}
use Rattle.std.proofs.Crossing.{crosses}
use Rattle.sim_logic.proofs.logic.Logic.TheSendSync as logic
use Rattle.sim_logic.proofs.time.Time.TheSendSync as time
use Rattle.sim_logic.proofs.operator_symbol.Logical.TheSendSync as logical
use Rattle.sim_logic.proofs.operator_symbol.Relational.TheSendSync as relational
use Rattle.sqlite_items.proofs.items.Items.TheSendSync as items
use Rattle.sqlite_items.proofs.boxed.Boxed.TheSendSync as boxed
use Rattle.sqlite_items.specs.contracts.items.Items as Items
use Rattle.sqlite_items.specs.contracts.boxed.Boxed as Boxed
use Rattle.sim_flat_design.specs.contracts.expression.LogicExpression as LogicExpression
use Rattle.sim_flat_design.specs.contracts.expression.BooleanExpression as BooleanExpression
use Rattle.sim_flat_design.specs.contracts.waveform.Element as Element
use Rattle.sim_flat_design.specs.contracts.waveform.Waveform as Waveform
use Rattle.sim_flat_design.specs.contracts.statement.ConditionalWaveform as ConditionalWaveform
use Rattle.sim_flat_design.specs.contracts.statement.SignalAssignment as SignalAssignment
use Rattle.sim_flat_design.specs.contracts.statement.Statement as Statement
use Rattle.sim_flat_design.specs.contracts.body.Body as Body
use Rattle.sim_flat_design.specs.contracts.process.Process as Process
use Rattle.sim_flat_design.specs.contracts.design.Design as Design
use Rattle.sim_flat_design.proofs.expression.LogicExpression.TheLaws.TheKnot as logic_knot
use Rattle.sim_flat_design.proofs.expression.BooleanExpression.TheLaws.TheKnot as boolean_knot
use Rattle.sim_flat_design.proofs.statement.Statement.TheLaws.TheKnot as statement_knot
use Rattle.sim_flat_design.proofs.held.Held.TheSendSync as held
use Rattle.sim_flat_design.proofs.statement.Delay.TheSendSync as delay
use Rattle.sim_flat_design.proofs.process.ObjectNets.TheSendSync as object_nets
use Rattle.sim_flat_design.proofs.design.Net.TheSendSync as net
use Rattle.sim_flat_design.proofs.design.DriverOf.TheSendSync as driver

size_send : IsSend (usize-field).row
size_send = search sendable depth 10

size_sync : IsSync (usize-field).row
size_sync = search sendable depth 10

truth_send : IsSend (bool-field).row
truth_send = search sendable depth 10

truth_sync : IsSync (bool-field).row
truth_sync = search sendable depth 10

items_send : (h : RattleType) → IsSend h → IsSend (Items.the_row h)
items_send h s = search (items.the_send, sendable) depth 10

items_sync : (h : RattleType) → IsSync h → IsSync (Items.the_row h)
items_sync h s = search (items.the_sync, sendable) depth 10

ruleset of_lists = (items_send, items_sync, crosses, sendable)

boxed_send : (h : RattleType) → IsSend h → IsSend (Boxed.the_row h)
boxed_send h s = search (boxed.the_send, sendable) depth 10

boxed_sync : (h : RattleType) → IsSync h → IsSync (Boxed.the_row h)
boxed_sync h s = search (boxed.the_sync, sendable) depth 10

logic_expression_send : IsSend (LogicExpression.the_field).row
logic_expression_send = logic_knot.send-LogicExpression logic.the_field_send size_send boxed_send logical.the_field_send items_send

logic_expression_sync : IsSync (LogicExpression.the_field).row
logic_expression_sync = logic_knot.sync-LogicExpression logic.the_field_sync size_sync boxed_sync logical.the_field_sync items_sync

logic_row_send : IsSend LogicExpression.the_row
logic_row_send = search (logic_expression_send, sendable) depth 5

logic_row_sync : IsSync LogicExpression.the_row
logic_row_sync = search (logic_expression_sync, sendable) depth 5

boxed_logic_send : IsSend (Boxed.the_row LogicExpression.the_row)
boxed_logic_send = boxed_send LogicExpression.the_row logic_row_send

boxed_logic_sync : IsSync (Boxed.the_row LogicExpression.the_row)
boxed_logic_sync = boxed_sync LogicExpression.the_row logic_row_sync

boolean_expression_send : IsSend (BooleanExpression.the_field).row
boolean_expression_send =
    boolean_knot.send-BooleanExpression truth_send size_send boxed_send logical.the_field_send items_send logic_expression_send boxed_logic_send
    relational.the_field_send

boolean_expression_sync : IsSync (BooleanExpression.the_field).row
boolean_expression_sync =
    boolean_knot.sync-BooleanExpression truth_sync size_sync boxed_sync logical.the_field_sync items_sync logic_expression_sync boxed_logic_sync
    relational.the_field_sync

element_send : IsSend Element.the_row
element_send = search (logic_expression_send, time.the_send, sendable) depth 10

element_sync : IsSync Element.the_row
element_sync = search (logic_expression_sync, time.the_sync, sendable) depth 10

waveform_send : IsSend Waveform.the_row
waveform_send = search (element_send, items_send, sendable) depth 10

waveform_sync : IsSync Waveform.the_row
waveform_sync = search (element_sync, items_sync, sendable) depth 10

conditional_send : IsSend ConditionalWaveform.the_row
conditional_send = search (waveform_send, boolean_expression_send, sendable) depth 10

conditional_sync : IsSync ConditionalWaveform.the_row
conditional_sync = search (waveform_sync, boolean_expression_sync, sendable) depth 10

signal_send : IsSend (SignalAssignment.the_field).row
signal_send = search (conditional_send, waveform_send, delay.the_field_send, items_send, sendable) depth 20

signal_sync : IsSync (SignalAssignment.the_field).row
signal_sync = search (conditional_sync, waveform_sync, delay.the_field_sync, items_sync, sendable) depth 20

statement_field_send : IsSend (Statement.the_field).row
statement_field_send = statement_knot.send-Statement signal_send size_send logic_expression_send boolean_expression_send items_send

statement_field_sync : IsSync (Statement.the_field).row
statement_field_sync = statement_knot.sync-Statement signal_sync size_sync logic_expression_sync boolean_expression_sync items_sync

pub statement_send : IsSend Statement.the_row
statement_send = search (statement_field_send, sendable) depth 5

pub statement_sync : IsSync Statement.the_row
statement_sync = search (statement_field_sync, sendable) depth 5

pub body_send : IsSend Body.the_row
body_send = search (statement_send, statement_sync, held.the_send, held.the_sync, of_lists) depth 40

pub body_sync : IsSync Body.the_row
body_sync = search (statement_send, statement_sync, held.the_send, held.the_sync, of_lists) depth 40

pub process_send : IsSend Process.the_row
process_send = search (body_send, body_sync, object_nets.the_send, object_nets.the_sync, of_lists) depth 40

pub process_sync : IsSync Process.the_row
process_sync = search (body_send, body_sync, object_nets.the_send, object_nets.the_sync, of_lists) depth 40

pub design_send : IsSend Design.the_row
design_send = search (process_send, process_sync, net.the_send, net.the_sync, driver.the_send, driver.the_sync, of_lists) depth 40

pub design_sync : IsSync Design.the_row
design_sync = search (process_send, process_sync, net.the_send, net.the_sync, driver.the_send, driver.the_sync, of_lists) depth 40

pub ruleset design_crosses = (body_send, body_sync, process_send, process_sync, design_send, design_sync)
