-- The language: the tokens that spell each tree.
use Rattle.std.specs.Prelude.{Bool, true, false, ◌||◌, List, [], ◌∷◌, map, Option, Some, None, codes}
use Rattle.sim_text_tokens.specs.Token.{Token}
use Rattle.sim_text_tokens.specs.declared.kind.Kind.{Kind}
use Rattle.sim_text_tokens.specs.declared.kind.Kind.TheVariants as k
use Rattle.sim_text_tree.specs.Name.{Name}
use Rattle.sim_logic.specs.declared.operator_symbol.Relational.{Relational}
use Rattle.sim_logic.specs.declared.operator_symbol.Relational.TheVariants as relational
use Rattle.sim_logic.specs.declared.operator_symbol.Logical.{Logical}
use Rattle.sim_logic.specs.declared.operator_symbol.Logical.TheVariants as logical
use Rattle.sim_text_tree.specs.declared.expression.Operand.{Operand}
use Rattle.sim_text_tree.specs.declared.expression.Expression.{Expression}
use Rattle.sim_text_tree.specs.declared.expression.Expression.TheOpen as x
use Rattle.sim_text_tree.specs.declared.expression.Expression.TheFolds as folds
use Rattle.sim_text_tree.specs.declared.waveform.Element.{Element}
use Rattle.sim_text_tree.specs.declared.waveform.ConditionalWaveform.{ConditionalWaveform}
use Rattle.sim_text_tree.specs.declared.waveform.ConditionalWaveforms.{ConditionalWaveforms}
use Rattle.sim_text_tree.specs.declared.waveform.DelayMechanism.{DelayMechanism}
use Rattle.sim_text_tree.specs.declared.waveform.DelayMechanism.TheVariants as delay
use Rattle.sim_text_tree.specs.declared.waveform.ConcurrentSignalAssignment.{ConcurrentSignalAssignment}
use Rattle.sim_text_tree.specs.declared.sequential.SignalAssignment.{SignalAssignment}
use Rattle.sim_text_tree.specs.declared.sequential.VariableAssignment.{VariableAssignment}
use Rattle.sim_text_tree.specs.declared.sequential.Statement.{Statement}
use Rattle.sim_text_tree.specs.declared.sequential.Sequential.{Sequential}
use Rattle.sim_text_tree.specs.declared.sequential.Branch.{Branch}
use Rattle.sim_text_tree.specs.declared.sequential.Statement.TheOpen as s
use Rattle.sim_text_tree.specs.declared.sequential.Statement.TheFolds as sequential
use Rattle.sim_text_tree.specs.declared.declaration.Initial.{Initial}
use Rattle.sim_text_tree.specs.declared.declaration.Initial.TheVariants as initial
use Rattle.sim_text_tree.specs.declared.declaration.Mode.{Mode}
use Rattle.sim_text_tree.specs.declared.declaration.Mode.TheVariants as mode
use Rattle.sim_text_tree.specs.declared.declaration.PortDeclaration.{PortDeclaration}
use Rattle.sim_text_tree.specs.declared.declaration.ObjectDeclaration.{ObjectDeclaration}
use Rattle.sim_text_tree.specs.declared.declaration.ComponentDeclaration.{ComponentDeclaration}
use Rattle.sim_text_tree.specs.declared.declaration.Declaration.{Declaration}
use Rattle.sim_text_tree.specs.declared.declaration.Declaration.TheVariants as declaration
use Rattle.sim_text_tree.specs.declared.unit.Sensitivity.{Sensitivity}
use Rattle.sim_text_tree.specs.declared.unit.Sensitivity.TheVariants as sensitivity
use Rattle.sim_text_tree.specs.declared.unit.Process.{Process}
use Rattle.sim_text_tree.specs.declared.unit.Actual.{Actual}
use Rattle.sim_text_tree.specs.declared.unit.Actual.TheVariants as actual
use Rattle.sim_text_tree.specs.declared.unit.Association.{Association}
use Rattle.sim_text_tree.specs.declared.unit.Instantiated.{Instantiated}
use Rattle.sim_text_tree.specs.declared.unit.Instantiated.TheVariants as instantiated
use Rattle.sim_text_tree.specs.declared.unit.Instance.{Instance}
use Rattle.sim_text_tree.specs.declared.unit.Concurrent.{Concurrent}
use Rattle.sim_text_tree.specs.declared.unit.Concurrent.TheVariants as concurrent
use Rattle.sim_text_tree.specs.declared.unit.SelectedName.{SelectedName}
use Rattle.sim_text_tree.specs.declared.unit.ContextItem.{ContextItem}
use Rattle.sim_text_tree.specs.declared.unit.ContextItem.TheVariants as context
use Rattle.sim_text_tree.specs.declared.unit.Entity.{Entity}
use Rattle.sim_text_tree.specs.declared.unit.Architecture.{Architecture}
use Rattle.sim_text_tree.specs.declared.unit.LibraryUnit.{LibraryUnit}
use Rattle.sim_text_tree.specs.declared.unit.LibraryUnit.TheVariants as library
use Rattle.sim_text_tree.specs.declared.unit.DesignUnit.{DesignUnit}
use Rattle.sim_text_tree.specs.DesignFile.{DesignFile}
use Rattle.sim_text_tree.specs.Limits.{most_parentheses, most_ifs}
use Rattle.sim_text_tree.specs.Times.{TimeLiteral, time_of}
use Rattle.sim_text_tree.specs.Writing.{MarkAt, LiteralAt, NumberAt, UnitWord, This, Writing, nothing, just, mark, never, ◌▸◌, in_parentheses, in_if}
use Rattle.sim_text_tree.specs.Writing.{all_of, separated_by, some_of, if_written, word_at, Fits}

-- ---- expressions (9.1)

-- the token of a relational operator (9.2.3)
abbrev pub relational_kind : Relational → Kind
relational_kind relational.Equal = k.Equal
relational_kind relational.Unequal = k.Unequal

-- the token of a logical operator (9.2.2)
abbrev pub logical_kind : Logical → Kind
logical_kind logical.And = k.And
logical_kind logical.Or = k.Or
logical_kind logical.Xor = k.Xor
logical_kind logical.Xnor = k.Xnor
logical_kind logical.Nand = k.Nand
logical_kind logical.Nor = k.Nor

-- whether the operator may be repeated after its second operand (9.1): `nand` and `nor` may not
abbrev pub is_repeatable : Logical → Bool
is_repeatable logical.Nand = false
is_repeatable logical.Nor = false
is_repeatable _ = true

-- How an expression is spelled where the grammar requires a primary, a factor, a relation or an expression (9.1).
pub record Levels : Type 0 where
  pub as_primary : Writing
  pub as_factor : Writing
  pub as_relation : Writing
  pub as_expression : Writing

-- allowed everywhere
abbrev pub a_primary : Writing → Levels
a_primary w = record { as_primary = w; as_factor = w; as_relation = w; as_expression = w }

-- not a primary
abbrev pub a_factor : Writing → Levels
a_factor w = record { as_primary = never; as_factor = w; as_relation = w; as_expression = w }

-- neither a primary nor a factor
abbrev pub a_relation : Writing → Levels
a_relation w = record { as_primary = never; as_factor = never; as_relation = w; as_expression = w }

-- only an expression
abbrev pub an_expression : Writing → Levels
an_expression w = record { as_primary = never; as_factor = never; as_relation = never; as_expression = w }

-- a logical operator of this kind, and the operand after it
abbrev pub operand_rule : x.Operand-F Levels (Kind → Writing) → Kind → Writing
operand_rule o kind = just (MarkAt kind o.operator_at) ▸ o.operand.as_relation

-- the operands after the second: any number if the operator may be repeated, otherwise none
abbrev pub more_operands : Bool → List Writing → Writing
more_operands true rest = all_of rest
more_operands false [] = nothing
more_operands false (w ∷ ws) = never

-- the operands after the first: one, or any number if the operator may be repeated
abbrev pub operands_rule : Logical → List (Kind → Writing) → Writing
operands_rule operator [] = never
operands_rule operator (second ∷ rest) = second (logical_kind operator) ▸ more_operands (is_repeatable operator) (map (λ o. o (logical_kind operator)) rest)

-- an expression, from the spellings of its parts (9.1)
abbrev pub expression_rule : x.Expression-F Levels (Kind → Writing) → Levels
expression_rule (x.Literal value at) = a_primary (just (LiteralAt value at))
expression_rule (x.Named n) = a_primary (word_at n)
expression_rule (x.Event n) = a_primary (word_at n ▸ mark k.Tick ▸ just (This (codes "event")))
expression_rule (x.Call f a) = a_primary (word_at f ▸ mark k.LeftParen ▸ word_at a ▸ mark k.RightParen)
expression_rule (x.Parenthesized at inner) = a_primary (just (MarkAt k.LeftParen at) ▸ in_parentheses inner.as_expression ▸ mark k.RightParen)
expression_rule (x.Not at operand) = a_factor (just (MarkAt k.Not at) ▸ operand.as_primary)
expression_rule (x.Condition at operand) = an_expression (just (MarkAt k.Condition at) ▸ operand.as_primary)
expression_rule (x.Comparison left operator at right) = a_relation (left.as_factor ▸ just (MarkAt (relational_kind operator) at) ▸ right.as_factor)
expression_rule (x.Chain operator first rest) = an_expression (first.as_relation ▸ operands_rule operator rest)

-- the spellings of an expression
unfoldable pub levels_of : Expression → Levels
levels_of = folds.fold-Expression Levels (Kind → Writing) expression_rule operand_rule

-- an operand after a logical operator of this kind
unfoldable pub of_operand : Operand → Kind → Writing
of_operand = folds.fold-Operand Levels (Kind → Writing) expression_rule operand_rule

-- an expression (9.1)
unfoldable pub of_expression : Expression → Writing
of_expression e = (levels_of e).as_expression

-- a primary (9.1)
unfoldable pub of_primary : Expression → Writing
of_primary e = (levels_of e).as_primary

-- a relation (9.1)
unfoldable pub of_relation : Expression → Writing
of_relation e = (levels_of e).as_relation

-- a factor (9.1)
unfoldable pub of_factor : Expression → Writing
of_factor e = (levels_of e).as_factor

-- ---- waveforms and delays (10.5.2)

-- a time: its number and its unit (5.2.4)
unfoldable pub of_time : TimeLiteral → Writing
of_time t = record { pieces = NumberAt t.digits t.at ∷ UnitWord t.unit ∷ []; parentheses = 0; ifs = 0; latest = time_of t.digits t.unit }

-- `after` and a time, if written
abbrev pub of_after : Option TimeLiteral → Writing
of_after None = nothing
of_after (Some t) = mark k.After ▸ of_time t

-- a waveform element (10.5.2.1)
unfoldable pub of_element : Element → Writing
of_element x = of_expression x.value ▸ of_after x.after

-- a waveform: its elements with commas between them (10.5.2.1)
unfoldable pub of_waveform : List Element → Writing
of_waveform w = separated_by k.Comma (map of_element w)

-- a waveform and its condition (10.5.3)
unfoldable pub of_conditional : ConditionalWaveform → Writing
of_conditional c = of_waveform c.waveform ▸ mark k.When ▸ of_expression c.condition

-- `else` and a waveform without a condition, if written
abbrev pub of_last : Option (List Element) → Writing
of_last None = nothing
of_last (Some w) = mark k.Else ▸ of_waveform w

-- further waveforms, each after an `else`
abbrev pub of_more : List ConditionalWaveform → Option (List Element) → Writing
of_more [] last = of_last last
of_more (c ∷ cs) last = mark k.Else ▸ of_conditional c ▸ of_more cs last

-- waveforms with conditions, and finally a waveform without one, if written
abbrev pub of_alternatives : List ConditionalWaveform → Option (List Element) → Writing
of_alternatives [] None = never
of_alternatives [] (Some w) = of_waveform w
of_alternatives (c ∷ cs) last = of_conditional c ▸ of_more cs last

-- conditional waveforms (10.5.3)
unfoldable pub of_waveforms : ConditionalWaveforms → Writing
of_waveforms c = of_alternatives c.conditional c.otherwise

-- a delay mechanism (10.5.2.1)
abbrev pub of_delay : DelayMechanism → Writing
of_delay delay.Unwritten = nothing
of_delay delay.Transport = mark k.Transport
of_delay delay.Inertial = mark k.Inertial
of_delay (delay.Reject t) = mark k.Reject ▸ of_time t ▸ mark k.Inertial

-- a label, if there is one
abbrev pub labelled : Option Name → Writing
labelled None = nothing
labelled (Some n) = word_at n ▸ mark k.Colon

-- the label repeated, if that is written; only a label that is there can be repeated
abbrev pub label_again : Bool → Option Name → Writing
label_again false label = nothing
label_again true None = never
label_again true (Some n) = just (This n.text)

-- `postponed` repeated, if that is written; only a `postponed` that is there can be repeated
abbrev pub postponed_again : Bool → Bool → Writing
postponed_again false postponed = nothing
postponed_again true false = never
postponed_again true true = mark k.Postponed

-- a concurrent signal assignment (11.6)
unfoldable pub of_concurrent_assignment : ConcurrentSignalAssignment → Writing
of_concurrent_assignment a =
    labelled a.label ▸ if_written a.postponed (mark k.Postponed) ▸ word_at a.target ▸ mark k.SignalAssign ▸ of_delay a.delay ▸
    of_waveforms a.waveforms ▸ mark k.Semicolon

-- ---- sequential statements (10)

-- a signal assignment in a process (10.5.2)
unfoldable pub of_signal_assignment : SignalAssignment → Writing
of_signal_assignment a = word_at a.target ▸ mark k.SignalAssign ▸ of_delay a.delay ▸ of_waveform a.waveform ▸ mark k.Semicolon

-- a variable assignment (10.6)
unfoldable pub of_variable_assignment : VariableAssignment → Writing
of_variable_assignment a = word_at a.target ▸ mark k.VariableAssign ▸ of_expression a.value ▸ mark k.Semicolon

-- `else` and its statements, if written
abbrev pub otherwise_rule : Option (List Writing) → Writing
otherwise_rule None = nothing
otherwise_rule (Some statements) = mark k.Else ▸ all_of statements

-- a statement after this label, from the spellings of its parts (10.1); an if statement may repeat the label (10.8)
abbrev pub statement_rule : s.Statement-F (Option Name → Writing) Writing Writing → Option Name → Writing
statement_rule (s.Signal a) label = of_signal_assignment a
statement_rule (s.Variable a) label = of_variable_assignment a
statement_rule (s.If branches otherwise again) label =
    mark k.If ▸ in_if (separated_by k.Elsif branches ▸ otherwise_rule otherwise) ▸ mark k.End ▸ mark k.If ▸ label_again again label ▸ mark k.Semicolon
statement_rule s.Null label = mark k.Null ▸ mark k.Semicolon

-- a condition, `then`, and statements
abbrev pub branch_rule : s.Branch-F (Option Name → Writing) Writing Writing → Writing
branch_rule b = of_expression b.condition ▸ mark k.Then ▸ all_of b.statements

-- a label, if there is one, and a statement
abbrev pub sequential_rule : s.Sequential-F (Option Name → Writing) Writing Writing → Writing
sequential_rule x = labelled x.label ▸ x.statement x.label

-- a statement after this label
unfoldable pub of_statement : Statement → Option Name → Writing
of_statement = sequential.fold-Statement (Option Name → Writing) Writing Writing statement_rule branch_rule sequential_rule

-- a condition and the statements after its `then`
unfoldable pub of_branch : Branch → Writing
of_branch = sequential.fold-Branch (Option Name → Writing) Writing Writing statement_rule branch_rule sequential_rule

-- a sequential statement (10.1)
unfoldable pub of_sequential : Sequential → Writing
of_sequential = sequential.fold-Sequential (Option Name → Writing) Writing Writing statement_rule branch_rule sequential_rule

-- a sequence of statements (10.1)
unfoldable pub of_sequence : List Sequential → Writing
of_sequence x = all_of (map of_sequential x)

-- the statements after `else`, if written
abbrev pub of_otherwise : Option (List Sequential) → Writing
of_otherwise None = nothing
of_otherwise (Some statements) = mark k.Else ▸ of_sequence statements

-- ---- declarations (6)

-- one name, or several with commas between them
unfoldable pub of_names : List Name → Writing
of_names ns = separated_by k.Comma (map word_at ns)

-- `:=` and an initial value, if written
abbrev pub of_initial : Option Initial → Writing
of_initial None = nothing
of_initial (Some (initial.Literal value at)) = mark k.VariableAssign ▸ just (LiteralAt value at)
of_initial (Some (initial.Named n)) = mark k.VariableAssign ▸ word_at n

-- a mode, if written (6.5.2)
abbrev pub of_mode : Option Mode → Writing
of_mode None = nothing
of_mode (Some mode.In) = mark k.In
of_mode (Some mode.Out) = mark k.Out
of_mode (Some mode.Inout) = mark k.Inout

-- ports of one mode and type mark (6.5.2)
unfoldable pub of_port : PortDeclaration → Writing
of_port p = if_written p.signal (mark k.Signal) ▸ of_names p.names ▸ mark k.Colon ▸ of_mode p.mode ▸ word_at p.mark ▸ of_initial p.initial

-- a port clause, if there are ports (6.5.6.3)
abbrev pub of_ports : List PortDeclaration → Writing
of_ports [] = nothing
of_ports (p ∷ ps) = mark k.Port ▸ mark k.LeftParen ▸ separated_by k.Semicolon (map of_port (p ∷ ps)) ▸ mark k.RightParen ▸ mark k.Semicolon

-- names, their type mark and their initial value
unfoldable pub of_object : ObjectDeclaration → Writing
of_object o = of_names o.names ▸ mark k.Colon ▸ word_at o.mark ▸ of_initial o.initial ▸ mark k.Semicolon

-- a variable declaration (6.4.2.4)
unfoldable pub of_variable : ObjectDeclaration → Writing
of_variable o = mark k.Variable ▸ of_object o

-- a component declaration (6.8)
unfoldable pub of_component : ComponentDeclaration → Writing
of_component c = mark k.Component ▸ word_at c.name ▸ if_written c.is (mark k.Is) ▸ of_ports c.ports ▸ mark k.End ▸ mark k.Component ▸ if_written
    c.name_repeated (just (This c.name.text)) ▸ mark k.Semicolon

-- a declaration of an architecture (3.3.2)
unfoldable pub of_declaration : Declaration → Writing
of_declaration (declaration.Signal o) = mark k.Signal ▸ of_object o
of_declaration (declaration.Component c) = of_component c

-- ---- concurrent statements (11)

-- a sensitivity list (10.2)
abbrev pub of_sensitivity : Sensitivity → Writing
of_sensitivity sensitivity.All = mark k.All
of_sensitivity (sensitivity.Names ns) = of_names ns

-- a process statement (11.3)
unfoldable pub of_process : Process → Writing
of_process p = labelled p.label ▸ if_written p.postponed (mark k.Postponed) ▸ mark k.Process ▸ mark k.LeftParen ▸ of_sensitivity p.sensitivity ▸
    mark k.RightParen ▸ if_written p.is (mark k.Is) ▸ all_of (map of_variable p.variables) ▸ mark k.Begin ▸ of_sequence p.statements ▸ mark k.End ▸
    postponed_again p.postponed_repeated p.postponed ▸ mark k.Process ▸ label_again p.label_repeated p.label ▸ mark k.Semicolon

-- an actual of a port map (6.5.7)
abbrev pub of_actual : Actual → Writing
of_actual (actual.Named n) = word_at n
of_actual (actual.Literal value at) = just (LiteralAt value at)
of_actual (actual.Open at) = just (MarkAt k.Open at)

-- the formal of an association, which is required once one was named
abbrev pub formally : Bool → Option Name → Writing
formally named (Some n) = word_at n ▸ mark k.Arrow
formally false None = nothing
formally true None = never

-- whether an association has a formal
abbrev pub is_named : Option Name → Bool
is_named (Some n) = true
is_named None = false

-- an association; its formal is required once one was named (6.5.7)
abbrev pub of_association : Bool → Association → Writing
of_association named a = formally named a.formal ▸ of_actual a.actual

-- further associations, each after a comma
abbrev pub of_associations : Bool → List Association → Writing
of_associations named [] = nothing
of_associations named (a ∷ more) = mark k.Comma ▸ of_association named a ▸ of_associations (named || is_named a.formal) more

-- a port map, if there are associations
abbrev pub of_port_map : List Association → Writing
of_port_map [] = nothing
of_port_map (a ∷ more) = mark k.Port ▸ mark k.Map ▸ mark k.LeftParen ▸ of_association false a ▸ of_associations (is_named a.formal) more ▸ mark k.RightParen

-- an architecture in parentheses, if written
abbrev pub of_chosen : Option Name → Writing
of_chosen None = nothing
of_chosen (Some n) = mark k.LeftParen ▸ word_at n ▸ mark k.RightParen

-- the component or entity of an instance (11.7)
abbrev pub of_instantiated : Instantiated → Writing
of_instantiated (instantiated.Component written n) = if_written written (mark k.Component) ▸ word_at n
of_instantiated (instantiated.Entity library entity architecture) = mark k.Entity ▸ word_at library ▸ mark k.Dot ▸ word_at entity ▸ of_chosen architecture

-- a component instantiation statement (11.7)
unfoldable pub of_instance : Instance → Writing
of_instance x = word_at x.label ▸ mark k.Colon ▸ of_instantiated x.unit ▸ of_port_map x.associations ▸ mark k.Semicolon

-- a concurrent statement (11.1)
unfoldable pub of_concurrent : Concurrent → Writing
of_concurrent (concurrent.Assignment a) = of_concurrent_assignment a
of_concurrent (concurrent.Process p) = of_process p
of_concurrent (concurrent.Instance x) = of_instance x

-- ---- design units (3, 13)

-- suffixes, each after a dot, and then `.all`, if written
abbrev pub of_suffixes : List Name → Bool → Writing
of_suffixes [] true = mark k.Dot ▸ mark k.All
of_suffixes [] false = nothing
of_suffixes (n ∷ ns) all = mark k.Dot ▸ word_at n ▸ of_suffixes ns all

-- at least one suffix, or `.all`
abbrev pub of_selection : List Name → Bool → Writing
of_selection [] false = never
of_selection [] true = of_suffixes [] true
of_selection (n ∷ ns) all = of_suffixes (n ∷ ns) all

-- a selected name of a use clause (8.3)
unfoldable pub of_selected : SelectedName → Writing
of_selected x = word_at x.prefix ▸ of_selection x.suffixes x.all

-- a library clause or a use clause (13.4)
unfoldable pub of_context_item : ContextItem → Writing
of_context_item (context.Library ns) = mark k.Library ▸ of_names ns ▸ mark k.Semicolon
of_context_item (context.Use xs) = mark k.Use ▸ separated_by k.Comma (map of_selected xs) ▸ mark k.Semicolon

-- an entity declaration (3.2)
unfoldable pub of_entity : Entity → Writing
of_entity x = mark k.Entity ▸ word_at x.name ▸ mark k.Is ▸ of_ports x.ports ▸ mark k.End ▸ if_written x.word_repeated (mark k.Entity) ▸ if_written
    x.name_repeated (just (This x.name.text)) ▸ mark k.Semicolon

-- an architecture body (3.3)
unfoldable pub of_architecture : Architecture → Writing
of_architecture x = mark k.Architecture ▸ word_at x.name ▸ mark k.Of ▸ word_at x.entity ▸ mark k.Is ▸ all_of (map of_declaration x.declarations) ▸
    mark k.Begin ▸ all_of (map of_concurrent x.statements) ▸ mark k.End ▸ if_written x.word_repeated (mark k.Architecture) ▸ if_written
    x.name_repeated (just (This x.name.text)) ▸ mark k.Semicolon

-- a library unit (13.1)
unfoldable pub of_library_unit : LibraryUnit → Writing
of_library_unit (library.Entity x) = of_entity x
of_library_unit (library.Architecture x) = of_architecture x

-- a design unit (13.1)
unfoldable pub of_unit : DesignUnit → Writing
of_unit x = all_of (map of_context_item x.context) ▸ of_library_unit x.library_unit

-- the units of a design file (13.1)
unfoldable pub of_units : List DesignUnit → Writing
of_units xs = some_of (map of_unit xs)

-- The tokens spell these units, within the limits.
abbrev pub AreUnits : List DesignUnit → List Token → Type 0
AreUnits units tokens = Fits most_parentheses most_ifs (of_units units) tokens []

-- The tokens spell this design file, within the limits.
abbrev pub IsFile : DesignFile → List Token → Type 0
IsFile file tokens = AreUnits file.units tokens
