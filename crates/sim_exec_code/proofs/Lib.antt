pub mod ExpressionRules
pub mod StatementRules
mod OperatorsNegated
mod ConditionsTested
pub mod ExpressionsRight
pub mod OneByOne
pub mod BodiesRight
pub mod Slots
pub mod StepsLeft
pub mod StepsRight
pub mod FromTheEnd
pub mod GuardedBodies
pub mod HeldVariables
pub mod Executions
pub mod EdgesMissing
mod AlikeEdges
mod EdgesOfBodies
pub mod QuickBodies
pub mod Assembled
pub mod OperationsCounted
pub mod SharedCodes
pub mod InARow
pub mod ExpressionsFit
pub mod BodiesFit
pub mod StepsFound
mod Needed
mod TimesRise
