pub mod Assignments
pub mod Dividing
pub mod Executions
pub mod InTurn
pub mod PendingTimes
pub mod Rows
pub mod Shares
pub mod Taking
