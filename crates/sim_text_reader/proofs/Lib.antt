mod Parts
mod Spelled
mod StatementParts
mod UnitParts
