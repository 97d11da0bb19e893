pub mod Cutting
pub mod Lexemes
pub mod Limits
pub mod Pieces
pub mod Scan
pub mod Token
