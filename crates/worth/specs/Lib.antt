pub mod Value
pub mod Statements
pub mod Positions
pub mod Lent
pub mod Search
pub mod Answer
