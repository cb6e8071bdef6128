pub mod Rules
pub mod Plays
pub mod Statements
pub mod Led
pub mod Taken
pub mod Moves
