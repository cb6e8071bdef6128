pub mod Plays
pub mod Row
pub mod Parts
pub mod Refereed
pub mod Right
