pub mod Each
pub mod Cards
pub mod Deals
pub mod Refusals
pub mod Judgements
pub mod Plays
pub mod Apart
pub mod Samples
