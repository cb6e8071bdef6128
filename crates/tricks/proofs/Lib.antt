pub mod CountLaws
pub mod SuitLaws
pub mod TrickLaws
pub mod MayLaws
mod MaskLaws
pub mod BoardLaws
pub mod Stays
pub mod CardsLeft
pub mod AfterLaws
pub mod Same
mod Anywhere
mod Worked
