pub mod PlayLaws
pub mod BestLaws
pub mod ValueLaws
pub mod OtherSide
mod EqualLaws
pub mod PositionLaws
pub mod MoveLaws
mod WindowLaws
mod SearchLaws
