pub mod LowestLaws
pub mod CardLaws
pub mod ClaimLaws
pub mod AdviceLaws
pub mod LineLaws
pub mod TurnLaws
pub mod PlayedLaws
pub mod FailLaws
pub mod TriedLaws
pub mod ReplyLaws
pub mod JudgeLaws
pub mod ShownLaws
pub mod CourseLaws
pub mod NextLaws
mod LineToldLaws
mod BytesLaws
