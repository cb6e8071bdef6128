mod SwapLaws
mod Swap
pub mod Row
mod TopLaws
mod SiftLaws
mod LowestLaws
