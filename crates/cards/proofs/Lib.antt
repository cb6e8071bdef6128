pub mod BitLaws
pub mod SuitLaws
pub mod CountLaws
mod CountBits
pub mod Order
pub mod DealLaws
pub mod GatherLaws
pub mod Finds
mod Standing
mod CardFaults
mod CheckFaults
mod FirstRefusal
mod DealOrder
mod BoardLaws
mod ReadLaws
