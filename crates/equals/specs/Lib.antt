pub mod Equals
pub mod Lowest
pub mod Covered
pub mod Serves
