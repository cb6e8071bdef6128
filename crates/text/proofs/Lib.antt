pub mod EachLaws
pub mod Sofar
pub mod HandLaws
pub mod ReadBack
