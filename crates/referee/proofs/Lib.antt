pub mod CardsLaws
pub mod LogLaws
pub mod WhyLaws
pub mod RowRight
