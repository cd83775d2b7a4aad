-- Laws of rows as text, and of making a text.
pub mod RowsLaws
pub mod MakingLaws
pub mod GreatestLaws
pub mod PrintedLaws
pub mod Examples
