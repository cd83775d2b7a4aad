-- Laws that speak of no crate's own subject.
pub mod BoolLaws
pub mod DifferenceLaws
pub mod SignedLaws
pub mod StretchLaws
pub mod MostLaws
pub mod ByteLaws
