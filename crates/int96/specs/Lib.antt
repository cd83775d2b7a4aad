-- What the contracts of `int96` cite (document 02, R-10).
pub mod Value
pub mod Outcomes
