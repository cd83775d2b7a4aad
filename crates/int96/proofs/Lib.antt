-- Laws of INT96 values and of the counts that they stand for.
pub mod DayZeroLaws
pub mod ValueLaws
pub mod JoiningLaws
pub mod Examples
