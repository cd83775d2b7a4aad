-- Laws of reading single values.
pub mod NumberLaws
pub mod FloatLaws
pub mod DayLaws
pub mod DecimalLaws
pub mod LengthLaws
pub mod ReadingLaws
pub mod PlaceLaws
pub mod PromiseLaws
