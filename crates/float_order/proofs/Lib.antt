-- Laws of the order of floats.
pub mod FloatLaws
pub mod OrderLaws
