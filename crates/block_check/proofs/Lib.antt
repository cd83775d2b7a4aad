-- Laws of a block's check.
pub mod SumLaws
pub mod LaneLaws
pub mod CheckLaws
pub mod Examples
