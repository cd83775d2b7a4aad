-- Laws of calls on sheets.
pub mod BoundLaws
pub mod PromiseLaws
