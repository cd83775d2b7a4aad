-- Laws of calls on timestamps.
pub mod FieldLaws
pub mod BoundLaws
pub mod Int96Laws
pub mod PromiseLaws
