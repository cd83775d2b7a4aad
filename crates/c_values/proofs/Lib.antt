-- Laws of calls on single values.
pub mod ValueLaws
pub mod PromiseLaws
