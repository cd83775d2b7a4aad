-- Laws of values and answers as text.
pub mod ValueLaws
pub mod AnswerLaws
pub mod Examples
