-- Laws of matching.
pub mod Examples
pub mod NthLaws
pub mod NodeLaws
pub mod MatchingLaws
pub mod MatchedLaws
pub mod CandidateLaws
pub mod EndLaws
pub mod PrintLaws
pub mod HeadLaws
pub mod OutcomeLaws
pub mod TakerLaws
pub mod StepsLaws
pub mod SpreadLaws
pub mod FieldsLaws
pub mod NodesLaws
