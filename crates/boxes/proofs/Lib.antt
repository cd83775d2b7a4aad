-- Laws of boxes.
pub mod CoordinateLaws
pub mod BoundLaws
pub mod RangeLaws
pub mod PointLaws
pub mod MembershipLaws
pub mod RefusalLaws
pub mod PromiseLaws
pub mod Examples
