-- Laws of the order of single values.
pub mod Turning
pub mod WholeLaws
pub mod ByteLaws
pub mod KeyLaws
pub mod RefusalLaws
pub mod OrderLaws
pub mod PromiseLaws
pub mod DecimalLaws
pub mod FaultLaws
