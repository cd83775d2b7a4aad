-- What the contracts of `decimal_bytes` cite: the numbers that bytes stand for, their precision and their order.
pub mod Precision
pub mod Number
pub mod Order
pub mod Fit
pub mod Significant
