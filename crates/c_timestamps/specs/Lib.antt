-- What calls on timestamps answer and leave in lent memory.
pub mod Timestamps
pub mod Int96
pub mod Promises
