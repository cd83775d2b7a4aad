-- What calls on single values answer and leave in lent memory.
pub mod Values
pub mod Promises
