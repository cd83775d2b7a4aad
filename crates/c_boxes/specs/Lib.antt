-- What calls on boxes answer and leave in lent memory.
pub mod Boxes
pub mod Promises
