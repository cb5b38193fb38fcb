pub mod Rows
pub mod After
pub mod Laws
pub mod Calls
pub mod Promises
pub mod Worked
