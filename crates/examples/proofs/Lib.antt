pub mod Requests
pub mod Printing
pub mod Rows
pub mod Reporting
