pub mod Keeping
pub mod Grown
pub mod Requests
pub mod Turning
pub mod Named
pub mod LastJoin
pub mod Foretelling
pub mod OneList
