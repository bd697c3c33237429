pub mod Laying
pub mod Going
pub mod Laws
