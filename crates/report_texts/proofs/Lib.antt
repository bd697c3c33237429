pub mod Numbers
pub mod Laying
pub mod Law
