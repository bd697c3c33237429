pub mod Ledger
pub mod Run
pub mod RunLaw
