pub mod Sets
pub mod Stacks
pub mod Moves
pub mod Before
pub mod Cuts
pub mod Handing
pub mod Finished
pub mod Surveying
