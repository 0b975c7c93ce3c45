-- Why a run of the code is a run of the calculus.
pub mod Ruled
pub mod Runs
pub mod Table
pub mod Opening
pub mod Packing
pub mod Behind
pub mod Replaying
