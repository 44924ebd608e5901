pub mod Slices
pub mod Circuits
pub mod InverseBox
pub mod Packing
