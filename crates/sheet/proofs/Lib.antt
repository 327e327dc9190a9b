pub mod Texts
pub mod Lengths
pub mod Determined
pub mod Written
pub mod Theorems
pub mod CompareTheorems
pub mod Compared
