-- The laws of corners that other crates may cite.
pub mod AllSigns
pub mod Signs
pub mod Sides
pub mod SidesOfPoints
pub mod Weighing
pub mod Directions
pub mod FourSigns
pub mod Corners
pub mod Sooner
pub mod Sizes
pub mod SameTurn
pub mod Examples
