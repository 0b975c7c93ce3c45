-- Whole numbers by their two sides of zero, and a range about zero.
pub mod Sides
