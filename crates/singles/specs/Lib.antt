-- What a single-precision number is, and when it is exact.
pub mod Singles
