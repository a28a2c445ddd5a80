-- What is shown of the steps: worked sheets, a sheet alone with its table, two rooms run alike, and the bounds that follow.
pub mod Computing
pub mod Sheets
pub mod Finding
pub mod Alone
pub mod Alike
pub mod AlikeDown
pub mod Bounded
pub mod Reaching
pub mod Stopping
pub mod Tops
