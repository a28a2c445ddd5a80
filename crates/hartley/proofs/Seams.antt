-- Where one path ends another begins: the seams between paths, and what follows from them about searches and lengths.
pub mod Seams
pub mod OneOrigin
pub mod FoundIsJoined
pub mod LongOutline
