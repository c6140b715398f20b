pub mod Meets
pub mod Stop
pub mod Widen
pub mod Prefixes
pub mod Pushed
pub mod Rejecting
