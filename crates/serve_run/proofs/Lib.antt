mod Working
pub mod Shares
pub mod Runs
pub mod Done
pub mod Joinings
pub mod Fresh
pub mod Seatings
pub mod SameWorkers
pub mod Doors
