pub mod Positions
pub mod Cars
pub mod Runs
pub mod KeptOrders
pub mod Days
pub mod Repairs
