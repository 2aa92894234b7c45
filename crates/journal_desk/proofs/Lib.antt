mod OnePut
mod Stopped
mod Placed
mod Whole
