pub mod Release
pub mod ReleaseCode
pub mod Certified
pub mod Judged
pub mod Accepting
pub mod Orders
