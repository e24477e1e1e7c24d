pub mod Counts
pub mod Deals
pub mod NewThieves
pub mod ComingHome
