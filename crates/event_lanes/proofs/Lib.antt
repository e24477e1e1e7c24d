pub mod Updates
pub mod Lanes
pub mod Stays
pub mod OpenLanes
pub mod Posting
pub mod Lessons
pub mod Dealing
