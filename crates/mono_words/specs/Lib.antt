pub mod Words
pub mod Ties
pub mod FourWords
