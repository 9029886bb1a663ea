pub mod Named
pub mod Changed
pub mod Rooms
pub mod Chosen
pub mod Enqueued
pub mod Evicted
