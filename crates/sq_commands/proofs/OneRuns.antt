-- Two runs of one request, neither broken off, have one status and write the same.
pub mod Alike
pub mod Words
pub mod Frames
pub mod Lines
pub mod Logs
pub mod Feeds
pub mod Sent
pub mod Replies
pub mod Runs
