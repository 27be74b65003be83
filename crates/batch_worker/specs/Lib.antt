pub mod Linked
pub mod Receiving
pub mod Sending
pub mod Turn
pub mod Told
pub mod Steps
pub mod Owed
pub mod Solo
