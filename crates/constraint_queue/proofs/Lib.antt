mod Flagging
mod Joining
mod Setting
