mod Ended
mod Carried
mod Chained
mod Turned
mod Served
mod Saved
mod Looked
