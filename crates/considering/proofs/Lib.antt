pub mod Firsts
pub mod Leads
pub mod Rooms
pub mod Weighs
