mod Obeying
mod Replying
mod Settling
