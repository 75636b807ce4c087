mod Readings
mod Writing
