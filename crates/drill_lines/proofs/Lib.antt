mod Imaged
mod Weighed
mod Summed
mod Zipped
