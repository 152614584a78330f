mod Concluding
mod Helping
mod Joining
mod Plain
mod OnWorkers
mod ThroughBuffer
