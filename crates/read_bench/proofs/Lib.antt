mod Refusals
mod Scans
mod Texts
