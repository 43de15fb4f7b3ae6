mod Alike
mod Documents
mod Lists
mod Upgrades
