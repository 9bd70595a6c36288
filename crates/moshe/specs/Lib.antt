pub mod Moshe
