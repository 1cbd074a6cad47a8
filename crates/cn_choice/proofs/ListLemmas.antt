-- Lists.
pub mod Arrangements
pub mod DrawnPlaces
pub mod Filters
pub mod Members
pub mod NextLists
pub mod NonDecreasingLists
pub mod Permutations
pub mod SortedTeams
