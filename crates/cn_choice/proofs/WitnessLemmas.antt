-- Witnesses, and the collisions of other choices.
pub mod CollisionOrder
pub mod Collisions
pub mod Witnesses
