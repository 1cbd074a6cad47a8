pub mod OneProcess
pub mod RoundProtocol
pub mod Solving
